-- Worked histories of the atomic law, each decided by computing the ways that a unit may have gone.
use Rattle.atomic_histories.proofs.Links.{IsAlone}
use Rattle.std.proofs.Common.{ℕ, ◌≡◌, Bool, true, false, ◌&&◌, ◌||◌, not, List, [], ◌∷◌, ◌++◌, fold, refl, ap}
use Rattle.std.specs.List.{list_any}
use Rattle.std.proofs.lemmas.Bool.{and_parts}
use Rattle.std.specs.Borrow.{Bor}
use Rattle.memory_histories.specs.declared.events.HistoryEvent.{HistoryEvent}
use Rattle.memory_histories.specs.declared.events.HistoryEvent.TheVariants.{LoadRequest, LoadResponse, StoreRequest, StoreResponse}
use Rattle.memory_histories.specs.declared.events.Rest.{Rest}
use Rattle.memory_histories.specs.declared.events.TheConstants.{ALL_ENABLED}
use Rattle.memory_histories.specs.declared.events.Rest.TheVariants.{Zeros, Unknown}
use Rattle.atomic_histories.specs.declared.unit.UnitPlace.{UnitPlace}
use Rattle.atomic_histories.specs.Words.{written, is_word_of}
use Rattle.atomic_histories.specs.Law.{IsAtomicAt, untouched}
use Rattle.atomic_histories.specs.Followed.{Ways, first_ways, has_way, is_same_pair, is_under, ways_after}
use Rattle.atomic_histories.specs.Stands.{StandsFor}
use Rattle.atomic_histories.proofs.Exact.{IsAloneFor, AlwaysAlone, stands_by}
use Rattle.atomic_histories.proofs.Whole.{state_from, none_from}

-- the unit of two bytes at 4096
abbrev pair : UnitPlace
pair = record { first = 4096; size = 2 }

abbrev ways : Rest → List HistoryEvent → Ways
ways rest history = fold (ways_after pair) (first_ways [] rest pair) history

-- Each load is the only one under its number. ----

abbrev is_alone : {X : Type 0} → (X → Bool) → List X → Bool
is_alone p [] = true
is_alone p (x ∷ xs) = (not (p x) || not (list_any p xs)) && is_alone p xs

alone_one : (a b : Bool) → (not a || not b) ≡ true → a ≡ true → b ≡ false
alone_one true false h t = refl
alone_one _ _ h t = cc

alone_from : {X : Type 0} (p : X → Bool) (xs : List X) → is_alone p xs ≡ true → IsAlone p xs
alone_from p [] h = tt
alone_from p (x ∷ xs) h =
    let r = and_parts _ _ h in
    (alone_one (p x) _ r.0, alone_from p xs r.1)

abbrev is_alone_for : Ways → HistoryEvent → Bool
is_alone_for u (LoadResponse number bytes) = is_alone (is_under number) u.loads
is_alone_for u event = true

abbrev are_alone : Ways → List HistoryEvent → Bool
are_alone u [] = true
are_alone u (event ∷ events) = is_alone_for u event && are_alone (ways_after pair u event) events

event_alone : (u : Ways) (event : HistoryEvent) → is_alone_for u event ≡ true → IsAloneFor u event
event_alone u (LoadResponse number bytes) h = alone_from _ u.loads h
event_alone u _ h = tt

always : (u : Ways) (history : List HistoryEvent) → are_alone u history ≡ true → AlwaysAlone pair u history
always u [] h = tt
always u (event ∷ events) h =
    let r = and_parts _ _ h in
    (event_alone u event r.0, always (ways_after pair u event) events r.1)

-- The law, decided. ----

-- whether the loads are alone, and whether a way is left
abbrev decided : Rest → List HistoryEvent → Bool × Bool
decided rest history = (are_alone (first_ways [] rest pair) history, has_way (ways rest history))

alone_in : (rest : Rest) (history : List HistoryEvent) (b : Bool) → decided rest history ≡ (true, b)
    → StandsFor (untouched [] rest pair) pair (ways rest history) history
alone_in rest history b h =
    stands_by [] rest pair history (always _ history (ap (λ p. p.0) h))

passes_by : (rest : Rest) (history : List HistoryEvent) → decided rest history ≡ (true, true) → IsAtomicAt [] rest pair history
passes_by rest history h =
    state_from _ pair history _ (alone_in rest history true h) (ap (λ p. p.1) h)

module _ (history : List HistoryEvent) where
  passes : decided Zeros history ≡ (true, true) → IsAtomicAt [] Zeros pair history
  passes h = passes_by Zeros history h

  stops : decided Zeros history ≡ (true, false) → ¬ (IsAtomicAt [] Zeros pair history)
  stops h =
      none_from _ pair history _ (alone_in Zeros history false h) (ap (λ p. p.1) h)

  unknown_passes : decided Unknown history ≡ (true, true) → IsAtomicAt [] Unknown pair history
  unknown_passes h = passes_by Unknown history h

abbrev bytes : List ℕ → Bor (List ℕ)
bytes xs = record { ref_ptr = (0, 0); now = xs }

-- a load of so many bytes at 4096 that is requested and answered
abbrev load : ℕ → ℕ → List ℕ → List HistoryEvent
load number length xs = LoadRequest number 4096 length ALL_ENABLED ∷ LoadResponse number (bytes xs) ∷ []

-- two stores of a word of two bytes that overlap
abbrev two_stores : List HistoryEvent
two_stores = StoreRequest 1 4096 (bytes (17 ∷ 17 ∷ [])) 3 ∷ StoreRequest 2 4096
    (bytes (34 ∷ 34 ∷ [])) 3 ∷ StoreResponse 1 ∷ StoreResponse 2 ∷ []

-- while a store is open, loads may see what was there before, then what it stores
pub old_then_new : IsAtomicAt [] Zeros pair (StoreRequest 1 4096 (bytes (90 ∷ [])) 1 ∷ [] ++ load 1 1 (0 ∷ []) ++ load 2 1 (90 ∷ []))
unfolding written is_word_of is_same_pair
old_then_new = passes _ refl

-- new then old: one load sees the store, and a later one doesn't. The regular law lets it through
pub new_then_old : ¬ (IsAtomicAt [] Zeros pair (StoreRequest 1 4096 (bytes (90 ∷ [])) 1 ∷ [] ++ load 1 1 (90 ∷ []) ++ load 2 1 (0 ∷ [])))
unfolding written is_word_of is_same_pair
new_then_old = stops _ refl

-- two overlapping stores: a load behind them sees either, and not what stood there before
pub the_first_of_two : IsAtomicAt [] Zeros pair (two_stores ++ load 1 2 (17 ∷ 17 ∷ []))
unfolding written is_word_of is_same_pair
the_first_of_two = passes _ refl

pub the_second_of_two : IsAtomicAt [] Zeros pair (two_stores ++ load 1 2 (34 ∷ 34 ∷ []))
unfolding written is_word_of is_same_pair
the_second_of_two = passes _ refl

pub none_of_two : ¬ (IsAtomicAt [] Zeros pair (two_stores ++ load 1 2 (0 ∷ 0 ∷ [])))
unfolding written is_word_of is_same_pair
none_of_two = stops _ refl

-- a torn word: no order gives it. The regular law lets it through
pub a_torn_word : ¬ (IsAtomicAt [] Zeros pair (two_stores ++ load 1 2 (17 ∷ 34 ∷ [])))
unfolding written is_word_of is_same_pair
a_torn_word = stops _ refl

-- two loads behind them see the same
pub both_of_two : ¬ (IsAtomicAt [] Zeros pair (two_stores ++ load 1 2 (17 ∷ 17 ∷ []) ++ load 1 2 (34 ∷ 34 ∷ [])))
unfolding written is_word_of is_same_pair
both_of_two = stops _ refl

-- a store of the first byte alone settles that byte, and leaves its neighbour's choice
abbrev one_byte_stored : List HistoryEvent
one_byte_stored = two_stores ++ StoreRequest 3 4096 (bytes (51 ∷ 51 ∷ [])) 1 ∷ StoreResponse 3 ∷ []

pub a_neighbour_stays : IsAtomicAt [] Zeros pair (one_byte_stored ++ load 1 2 (51 ∷ 34 ∷ []))
unfolding written is_word_of is_same_pair
a_neighbour_stays = passes _ refl

pub a_byte_is_settled : ¬ (IsAtomicAt [] Zeros pair (one_byte_stored ++ load 1 2 (17 ∷ 17 ∷ [])))
unfolding written is_word_of is_same_pair
a_byte_is_settled = stops _ refl

-- a byte that no store has covered may be anything, each time
pub unknown_each_time : IsAtomicAt [] Unknown pair (load 1 2 (1 ∷ 2 ∷ []) ++ load 1 2 (3 ∷ 4 ∷ []))
unfolding written is_word_of is_same_pair
unknown_each_time = unknown_passes _ refl

-- a load that is open while a store is answered may have got either word, and which one it got binds the loads behind it
pub an_open_load_binds : ¬
    (IsAtomicAt [] Zeros pair
    (StoreRequest 1 4096 (bytes (17 ∷ 17 ∷ [])) 3 ∷ StoreRequest 2 4096
    (bytes (34 ∷ 34 ∷ [])) 3 ∷ StoreResponse 1 ∷ LoadRequest 1 4096 2 ALL_ENABLED ∷ LoadResponse 1
    (bytes (34 ∷ 34 ∷ [])) ∷ LoadRequest 2 4096 2 ALL_ENABLED ∷ LoadResponse 2 (bytes (17 ∷ 17 ∷ [])) ∷ []))
unfolding written is_word_of is_same_pair
an_open_load_binds = stops
    _ refl
