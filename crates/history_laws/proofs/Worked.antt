-- Worked cuts: a lost store, which two operations show, and a cut that isn't closed.
use Rattle.std.proofs.Common.{◌≡◌, ℕ, ◌+◌, ◌≤◌, true, false, List, [], ◌∷◌, ◌++◌, nat_le, inl, inr, refl, arith}
use Rattle.std.specs.Borrow.{Bor}
use Rattle.std.proofs.lemmas.Bool.{both_ways}
use Rattle.memory_histories.specs.declared.events.HistoryEvent.{HistoryEvent}
use Rattle.memory_histories.specs.declared.events.TheConstants.{ALL_ENABLED}
use Rattle.memory_histories.specs.declared.events.HistoryEvent.TheVariants.{LoadRequest, LoadResponse, StoreRequest, StoreResponse}
use Rattle.memory_histories.specs.declared.events.Rest.TheVariants.{Zeros}
use Rattle.atomic_histories.specs.declared.unit.UnitPlace.{UnitPlace}
use Rattle.atomic_histories.specs.Words.{written, is_word_of}
use Rattle.atomic_histories.specs.Law.{IsAtomic, IsAtomicAt, starts, steps, sees}
use Rattle.history_laws.specs.Cuts.{Cut, what_stays, is_closed}
use Rattle.history_laws.proofs.Pieces.{Marked}
use Rattle.history_laws.proofs.Atomic.{allowed_byte}
use Rattle.history_laws.proofs.Cuts.{cut_refutes}

abbrev bytes : List ℕ → Bor (List ℕ)
bytes xs = record { ref_ptr = (0, 0); now = xs }

-- the unit of two bytes at 4096
abbrev pair : UnitPlace
pair = record { first = 4096; size = 2 }

-- a store and a load of the byte at 4096, answered at once
abbrev store : ℕ → ℕ → List HistoryEvent
store number b = StoreRequest number 4096 (bytes (b ∷ [])) 1 ∷ StoreResponse number ∷ []

abbrev load : ℕ → ℕ → List HistoryEvent
load number b = LoadRequest number 4096 1 ALL_ENABLED ∷ LoadResponse number (bytes (b ∷ [])) ∷ []

-- what was requested from a moment on stays
abbrev from : ℕ → Cut
from moment = nat_le moment

-- Store 4 is lost: load 5 is answered what store 1 left. ----

abbrev with_lost : List HistoryEvent
with_lost = store 1 17 ++ load 3 17 ++ store 4 51 ++ load 5 17

pub two_stay : what_stays (from 4) with_lost ≡ store 4 51 ++ load 5 17
two_stay = refl

-- load 3 may have got its byte from store 1, and goes with it. Load 5 may not: store 4 overwrote it
pub both_go : is_closed pair (from 4) with_lost ≡ true
both_go = refl

pub one_goes : is_closed pair (from 2) with_lost ≡ false
one_goes = refl

two_are_wrong : ¬ (IsAtomicAt [] Zeros pair (store 4 51 ++ load 5 17))
two_are_wrong h =
    let k : Marked ℕ = record { operation = record { number = 5; address = 4096; length = 1; enables = ALL_ENABLED }; mark = 2 } in
    both_ways false refl (allowed_byte [] Zeros pair 0 (omega arith) (omega arith) (store 4 51 ++ LoadRequest 5 4096 1 ALL_ENABLED
    ∷ []) 5 (bytes
    (17 ∷ [])) h refl k refl (omega arith) (omega arith) refl 17 tt refl)

-- so the history is wrong, whatever else it holds
pub a_lost_store : ¬ (IsAtomic [] Zeros 2 with_lost)
a_lost_store = cut_refutes [] Zeros 2 2048 (from 4) with_lost refl two_are_wrong

-- A right history of which a cut that isn't closed leaves a wrong one. ----

abbrev right : List HistoryEvent
right = store 1 17 ++ load 2 17

pub is_right : IsAtomicAt [] Zeros pair right
unfolding written is_word_of
is_right = (
  _,
  sees _ _ _ _ (steps _ _ _ (sees _ _ _ _ (sees _ _ _ _ (steps _ _ _ (sees _ _ _ _ starts refl) (inl ([], _, [], refl, refl, refl))) refl)
      refl) (inr ([], _, [], refl, refl, refl))) refl,
)

pub not_closed : is_closed pair (from 2) right ≡ false
not_closed = refl

pub its_load_is_wrong : ¬ (IsAtomicAt [] Zeros pair (what_stays (from 2) right))
its_load_is_wrong h =
    let k : Marked ℕ = record { operation = record { number = 2; address = 4096; length = 1; enables = ALL_ENABLED }; mark = 0 } in
    both_ways false refl (allowed_byte [] Zeros pair 0 (omega arith) (omega arith) (LoadRequest 2 4096 1 ALL_ENABLED
    ∷ []) 2 (bytes (17 ∷ [])) h refl k
    refl (omega arith) (omega arith) refl 17 tt refl)

-- A store that is never answered overwrites nothing, and one that is answered between the two does. ----

pub open_between : is_closed pair (from 2) (store 1 17 ++ StoreRequest 3 4096 (bytes (51 ∷ [])) 1 ∷ load 2 17) ≡ false
open_between = refl

pub answered_between : is_closed pair (from 2) (store 1 17 ++ store 3 51 ++ load 2 17) ≡ true
answered_between = refl
