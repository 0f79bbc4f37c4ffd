-- How the judge follows a unit: to each pair of the word that stands there now and the open stores that have taken effect to which ways
-- may have come, what stood there before on these ways.
use Rattle.std.specs.Prelude.{ℕ, Bool, true, false, ◌&&◌, ◌||◌, not, if◌then◌else◌, ◌==◌, nat_lt, nat_le, ◌+◌, List, [], ◌∷◌, ◌++◌, map}
use Rattle.std.specs.Prelude.{length, get_or, Option, Some, None, is_some, max, zero, suc}
use Rattle.std.specs.List.{filter, list_any, find, fold}
use Rattle.std.specs.Option.{option_eq}
use Rattle.std.specs.Cmp.Lexicographic.{pointwise}
use mathlib.Core.Bool.{beq}
use Rattle.memory_histories.specs.declared.events.HistoryEvent.{HistoryEvent}
use Rattle.memory_histories.specs.declared.events.HistoryEvent.TheVariants.{LoadRequest, LoadResponse, StoreRequest, StoreResponse}
use Rattle.memory_histories.specs.declared.events.Rest.{Rest}
use Rattle.atomic_histories.specs.declared.unit.OpenStore.{OpenStore}
use Rattle.atomic_histories.specs.declared.unit.UnitPlace.{UnitPlace}
use Rattle.atomic_histories.specs.declared.unit.LoadAddress.{LoadAddress}
use Rattle.atomic_histories.specs.declared.unit.WatchedLoad.{WatchedLoad}
use Rattle.atomic_histories.specs.declared.search.TheConstants.{MOST_WORDS}
use Rattle.atomic_histories.specs.Words.{at_unit, initial_byte, stored_byte, reads_from, is_at, written, is_word_of}
use Rattle.atomic_histories.specs.Law.{done_store, is_store, may_answer_store}
use Rattle.atomic_histories.specs.Pasts.{Past, begins, Stood, merged, got, missed, oldest, cut_for, overwritten, seen_since}
use Rattle.atomic_histories.specs.Branches.{Watched, Branch, may_come}

-- a pair of a word and of open stores, some in effect, to which ways may have come, and what stood there before on them
pub record Pair : Type 0 where
  pub word : List (Option ℕ)
  pub stores : List OpenStore
  pub past : Past

-- the ways that a unit may have gone: the loads that are open there, how many have been requested since there were none, and the pairs
-- to which ways have come
pub record Ways : Type 0 where
  pub loads : List WatchedLoad
  pub moment : ℕ
  pub pairs : List Pair

-- no way: the unit was forgotten
abbrev pub no_ways : Ways
no_ways = record { loads = []; moment = 0; pairs = [] }

-- a unit that no operation has touched
abbrev pub first_pair : List ℕ → Rest → UnitPlace → Pair
first_pair image rest unit = record { word = at_unit unit (initial_byte image rest); stores = []; past = begins }

abbrev pub first_ways : List ℕ → Rest → UnitPlace → Ways
first_ways image rest unit = record { loads = []; moment = 0; pairs = first_pair image rest unit ∷ [] }

abbrev pub has_pair : List Pair → Bool
has_pair [] = false
has_pair (e ∷ es) = true

abbrev pub has_way : Ways → Bool
has_way u = has_pair u.pairs

-- The ways to a pair. ----

-- an open load, on a way on which these words stood there
abbrev pub watched : List Stood → WatchedLoad → Watched
watched path l = record { number = l.number; address = l.address; words = seen_since l.since path }

abbrev pub way_on : List WatchedLoad → Pair → List Stood → Branch
way_on loads e path = record { word = e.word; stores = e.stores; loads = map (watched path) loads }

-- A store takes effect. ----

-- the ways to a pair go on: this store takes effect, which stands between those. The word of now is overwritten
abbrev pub pair_after : Past → Pair → List OpenStore → OpenStore → List OpenStore → Pair
pair_after past e before s after = record { word = written s.bytes e.word; stores = before ++ done_store s ∷ after; past = past }

abbrev pub cons_effect : Bool → Pair → List Pair → List Pair
cons_effect true e es = es
cons_effect false e es = e ∷ es

-- the pairs to which the ways go on: one of the stores takes effect that haven't yet
abbrev pub effects_from : Past → Pair → List OpenStore → List OpenStore → List Pair
effects_from past e before [] = []
effects_from past e before (s ∷ after) =
    cons_effect s.is_done (pair_after past e before s after) (effects_from past e (before ++ s ∷ []) after)

abbrev pub effects : List WatchedLoad → ℕ → Pair → List Pair
effects loads moment e = effects_from (overwritten loads moment e.word e.past) e [] e.stores

-- Ways to one pair are kept together. ----

abbrev pub is_same_word : List (Option ℕ) → List (Option ℕ) → Bool
is_same_word a b = pointwise (option_eq ◌==◌) a b

-- the same, lane by lane: of so many lanes from one on
abbrev pub are_same_lanes : ℕ → ℕ → List (Option ℕ) → List (Option ℕ) → Bool
are_same_lanes k zero a b = true
are_same_lanes k (suc n) a b = option_eq ◌==◌ (get_or a k None) (get_or b k None) && are_same_lanes (suc k) n a b

abbrev pub is_same_store : OpenStore → OpenStore → Bool
is_same_store a b = (a.number == b.number) && (is_same_word a.bytes b.bytes && beq a.is_done b.is_done)

-- whether it is one pair: one word, and of the same stores the same have taken effect
unfoldable pub is_same_pair : Pair → Pair → Bool
is_same_pair a b = is_same_word a.word b.word && pointwise is_same_store a.stores b.stores

-- the ways to a pair, and others to the same
abbrev pub merged_pair : Pair → Pair → Pair
merged_pair f e = record { word = f.word; stores = f.stores; past = merged f.past e.past }

-- pairs, and one more unless it is among them
abbrev pub with_pair : List Pair → Pair → List Pair
with_pair [] e = e ∷ []
with_pair (f ∷ fs) e = if is_same_pair f e then merged_pair f e ∷ fs else f ∷ with_pair fs e

abbrev pub with_pairs : List Pair → List Pair → List Pair
with_pairs es more = fold with_pair es more

-- The ways on which a goal is met. ----

-- what an answer needs of a pair: that it meets the goal; and whether one may come to that once more of its stores take effect
pub record Aim : Type 0 where
  pub goal : Pair → Bool
  pub hope : Pair → Bool

-- nothing is needed: all that stores lead to is followed
abbrev pub never : Aim
never = record { goal = λ e. false; hope = λ e. true }

-- a store has taken effect, which may always be the next to do so
abbrev pub effect_aim : ℕ → Aim
effect_aim number = record { goal = λ e. may_answer_store number e.stores; hope = λ e. true }

-- the word of now is one of which these are the bytes that a load from there reads
abbrev pub word_aim : UnitPlace → LoadAddress → List ℕ → Aim
word_aim unit address bytes = record {
  goal = λ e. is_word_of unit.first e.word address bytes;
  hope = λ e. may_come unit address bytes e.word e.stores;
}

abbrev pub out_of : (Pair → Bool) → List Pair → Pair → List Pair
out_of goal out e = if goal e then with_pair out e else out

-- the pairs that stores lead to from those that don't meet the goal, with these loads open at this moment
abbrev pub next_of : List WatchedLoad → ℕ → Aim → List Pair → Pair → List Pair
next_of loads moment aim next e =
    if aim.goal e then next else with_pairs next (filter aim.hope (effects loads moment e))

-- those that meet the goal, found so far, and those that stores lead to from the others
abbrev pub out_after : (Pair → Bool) → List Pair → List Pair → List Pair
out_after goal out es = fold (out_of goal) out es

abbrev pub next_after : List WatchedLoad → ℕ → Aim → List Pair → List Pair
next_after loads moment aim es = fold (next_of loads moment aim) [] es

-- from these on stores take effect, one after the other, until the goal is met
abbrev pub met : List WatchedLoad → ℕ → ℕ → Aim → List Pair → List Pair → List Pair
met loads moment zero aim out es = out
met loads moment (suc n) aim out es = met loads moment n aim (out_after aim.goal out es) (next_after loads moment aim es)

-- how many rounds that takes at most, behind the first
abbrev pub rounds : List Pair → ℕ
rounds es = fold (λ n e. max n (length e.stores)) 0 es

abbrev pub found : List WatchedLoad → ℕ → Aim → List Pair → List Pair → List Pair
found loads moment aim out es = met loads moment (suc (rounds es)) aim out es

-- whether more pairs are followed at a time, or found, than the limit
abbrev pub are_too_many : ℕ → List Pair → Bool
are_too_many limit es = nat_lt limit (length es)

abbrev pub is_over : ℕ → List WatchedLoad → ℕ → ℕ → Aim → List Pair → List Pair → Bool
is_over limit loads moment zero aim out es = false
is_over limit loads moment (suc n) aim out es =
    (are_too_many limit es || are_too_many limit out)
    || is_over limit loads moment n aim (out_after aim.goal out es) (next_after loads moment aim es)

-- whether a search needs more
abbrev pub needs_more : ℕ → List WatchedLoad → ℕ → Aim → List Pair → List Pair → Bool
needs_more limit loads moment aim out es =
    is_over limit loads moment (rounds es) aim (out_after aim.goal out es) (next_after loads moment aim es)

-- A load is answered. ----

abbrev pub is_under : ℕ → WatchedLoad → Bool
is_under number l = l.number == number

-- whether a load since a moment may have got what stood there, if its answer is these bytes
abbrev pub is_answer : UnitPlace → LoadAddress → ℕ → List ℕ → Stood → Bool
is_answer unit address since bytes s = nat_le since s.moment && is_word_of unit.first s.word address bytes

abbrev pub pair_on : Pair → Option Past → Option Pair
pair_on e None = None
pair_on e (Some p) = Some (record { word = e.word; stores = e.stores; past = p })

-- the ways to a pair on which it may have got its answer, if there are any, and the others
abbrev pub pair_got : UnitPlace → List ℕ → WatchedLoad → Pair → Option Pair
pair_got unit bytes l e =
    if is_word_of unit.first e.word l.address bytes then Some e else pair_on e (got (is_answer unit l.address l.since bytes) e.past)

abbrev pub pair_missed : UnitPlace → List ℕ → WatchedLoad → Pair → Option Pair
pair_missed unit bytes l e =
    if is_word_of unit.first e.word l.address bytes then None else pair_on e (missed (is_answer unit l.address l.since bytes) e.past)

abbrev pub cons_any : Option Pair → List Pair → List Pair
cons_any None es = es
cons_any (Some e) es = e ∷ es

abbrev pub gathered : (Pair → Option Pair) → List Pair → List Pair
gathered f [] = []
gathered f (e ∷ es) = cons_any (f e) (gathered f es)

-- those that may have come to an answer in time: not those without hope
abbrev pub with_hope : Aim → List Pair → List Pair
with_hope aim es = filter aim.hope es

-- the pairs on whose ways the load under a number may have got these bytes, once stores take effect where they have to
abbrev pub answered_load : UnitPlace → List ℕ → Option WatchedLoad → Ways → List Pair
answered_load unit bytes None u = u.pairs
answered_load unit bytes (Some l) u =
    let aim = word_aim unit l.address bytes in
    found u.loads u.moment aim (gathered (pair_got unit bytes l) u.pairs) (with_hope aim (gathered (pair_missed unit bytes l) u.pairs))

abbrev pub answered_store : ℕ → Ways → List Pair
answered_store number u = found u.loads u.moment (effect_aim number) [] u.pairs

-- Events. ----

abbrev pub pair_without_store : ℕ → Pair → Pair
pair_without_store number e =
    record { word = e.word; stores = filter (λ s. not (is_store number s)) e.stores; past = e.past }

abbrev pub pair_with_store : ℕ → List (Option ℕ) → Pair → Pair
pair_with_store number bytes e =
    record { word = e.word; stores = e.stores ++ record { number = number; bytes = bytes; is_done = false } ∷ []; past = e.past }

abbrev pub pair_cut : Option ℕ → Pair → Pair
pair_cut since e = record { word = e.word; stores = e.stores; past = cut_for since e.past }

abbrev pub ways_with_load : ℕ → LoadAddress → Ways → Ways
ways_with_load number address u = record {
  loads = u.loads ++ record { number = number; address = address; since = u.moment + 1 } ∷ [];
  moment = u.moment + 1;
  pairs = u.pairs;
}

abbrev pub ways_with_store : ℕ → List (Option ℕ) → Ways → Ways
ways_with_store number bytes u = record { loads = u.loads; moment = u.moment; pairs = map (pair_with_store number bytes) u.pairs }

-- whether the load that stands first is the one under a number
abbrev pub is_first : ℕ → List WatchedLoad → Bool
is_first number [] = false
is_first number (l ∷ ls) = is_under number l

abbrev pub moment_with : ℕ → List WatchedLoad → ℕ
moment_with moment [] = 0
moment_with moment (l ∷ ls) = moment

abbrev pub loads_without : ℕ → List WatchedLoad → List WatchedLoad
loads_without number ls = filter (λ l. not (is_under number l)) ls

-- with the first load what it alone may ask for is gone
abbrev pub ways_without_load : ℕ → Ways → List Pair → Ways
ways_without_load number u es =
    let left = loads_without number u.loads in record {
      loads = left;
      moment = if is_first number u.loads then moment_with u.moment left else u.moment;
      pairs = if is_first number u.loads then map (pair_cut (oldest left)) es else es;
    }

abbrev pub ways_without_store : ℕ → Ways → List Pair → Ways
ways_without_store number u es = record { loads = u.loads; moment = u.moment; pairs = map (pair_without_store number) es }

-- the ways after an event: none if it is none of the law
abbrev pub ways_after : UnitPlace → Ways → HistoryEvent → Ways
ways_after unit u (LoadRequest number address n enables) =
    if is_at unit address n then ways_with_load number (reads_from address enables) u else u
ways_after unit u (LoadResponse number bytes) =
    ways_without_load number u (answered_load unit bytes.now (find (is_under number) u.loads) u)
ways_after unit u (StoreRequest number address bytes enables) =
    let stored = at_unit unit (stored_byte address bytes.now enables) in if list_any is_some stored then ways_with_store number stored u
    else u
ways_after unit u (StoreResponse number) = ways_without_store number u (answered_store number u)

-- whether an answer needs too many pairs, where so many words are kept of what stood there since the oldest request of an open load
abbrev pub load_needs_more : ℕ → UnitPlace → List ℕ → Option WatchedLoad → Ways → Bool
load_needs_more limit unit bytes None u = false
load_needs_more limit unit bytes (Some l) u =
    let aim = word_aim unit l.address bytes in
    needs_more limit u.loads u.moment aim (gathered (pair_got unit bytes l) u.pairs)
    (with_hope aim (gathered (pair_missed unit bytes l) u.pairs))

-- whether an event needs too many pairs, however many words are kept
abbrev pub needs_too_many : ℕ → UnitPlace → Ways → HistoryEvent → Bool
needs_too_many limit unit u (LoadResponse number bytes) = load_needs_more limit unit bytes.now (find (is_under number) u.loads) u
needs_too_many limit unit u (StoreResponse number) = needs_more limit u.loads u.moment (effect_aim number) [] u.pairs
needs_too_many limit unit u event = false

-- whether more words are kept for its ways than may be: for a forgotten unit, which has no way, none is needed
abbrev pub has_many_words : ℕ → Ways → Bool
has_many_words words u = has_way u && nat_lt MOST_WORDS words

abbrev pub is_too_wide : ℕ → UnitPlace → ℕ → Ways → HistoryEvent → Bool
is_too_wide limit unit words u (LoadResponse number bytes) =
    has_many_words words u || load_needs_more limit unit bytes.now (find (is_under number) u.loads) u
is_too_wide limit unit words u (StoreResponse number) =
    has_many_words words u || needs_more limit u.loads u.moment (effect_aim number) [] u.pairs
is_too_wide limit unit words u event = false
