-- The units that bytes lie in, and steps of the loops over units.
use Rattle.std.proofs.Common.{◌≡◌, ℕ, zero, suc, ◌+◌, ◌-◌, ◌*◌, ◌/◌, ◌<◌, ◌≤◌, true, false, ◌&&◌, ◌||◌, ◌==◌, if◌then◌else◌, nat_lt, nat_le}
use Rattle.std.proofs.Common.{List, [], ◌∷◌, ◌++◌, map, length, Option, None, Some, inl, inr, refl, ap, ◌∙◌, ne_eqb, append_assoc, arith}
use Rattle.std.proofs.Common.{◌⊎◌, Result, IfErr, OnOk}
use Rattle.std.proofs.lemmas.Bool.{cases_Bool, cases_eq, or_left, or_right}
use Rattle.std.proofs.lemmas.List.{map-append}
use Rattle.memory_histories.specs.declared.events.HistoryEvent.{HistoryEvent}
use Rattle.memory_histories.specs.declared.events.Rest.{Rest}
use Rattle.atomic_histories.specs.declared.kept.KeptUnit.{KeptUnit}
use Rattle.atomic_histories.specs.declared.memory.UnitSize.{UnitSize}
use Rattle.atomic_histories.specs.declared.memory.AtomicFault.{AtomicFault}
use Rattle.atomic_histories.specs.declared.search.TheConstants.{MOST_WORDS}
use Rattle.std.specs.Result.{result_err}
use Rattle.atomic_histories.specs.Operations.{form_fault}
use Rattle.atomic_histories.specs.Law.{unit_at}
use Rattle.atomic_histories.specs.Followed.{Ways, no_ways, first_ways, needs_too_many, is_too_wide}
use Rattle.atomic_histories.specs.Held.{Held, covered, unit_after, units_of, changed, ways_from, is_stuck, is_over_at, halt_from}
use Rattle.atomic_histories.specs.declared.unit.UnitPlace.{UnitPlace}
use Rattle.atomic_histories.specs.Shown.{shown_unit, words_in, StopIs}
use Rattle.atomic_histories.specs.declared.search.Stop.{Stop}
use Rattle.atomic_histories.specs.declared.unit.Operation.{Operation}
use Rattle.atomic_histories.specs.Judge.{bytes_of, fault_of, ChangedFaultIs, kept_or, kept_at, words_of, put_from, UnitFaultIs}
use Rattle.atomic_histories.specs.Few.{AreFew}
use Rattle.atomic_histories.specs.Told.{HaltIs, IsToldOf}
use Rattle.atomic_histories.proofs.Few.{few_more}

pub units_fit : (size : UnitSize) (a n : ℕ) → a < 18446744073709551616
    → (a / bytes_of size + units_of (bytes_of size) a n) * bytes_of size ≤ 18446744073709551616
units_fit x0 a n h = grind arith

pub sized : (size : UnitSize) → 1 ≤ bytes_of size
sized x0 = grind arith

pub unit_below : (from count size j : ℕ) → (from + count) * size ≤ 18446744073709551616 → j < count → 1 ≤ size
    → (from + j) * size < 18446744073709551616
unit_below from count size j h l pos = grind arith

pub number_below : (from count size j : ℕ) → (from + count) * size ≤ 18446744073709551616 → j < count → 1 ≤ size
    → from + j < 18446744073709551616
number_below from count size j h l pos = grind arith

-- Loops over units. ----

pub ways_step : (h : Held) (event : HistoryEvent) (from count j : ℕ) → j < count
    → ways_from h event (from + j) (count - j) ≡ changed h event (from + j) ∷ ways_from h event (from + (j + 1)) (count - (j + 1))
ways_step h event from count j l = grind arith

-- one more unit of those that are changed one by one
pub ways_more : (h : Held) (event : HistoryEvent) (us : List KeptUnit) (u : KeptUnit) (from count j : ℕ) → j < count
    → shown_unit u ≡ changed h event (from + j)
    → map shown_unit (us ++ u ∷ []) ++ ways_from h event (from + (j + 1)) (count - (j + 1)) ≡ map shown_unit us ++ ways_from h event
    (from + j) (count - j)
ways_more h event us u from count j l e = grind (arith, map-append, append_assoc, ways_step)

-- The first unit at which an event halts. ----

pub halt_step : (limit : ℕ) (h : Held) (event : HistoryEvent) (from count j : ℕ) → j < count → is_stuck h event (from + j) ≡ false
    → is_over_at limit h event (from + j) ≡ false
    → halt_from limit h event (from + (j + 1)) (count - (j + 1)) ≡ halt_from limit h event (from + j) (count - j)
halt_step limit h event from count j l f g =
    let left : count - j ≡ suc (count - (j + 1)) = omega arith in
    let next : from + j + 1 ≡ from + (j + 1) = omega arith in
    rw (left, f, g, ← next) refl

halt_here : (limit : ℕ) (h : Held) (event : HistoryEvent) (k n : ℕ) → 0 < n → (is_stuck h event k || is_over_at limit h event k) ≡ true
    → halt_from limit h event k n ≡ Some k
halt_here limit h event k x4 l t = grind arith

-- too many ways are too many words or too many pairs
pub wide_cases : (limit : ℕ) (unit : UnitPlace) (words : ℕ) (u : Ways) (event : HistoryEvent) → is_too_wide limit unit words u event ≡ true
    → (MOST_WORDS < words) ⊎ (needs_too_many limit unit u event ≡ true)
wide_cases limit unit words u x4 t = grind arith

pub halt_at : (fault : AtomicFault) (limit : ℕ) (h : Held) (event : HistoryEvent) (from count j : ℕ) → j < count
    → halt_from limit h event (from + j) (count - j) ≡ halt_from limit h event from count → AreFew h event from (from + j)
    → UnitFaultIs limit h event (from + j) fault
    → HaltIs limit h event from count fault
halt_at x0 limit h event from count j l same few f = grind (arith, halt_here, or_left, few_more, wide_cases, or_right)

-- what is told of the units that an event touches
pub told_from : {A : Type 0} (r : Result A AtomicFault) (limit : ℕ) (h : Held) (event : HistoryEvent) (from count address length : ℕ)
    → (address, length) ≡ covered h.opened event → from ≡ address / h.size → count ≡ units_of h.size address length
    → form_fault h.opened event ≡ None → OnOk r (halt_from limit h event from count ≡ None)
    → OnOk r (AreFew h event from (from + count)) → IfErr r (HaltIs limit h event from count) → IsToldOf limit h event (result_err r)
told_from r limit h event from count address length at_ here many formed = grind arith

-- Units that are put one by one, the last first. ----

pub put_last : (f g : ℕ → Option KeptUnit) (us : List KeptUnit) (u : KeptUnit) (from k : ℕ)
    → ((j : ℕ) → g j ≡ put_from f (from + length us) (u ∷ []) j)
    → put_from g from us k ≡ put_from f from (us ++ u ∷ []) k
put_last f g [] u from k e =
    let here : from + 0 ≡ from = omega arith in e k ∙ ap (λ i. put_from f i (u ∷ []) k) here
put_last f g (x ∷ xs) u from k e =
    let next : from + suc _ ≡ from + 1 + length xs = omega arith in
    let rest =
    put_last f g xs u _ k (λ j. e j ∙ ap (λ i. put_from f i (u ∷ []) j) next) in
    ap (λ r. if from == k then Some x else r) rest

-- what is shown of units that were put
pub put_shown : (h : Held) (event : HistoryEvent) (f : ℕ → Option KeptUnit) (d : Ways) (n from : ℕ) (us : List KeptUnit)
    → map shown_unit us ≡ ways_from h event from n → (k : ℕ)
    → kept_or (put_from f from us k) d ≡ (if nat_le from k && nat_lt k (from + n) then changed h event k else kept_or (f k) d)
put_shown h event f d zero from [] e k = grind arith
put_shown h event f d (suc n) from (u ∷ us) e k =
    let first : shown_unit u ≡ changed h event from = cc in
    let others : map shown_unit us ≡ ways_from h event _ n = cc in
    elim (cases_eq from k) [
      | inl same ↦ grind arith
      | inr other ↦
          let none = ne_eqb from k other in
          let r = put_shown h event f d n (from + 1) us others k in
          let more : (nat_le (from + 1) k && nat_lt k (from + 1 + n)) ≡ (nat_le from k && nat_lt k (from + suc n)) = grind arith in
          rw none (cc (r, more))
    ]
put_shown h event f d _ from _ e k = cc

-- there are numbers for so many units
pub numbers_fit : (from count size : ℕ) → (from + count) * size ≤ 18446744073709551616 → 1 ≤ size → from + count ≤ 18446744073709551616
numbers_fit from count size h pos = grind arith

pub step_fits : (a b m n l : ℕ) → b ≡ a → n ≡ m → a / m + l ≤ 18446744073709551616 → b / n + l ≤ 18446744073709551616
step_fits a b m n l e f h = grind arith

-- what is shown of a unit after an event, once the units are put that it touches
pub taken_unit : (h : Held) (event : HistoryEvent) (f g : ℕ → Option KeptUnit) (d : Ways) (from : ℕ) (us : List KeptUnit) (k : ℕ)
    → g k ≡ put_from f from us k
    → from ≡ (covered h.opened event).0 / h.size
    → map shown_unit us ≡ ways_from h event ((covered h.opened event).0 / h.size)
    (units_of h.size (covered h.opened event).0 (covered h.opened event).1)
    → kept_or (f k) d ≡ h.units k → kept_or (g k) d ≡ unit_after h event k
taken_unit h event f g d from us k put same e kept = grind (arith, put_shown)

pub forgotten_unit : (f : ℕ → Option KeptUnit) (d : Ways) (number k : ℕ) (u : KeptUnit) → shown_unit u ≡ no_ways
    → kept_or (put_from f number (u ∷ []) k) d ≡ (if number == k then no_ways else kept_or (f k) d)
forgotten_unit f d number k u e = elim (cases_Bool (number == k)) [
  | inl t ↦ rw t e
  | inr n ↦ rw n refl
]

-- a map that has the same at each key shows the same units, and keeps as many words of each
pub same_units : (image : List ℕ) (rest : Rest) (size : ℕ) (f g : ℕ → Option KeptUnit) → ((k : ℕ) → g k ≡ f k)
    → kept_at image rest size g ≡ kept_at image rest size f
same_units image rest size f g e = grind arith

abbrev words_at : (ℕ → Option KeptUnit) → ℕ → ℕ
words_at f k = words_of (f k)

pub same_words : (f g : ℕ → Option KeptUnit) → ((k : ℕ) → g k ≡ f k) → words_at g ≡ words_at f
same_words f g e = grind arith

-- at the unit that an event touches
pub stopped_unit : (limit : ℕ) (place : UnitPlace) (words : ℕ) (u : Ways) (event : HistoryEvent) (loads : List Operation) (stop : Stop)
    → StopIs (is_too_wide limit place words u event) stop → ChangedFaultIs limit place words u event loads (fault_of stop place.first)
stopped_unit limit place words u event loads x6 w = grind arith

-- a unit that no operation has touched is what is kept where nothing is
pub kept_none : (image : List ℕ) (rest : Rest) (size : ℕ) (f : ℕ → Option KeptUnit) (k : ℕ) (place : UnitPlace) (u : KeptUnit)
    (bytes : List ℕ)
    → None ≡ f k → bytes ≡ image → place ≡ unit_at size k → shown_unit u ≡ first_ways bytes rest place
    → shown_unit u ≡ kept_at image rest size f k
kept_none image rest size f k place u bytes none same at_ e = grind arith

pub words_none : (f : ℕ → Option KeptUnit) (k : ℕ) (u : KeptUnit) → None ≡ f k → u.stretches.items ≡ []
    → words_in u.stretches.items ≡ words_of (f k)
words_none f k u none e = grind arith

-- what is said of a unit in one place is said in the same
pub said_there : (P : UnitPlace → ℕ → Ways → List Operation → Type 0) (p q : UnitPlace) (m n : ℕ) (u v : Ways) (ks ls : List Operation)
    → p ≡ q → m ≡ n → u ≡ v → ks ≡ ls → P p m u ks → P q n v ls
said_there P p q m n u v ks ls a b d e h = grind arith
