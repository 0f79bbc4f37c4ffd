-- What is open at a unit is what is open in the history and has a byte there.
use Rattle.std.proofs.lemmas.List.Sums.{fold_push}
use Rattle.memory_histories.proofs.Lists.{filter-map, list_any-map, list_any-filter}
use Rattle.std.proofs.Common.{◌≡◌, ℕ, ◌+◌, ◌/◌, ◌<◌, ◌≤◌, Bool, true, false, ◌||◌, not, ◌==◌, if◌then◌else◌, ◌&&◌, List, [], ◌∷◌, ◌++◌}
use Rattle.std.proofs.Common.{map, fold, length, filter, Option, Some, None, is_none, is_some, inl, inr, refl, sym, ap, ◌∙◌, subst}
use Rattle.std.proofs.Common.{append-nil, eqb-true, eq-eqb, arith, ◌⊎◌}
use Rattle.std.specs.List.{list_any, find, range_with_len, list_all}
use Rattle.std.proofs.lemmas.Bool.{cases_Bool, and_parts, and_from, lt-ltb, le-ltb, le-leb, lt-leb, or_parts, or_from, cond_both}
use Rattle.std.proofs.lemmas.List.{map-append}
use Rattle.std.proofs.lemmas.List.Elements.{filter-append}
use Rattle.std.proofs.lemmas.List.Folds.{list_any-append}
use Rattle.std.proofs.lemmas.Option.{slice_get_past, same_Some}
use Rattle.memory_histories.specs.declared.events.HistoryEvent.{HistoryEvent}
use Rattle.memory_histories.specs.declared.events.HistoryEvent.TheVariants.{LoadRequest, LoadResponse, StoreRequest, StoreResponse}
use Rattle.memory_histories.specs.declared.events.Rest.{Rest}
use Rattle.memory_histories.specs.Regular.{is_inside, request_fault, store_response_fault}
use Rattle.atomic_histories.specs.declared.unit.OpenStore.{OpenStore}
use Rattle.atomic_histories.specs.declared.unit.Operation.{Operation}
use Rattle.atomic_histories.specs.declared.unit.UnitPlace.{UnitPlace}
use Rattle.atomic_histories.specs.declared.unit.LoadAddress.{LoadAddress}
use Rattle.atomic_histories.specs.Words.{at_unit, at_lane, stored_byte, reads_from, is_at}
use Rattle.atomic_histories.specs.Operations.{Opened, none_opened, opened_after, opened_by, has_number, without_number, answer_fault}
use Rattle.atomic_histories.specs.Operations.{form_fault}
use Rattle.atomic_histories.specs.Law.{OpenLoad, UnitMemory, HiddenStep, MayBe, starts, steps, sees, untouched, is_got, is_store, is_load}
use Rattle.atomic_histories.specs.Law.{seen, unit_at, is_formed}
use Rattle.atomic_histories.specs.Stands.{Each, One, AreWatched}
use Rattle.atomic_histories.specs.Held.{covered, units_of, is_among}
use Rattle.atomic_histories.proofs.Lists.{one_left, one_last, each_weaker, each_append, each_filter, each_replace, none_filtered}
use Rattle.atomic_histories.proofs.Lists.{filter_swap, none_each, one_each, one_elim, find_each, each_map, each_unmap, one_weaker, one_map}
use Rattle.atomic_histories.proofs.Lists.{one_unmap, find_one, one_filter}
use Rattle.atomic_histories.specs.Branches.{Watched, is_watched}
use Rattle.atomic_histories.specs.May.{may_show, lane_of, has_got, got_byte}

-- What a store touches. ----

module _ (unit : UnitPlace) (address : ℕ) (bytes : List ℕ) (enables : ℕ) where
  -- a store writes in a unit only where it has bytes there
  lane_inside : (k : ℕ)
      → is_some (at_lane unit (stored_byte address bytes enables) k) ≡ true
      → is_at unit address (length bytes) ≡ true
  lane_inside k h = grind (arith, le-ltb, lt-ltb, lt-leb, and_from, slice_get_past, le-leb)

  pub any_lane : (ks : List ℕ)
      → list_any is_some (map (at_lane unit (stored_byte address bytes enables)) ks) ≡ true → is_at unit address (length bytes) ≡ true
  any_lane [] h = cc
  any_lane (k ∷ ks) h = elim (cases_Bool _) [
    | inl t ↦ lane_inside k t
    | inr f ↦ any_lane ks (rw f at h)
  ]

-- Operations that are open in a history. ----

-- no two have one number
abbrev pub AreDistinct : List Operation → Type 0
AreDistinct [] = Unit {0}
AreDistinct (o ∷ os) = (list_any (has_number o.number) os ≡ false) × AreDistinct os

abbrev IsInside : Operation → Type 0
IsInside o = is_inside o.address o.length ≡ true

abbrev AreFit : List Operation → Type 0
AreFit os = AreDistinct os × Each IsInside os

pub record IsFit (o : Opened) : Type 0 where
  pub loads : AreFit o.loads
  pub stores : AreFit o.stores

pub eq_false_sym : (a b : ℕ) → (a == b) ≡ false → (b == a) ≡ false
eq_false_sym a b h = grind arith

distinct_push : (os : List Operation) (o : Operation) → AreDistinct os → list_any (has_number o.number) os ≡ false
    → AreDistinct (os ++ o ∷ [])
distinct_push [] o d n = (refl, tt)
distinct_push (x ∷ xs) o d n =
    let p = or_parts _ _ n in
    let first =
    list_any-append _ xs _ ∙ or_from _ _ d.0
    (or_from (o.number == x.number) false (eq_false_sym x.number o.number p.0) refl) in
    (first, distinct_push xs o d.1 p.1)

distinct_filtered : (number : ℕ) (os : List Operation) → AreDistinct os → AreDistinct (without_number number os)
distinct_filtered number [] d = tt
distinct_filtered number (x ∷ xs) d = grind (arith, distinct_filtered number xs d.1, none_filtered)

inside_filtered : (number : ℕ) (os : List Operation) → Each IsInside os → Each IsInside (without_number number os)
inside_filtered number os a = each_filter IsInside _ os a

pub is_allowed : (inside any used : Bool) → request_fault inside any used ≡ None → (inside ≡ true) × ((any ≡ true) × (used ≡ false))
is_allowed x0 x1 x2 h = grind arith

fit_push : (os : List Operation) (o : Operation) → AreFit os → IsInside o → list_any (has_number o.number) os ≡ false
    → AreFit (os ++ o ∷ [])
fit_push os o a i n = grind (arith, distinct_push, each_append)

fit_after : (o : Opened) (event : HistoryEvent) → IsFit o → form_fault o event ≡ None → IsFit (opened_after o event)
fit_after o x1 a f = grind (arith, is_allowed, fit_push, distinct_filtered, inside_filtered)

pub none_is : {X : Type 0} (o : Option X) → is_none o ≡ true → o ≡ None
none_is x0 h = grind arith

fit_from : (o : Opened) (history : List HistoryEvent) → IsFit o → is_formed o history ≡ true → IsFit (fold opened_after o history)
fit_from o [] a h = a
fit_from o (x ∷ xs) a h = grind (arith, fit_from (opened_after o x) xs, and_parts, fit_after, none_is)

pub fit_by : (history : List HistoryEvent) → is_formed none_opened history ≡ true → IsFit (opened_by history)
fit_by history h = grind (arith, fit_from)

pub found_fit : (number : ℕ) (os : List Operation) (o : Operation) → Each IsInside os → find (has_number number) os ≡ Some o → IsInside o
found_fit number os o a e = (find_each IsInside _ os o a e).0

-- what holds of the elements that pass a test none passes
pub each_none : {X : Type 0} (P : X → Type 0) (p : X → Bool) (xs : List X) → list_any p xs ≡ false → Each (λ x. p x ≡ true → P x) xs
each_none P p [] h = tt
each_none P p (x ∷ xs) h =
    let r = or_parts (p x) _ h in (λ t. cc (r.0), each_none P p xs r.1)

-- Elements under a number. ----

-- at most one of them passes a test
abbrev pub IsAlone : {X : Type 0} → (X → Bool) → List X → Type 0
IsAlone p [] = Unit {0}
IsAlone p (x ∷ xs) = (p x ≡ true → list_any p xs ≡ false) × IsAlone p xs

pub alone_operation : (number : ℕ) (os : List Operation) → AreDistinct os → IsAlone (has_number number) os
alone_operation number [] d = tt
alone_operation number (x ∷ xs) d = grind (arith, alone_operation number xs d.1, eqb-true)

-- of the elements that pass a test, each is the one that is found
pub found_each : {X : Type 0} (p : X → Bool) (xs : List X) (o : X) → IsAlone p xs → find p xs ≡ Some o
    → Each (λ x. p x ≡ true → x ≡ o) xs
found_each p [] o a e = tt
found_each p (x ∷ xs) o a e = elim (cases_Bool (p x)) [
  | inl t ↦ (λ u. same_Some x o (rw t at e), each_none (λ y. y ≡ o) p xs (a.0 t))
  | inr f ↦ (λ u. cc, found_each p xs o a.1 (rw f at e))
]

-- of the operations under a number there is one
pub number_found : (number : ℕ) (os : List Operation) (o : Operation) → AreDistinct os → find (has_number number) os ≡ Some o
    → Each (λ x. has_number number x ≡ true → x ≡ o) os
number_found number os o d e = found_each _ os o (alone_operation number os d) e

-- What is open at a unit. ----

abbrev pub load_key : OpenLoad → ℕ × LoadAddress
load_key m = (m.number, m.address)

abbrev pub reads : Operation → LoadAddress
reads o = reads_from o.address o.enables

abbrev pub key : Operation → ℕ × LoadAddress
key o = (o.number, reads o)

-- whether an operation has a byte at the unit
abbrev pub is_of : UnitPlace → Operation → Bool
is_of unit o = is_at unit o.address o.length

-- the loads at a unit are those of the history that have a byte there, and each store there is one of those
pub record IsLinked (unit : UnitPlace) (m : UnitMemory) (o : Opened) : Type 0 where
  pub loads : map load_key m.loads ≡ map key (filter (is_of unit) o.loads)
  pub stores : Each (λ s. One (λ x. (x.number ≡ s.number) × (is_of unit x ≡ true)) o.stores) m.stores

keys_push : (unit : UnitPlace) (ms : List OpenLoad) (os : List Operation) (m : OpenLoad) (o : Operation)
    → map load_key ms ≡ map key (filter (is_of unit) os) → load_key m ≡ key o → is_of unit o ≡ true
    → map load_key (ms ++ m ∷ []) ≡ map key (filter (is_of unit) (os ++ o ∷ []))
keys_push unit ms os m o h e t = grind (arith, map-append, filter-append)

keys_pass : (unit : UnitPlace) (ms : List OpenLoad) (os : List Operation) (o : Operation)
    → map load_key ms ≡ map key (filter (is_of unit) os) → is_of unit o ≡ false
    → map load_key ms ≡ map key (filter (is_of unit) (os ++ o ∷ []))
keys_pass unit ms os o h f = grind (arith, filter-append, append-nil)

abbrev other : ℕ → ℕ × LoadAddress → Bool
other number p = not (p.0 == number)

keys_left : (unit : UnitPlace) (number : ℕ) (ms : List OpenLoad) (os : List Operation) → map load_key ms ≡ map key (filter (is_of unit) os)
    → map load_key (filter (λ l. not (is_load number l)) ms) ≡ map key (filter (is_of unit) (without_number number os))
keys_left unit number ms os h =
    sym (filter-map load_key (other number) ms) ∙ (ap (filter (other number)) h ∙ (filter-map key (other number) _
    ∙ ap (map key) (filter_swap _ (λ o. not _) os)))

abbrev HasStore : UnitPlace → List Operation → OpenStore → Type 0
HasStore unit os s = One (λ x. (x.number ≡ s.number) × (is_of unit x ≡ true)) os

module _ (unit : UnitPlace) (number : ℕ) where
  store_stays : (s : OpenStore) → is_store number s ≡ false → (xs : List Operation) → HasStore unit xs s
      → HasStore unit (without_number number xs) s
  store_stays s f [] h = h
  store_stays s f (x ∷ xs) (inl p) = rw (ap (λ i. i == number) p.0 ∙ f) (inl p)
  store_stays s f (x ∷ xs) (inr h) = grind (arith, store_stays s f xs h)

  stores_left : (os : List Operation) (ss : List OpenStore) → Each (HasStore unit os) ss
      → Each (HasStore unit (without_number number os)) (filter (λ s. not (is_store number s)) ss)
  stores_left os [] a = tt
  stores_left os (s ∷ ss) a = elim (cases_Bool (is_store number s)) [
    | inl t ↦ rw t (stores_left os ss a.1)
    | inr f ↦ rw f (store_stays s f os a.0, stores_left os ss a.1)
  ]

pub some_if : {X : Type 0} (b : Bool) (x n : X) → (if b then Some x else None) ≡ Some n → (b ≡ true) × (x ≡ n)
some_if x0 x n h = grind arith

stores_more : (unit : UnitPlace) (os : List Operation) (o : Operation) (ss : List OpenStore) → Each (HasStore unit os) ss
    → Each (HasStore unit (os ++ o ∷ [])) ss
stores_more unit os o ss a = grind (arith, each_weaker, one_left)

linked_after : (unit : UnitPlace) (m n : UnitMemory) (o : Opened) (event : HistoryEvent) → IsLinked unit m o → seen unit m event ≡ Some n
    → IsLinked unit n (opened_after o event)
linked_after unit m n o (LoadRequest number address k enables) h e =
    let x : Operation = record { number = number; address = address; length = k; enables = enables } in
    let Linked : UnitMemory → Type 0 = λ y. IsLinked unit y (opened_after o (LoadRequest number address k enables)) in
    subst Linked (same_Some _ n e) (cond_both (is_at unit address k) _ m Linked
    (λ t. record {
      loads = grind (arith, keys_push);
      stores = h.stores;
    }) (λ f. record { loads = keys_pass unit _ o.loads x h.loads f; stores = h.stores }))
linked_after unit m n o (LoadResponse number bytes) h e =
    subst (λ y. IsLinked unit y (opened_after o (LoadResponse number bytes))) (some_if _ _ n e).1
    (record { loads = keys_left unit number _ o.loads h.loads; stores = h.stores })
linked_after unit m n o (StoreRequest number address bytes enables) h e =
    let x : Operation = record { number = number; address = address; length = length bytes.now; enables = enables } in
    let Linked : UnitMemory → Type 0 = λ y. IsLinked unit y (opened_after o (StoreRequest number address bytes enables)) in
    let more = stores_more unit o.stores x m.stores h.stores in
    let stored = at_unit unit (stored_byte address bytes.now enables) in
    subst Linked (same_Some _ n e) (cond_both (list_any is_some stored) _ m Linked
    (λ t. record {
      loads = h.loads;
      stores = each_append _ m.stores _ more (
        one_last (λ y. (y.number ≡ number) × (is_of unit y ≡ true)) o.stores x
            (refl, any_lane unit address bytes.now enables (range_with_len 0 8) t),
        tt,
      );
    }) (λ f. record { loads = h.loads; stores = more }))
linked_after unit m n o (StoreResponse number) h e =
    subst (λ y. IsLinked unit y (opened_after o (StoreResponse number))) (some_if _ _ n e).1
    (record { loads = h.loads; stores = stores_left unit number o.stores _ h.stores })

linked_step : (unit : UnitPlace) (m n : UnitMemory) (o : Opened) → IsLinked unit m o → HiddenStep m n → IsLinked unit n o
linked_step unit m n o h (inl (before, s, after, split, undone, made)) =
    let a = subst (Each (HasStore unit o.stores)) split h.stores in
    subst (λ y. IsLinked unit y o) (sym made)
    (record { loads = h.loads; stores = each_replace _ before s _ after (λ p. p) a })
linked_step unit m n o h (inr (before, l, after, split, undone, made)) =
    let same =
    map-append load_key before _ ∙ sym (map-append load_key before (l ∷ after)) in
    subst (λ y. IsLinked unit y o) (sym made) (record { loads = same ∙ (ap (map load_key) (sym split) ∙ h.loads); stores = h.stores })

pub opened_more : (o : Opened) (history : List HistoryEvent) (event : HistoryEvent)
    → fold opened_after o (history ++ event ∷ []) ≡ opened_after (fold opened_after o history) event
opened_more o history event = fold_push opened_after o history event

pub linked : (image : List ℕ) (rest : Rest) (unit : UnitPlace) {history : List HistoryEvent} {m : UnitMemory}
    → MayBe unit (untouched image rest unit) history m → IsLinked unit m (opened_by history)
linked image rest unit starts = record { loads = refl; stores = tt }
linked image rest unit (steps history m n r step) = linked_step unit m n _ (linked image rest unit r) step
linked image rest unit (sees history event m n r e) =
    subst (λ o. IsLinked unit n o) (sym (opened_more none_opened history event))
    (linked_after unit m n (opened_by history) event (linked image rest unit r) e)

-- Events that pass a unit. ----

-- no open load at the unit has this number
no_load : (unit : UnitPlace) (number : ℕ) (os : List Operation) (o : Operation) → AreDistinct os → find (has_number number) os ≡ Some o
    → is_of unit o ≡ false → (ms : List OpenLoad) → map load_key ms ≡ map key (filter (is_of unit) os)
    → list_any (is_load number) ms ≡ false
no_load unit number os o d e f ms same =
    let numbered : ℕ × LoadAddress → Bool = λ p. p.0 == number in
    sym (list_any-map load_key numbered ms) ∙ (ap (list_any numbered) same ∙ (list_any-map key numbered _
    ∙ (list_any-filter (is_of unit) _ os ∙ none_each (λ x. is_of unit x && has_number number x) os
    (each_weaker _ (λ x. (is_of unit x && has_number number x) ≡ true → ⊥)
    (λ x g t. let p = and_parts _ _ t in cc (ap (is_of unit) (sym (g p.1)) ∙ p.0)) os (number_found number os o d e)))))

pub pass : {X : Type 0} (p q : X → Bool) (xs : List X) → list_any p xs ≡ false
    → (list_all (λ x. not (p x) || q x) xs ≡ true) × (filter (λ x. not (p x)) xs ≡ xs)
pass p q [] h = (refl, refl)
pass p q (x ∷ xs) h =
    let r = or_parts _ (list_any p xs) h in
    let rest = pass p q xs r.1 in (rw r.0 rest.0, rw r.0 (ap (λ l. x ∷ l) rest.1))

no_store : (unit : UnitPlace) (number : ℕ) (os : List Operation) (o : Operation) → AreDistinct os → find (has_number number) os ≡ Some o
    → is_of unit o ≡ false
    → (ss : List OpenStore) → Each (HasStore unit os) ss → list_any (is_store number) ss ≡ false
no_store unit number os o d e f ss a =
    none_each _ ss (each_weaker _ _
    (λ s h t. one_elim _ ⊥ os (one_each _ _ os h (number_found number os o d e))
    (λ x p. let same = p.1 (eq-eqb x.number number (p.0.0 ∙ eqb-true s.number number t)) in
    cc (ap (is_of unit) (sym same) ∙ p.0.1))) ss a)

in_range : (size address n k : ℕ) → 1 ≤ size → address + n ≤ 18446744073709551616 → is_at (unit_at size k) address n ≡ true
    → (address / size ≤ k) × (k < address / size + units_of size address n)
in_range size address n k pos fits h = grind arith

-- what isn't among the units of some bytes has none of them
not_at : (size address n k : ℕ) → 1 ≤ size → address + n ≤ 18446744073709551616 → is_among size (address, n) k ≡ false
    → is_at (unit_at size k) address n ≡ false
not_at size address n k pos fits h = grind (arith, in_range, and_from, le-leb, lt-ltb)

pub inside_end : (a n : ℕ) → is_inside a n ≡ true → a + n ≤ 18446744073709551616
inside_end a n h = grind arith

pub open_load : (o : Option Operation) (n : ℕ) → answer_fault o n ≡ None → (x : Operation) × (o ≡ Some x)
open_load x0 n h = grind arith

found_one : (number : ℕ) (os : List Operation) → list_any (has_number number) os ≡ true
    → (x : Operation) × (find (has_number number) os ≡ Some x)
found_one number [] h = cc
found_one number (o ∷ os) h = elim (cases_Bool (has_number number o)) [
  | inl t ↦ (o, rw t refl)
  | inr f ↦ let r = found_one number os (rw f at h) in (r.0, rw f r.1)
]

is_answered : (used : Bool) → store_response_fault used ≡ None → used ≡ true
is_answered x0 h = grind arith

pub then_some : {X : Type 0} (b : Bool) (x : X) → b ≡ true → (if b then Some x else None) ≡ Some x
then_some x0 x h = grind arith

-- an event whose operation has no byte at a unit changes nothing there
pub passes : (size k : ℕ) (m : UnitMemory) (o : Opened) (event : HistoryEvent) → 1 ≤ size → IsFit o → IsLinked (unit_at size k) m o
    → form_fault o event ≡ None
    → is_among size (covered o event) k ≡ false → seen (unit_at size k) m event ≡ Some m
passes size k m o (LoadRequest number address n enables) pos fit link f out = grind (arith, not_at, inside_end, is_allowed)
passes size k m o (LoadResponse number bytes) pos fit link f out =
    let unit = unit_at size k in
    let r = open_load _ _ f in
    let x = r.0 in
    let no =
    not_at size x.address x.length k pos (inside_end x.address x.length (found_fit number o.loads x fit.loads.1 r.1))
    (rw r.1 at out) in
    let q = pass _ (λ l. is_got unit l.address bytes.now l.got) _
    (no_load unit number o.loads x fit.loads.0 r.1 no _ link.loads) in
    then_some _ _ q.0
    ∙ ap (λ ls. Some (record { word = m.word; stores = m.stores; loads = ls })) q.1
passes size k m o (StoreRequest number address bytes enables) pos fit link f out =
    let unit = unit_at size k in
    let no = not_at size address _ k pos (inside_end address _ (is_allowed _ _ _ f).0) out in
    cond_both (list_any is_some (at_unit unit (stored_byte address bytes.now enables))) _ _ (λ n. Some n ≡ Some m)
    (λ t. cc (any_lane unit address bytes.now enables (range_with_len 0 8) t)) (λ n. refl)
passes size k m o (StoreResponse number) pos fit link f out =
    let r = found_one number o.stores (is_answered _ f) in
    let x = r.0 in
    let no =
    not_at size x.address x.length k pos (inside_end x.address x.length (found_fit number o.stores x fit.stores.1 r.1))
    (rw r.1 at out) in
    let q = pass _ (λ s. s.is_done) _ (no_store _ number o.stores x fit.stores.0 r.1 no _ link.stores) in
    then_some _ _ q.0
    ∙ ap (λ ss. Some (record { word = m.word; stores = ss; loads = m.loads })) q.1

abbrev Word : Type 0
Word = List (Option ℕ)

alone_filtered : {X : Type 0} (p q : X → Bool) (xs : List X) → IsAlone p xs → IsAlone p (filter q xs)
alone_filtered p q [] a = tt
alone_filtered p q (x ∷ xs) a = grind (arith, alone_filtered p q xs a.1, none_filtered)

alone_mapped : {X Y : Type 0} (f : X → Y) (p : Y → Bool) (xs : List X) → IsAlone (λ x. p (f x)) xs → IsAlone p (map f xs)
alone_mapped f p [] a = tt
alone_mapped f p (x ∷ xs) a = (λ t. list_any-map f p xs ∙ a.0 t, alone_mapped f p xs a.1)

alone_unmapped : {X Y : Type 0} (f : X → Y) (p : Y → Bool) (xs : List X) → IsAlone p (map f xs) → IsAlone (λ x. p (f x)) xs
alone_unmapped f p [] a = tt
alone_unmapped f p (x ∷ xs) a = grind (arith, alone_unmapped f p xs a.1, list_any-map)

-- Loads under a number. ----

module _ (unit : UnitPlace) (number : ℕ) (m : UnitMemory) (opened : Opened) (link : IsLinked unit m opened)
    (distinct : AreDistinct opened.loads) (o : Operation) (found : find (has_number number) opened.loads ≡ Some o) where
  is_numbered : ℕ × LoadAddress → Bool
  is_numbered p = p.0 == number

  pub alone : IsAlone (is_load number) m.loads
  unfolding is_numbered
  alone =
      alone_unmapped load_key is_numbered _
      (rw (sym link.loads) at (alone_mapped key is_numbered _
      (alone_filtered (has_number number) (is_of unit) opened.loads (alone_operation number opened.loads distinct))))

  -- each has the address of the operation
  pub has_address : Each (λ l. is_load number l ≡ true → l.address ≡ reads o) m.loads
  unfolding is_numbered
  has_address =
      each_unmap load_key (λ p. is_numbered p ≡ true → p.1 ≡ reads o) _
      (subst (Each (λ p. is_numbered p ≡ true → p.1 ≡ reads o)) (sym link.loads)
      (each_map key (λ p. is_numbered p ≡ true → p.1 ≡ reads o) _
      (each_filter (λ x. has_number number x ≡ true → reads x ≡ reads o) _ opened.loads
      (each_weaker (λ x. has_number number x ≡ true → x ≡ o) (λ x. has_number number x ≡ true → reads x ≡ reads o)
      (λ x f t. ap reads (f t)) opened.loads
      (number_found number opened.loads o distinct found)))))

  -- there is one if the operation has a byte at the unit
  pub is_there : is_of unit o ≡ true → One (λ l. is_load number l ≡ true) m.loads
  unfolding is_numbered
  is_there t =
      one_unmap load_key (λ p. is_numbered p ≡ true) _
      (rw (sym link.loads) at (one_map key (λ p. is_numbered p ≡ true) _
      (one_filter (λ x. has_number number x ≡ true) _ opened.loads
      (one_weaker (λ x. (x ≡ o) × (has_number number x ≡ true)) (λ x. (has_number number x ≡ true) × (is_of unit x ≡ true))
      (λ x p. (p.1, ap (is_of unit) p.0 ∙ t)) opened.loads (find_one _ opened.loads o found)))))

-- What they got. ----

-- each load under a number got this word
abbrev pub HaveGot : ℕ → Word → List OpenLoad → Type 0
HaveGot number w ls = Each (λ l. is_load number l ≡ true → l.got ≡ Some w) ls

-- what is watched on a way is open where it leads
pub watched_any : (number : ℕ) (w : Word) (ls : List Watched) (ms : List OpenLoad) → AreWatched w ls ms
    → list_any (is_load number) ms ≡ list_any (is_watched number) ls
watched_any number w [] [] h = refl
watched_any number w (l ∷ ls) (m ∷ ms) h = grind (arith, watched_any number w ls ms h.1)
watched_any number w _ _ h = absurd h

pub none_got : (number k b : ℕ) (ls : List OpenLoad) → list_any (is_load number) ls ≡ false → list_any (got_byte number k b) ls ≡ false
none_got number k b [] h = refl
none_got number k b (l ∷ ls) h = let r = or_parts _ (list_any _ ls) h in rw r.0 (none_got number k b ls r.1)

pub or_first : (a b : Bool) → (a || b) ≡ true → b ≡ false → a ≡ true
or_first x0 b h f = grind arith

word_got : (k b : ℕ) (g : Option Word) → has_got k b g ≡ true → (w : Word) × (g ≡ Some w) × (may_show (lane_of k w) b ≡ true)
word_got k b x2 h = grind arith

-- the word that shows a byte
pub shown_word : (number k b : ℕ) (ls : List OpenLoad) → IsAlone (is_load number) ls → list_any (got_byte number k b) ls ≡ true
    → (w : Word) × (may_show (lane_of k w) b ≡ true) × One (λ l. l.got ≡ Some w) ls × HaveGot number w ls
shown_word number k b [] a h = cc
shown_word number k b (l ∷ ls) a h = elim (cases_Bool _) [
  | inl t ↦
      let none = a.0 t in
      let r = word_got k b l.got (and_parts _ _ (or_first _ _ h (none_got number k b ls none))).1 in
      (r.0, r.2, inl r.1, (λ u. r.1, each_none (λ x. x.got ≡ Some r.0) _ ls none))
  | inr f ↦
      let r = shown_word number k b ls a.1 (rw f at h) in
      (r.0, r.1, inr r.2, (λ u. cc, r.3))
]

-- the load under a number, and those before and behind it, or there is none
pub the_load : (number : ℕ) (ls : List OpenLoad) → IsAlone (is_load number) ls
    → (list_any (is_load number) ls ≡ false)
    ⊎ ((before : List OpenLoad) × (l : OpenLoad) × (after : List OpenLoad) × (ls ≡ before ++ l ∷ after)
    × (list_any (is_load number) before ≡ false) × (list_any (is_load number) after ≡ false))
the_load number [] a = inl refl
the_load number (l ∷ ls) a = elim (cases_Bool _) [
  | inl t ↦ inr ([], l, ls, refl, refl, a.0 t)
  | inr f ↦ elim (the_load number ls a.1) [
    | inl none ↦ inl (rw f none)
    | inr r ↦ inr (l ∷ r.0, r.1, r.2, ap (λ x. l ∷ x) r.3, rw f r.4, r.5)
  ]
]

pub got_between : (number : ℕ) (w : Word) (before : List OpenLoad) (l : OpenLoad) (after : List OpenLoad)
    → list_any (is_load number) before ≡ false → list_any (is_load number) after ≡ false → l.got ≡ Some w
    → HaveGot number w (before ++ l ∷ after)
got_between number w before l after b a e =
    each_append (λ x. is_load number x ≡ true → x.got ≡ Some w) before _
    (each_none (λ x. x.got ≡ Some w) _ before b)
    (λ t. e, each_none (λ x. x.got ≡ Some w) _ after a)
