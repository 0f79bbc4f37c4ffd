-- A flat history is an atomic one: each operation takes effect right behind its request.
use Rattle.std.proofs.Common.{◌≡◌, ℕ, zero, suc, ◌+◌, ◌-◌, ◌/◌, ◌%◌, ◌<◌, ◌≤◌, Bool, true, false, ◌&&◌, ◌||◌, not, ◌==◌}
use Rattle.std.proofs.Common.{if◌then◌else◌, nat_lt, List, [], ◌∷◌, ◌++◌, map, length, Option, Some, None, slice_get, inl, inr}
use Rattle.std.proofs.Common.{refl, sym, ap, ◌∙◌, subst, append-nil, append_assoc, eq-eqb, eqb-true, arith}
use Rattle.std.specs.Prelude.{is_some, IsTrue}
use Rattle.std.specs.Borrow.{Bor}
use Rattle.std.specs.Int.{bit_at}
use Rattle.std.specs.List.{filter, find, list_any, range_with_len, zip, position, prefix_len}
use Rattle.std.proofs.lemmas.Bool.{cases_Bool, cases_lt, cases_eq, lt-ltb, ltb-true, lt-leb, leb-true, ne_eqb, false_from_ne_true}
use Rattle.std.proofs.Math.Path.{fun_ext}
use Rattle.std.proofs.Math.Bool.{or_assoc, or-true, or-false}
use Rattle.std.proofs.lemmas.Bool.{both_ways}
use Rattle.atomic_histories.proofs.Lanes.{none_asked}
use Rattle.atomic_histories.proofs.Bits.{stored_from_first}
use Rattle.atomic_histories.proofs.Links.{is_allowed, reads}
use Rattle.atomic_histories.proofs.MayLaws.{then_it}
use Rattle.memory_histories.specs.declared.events.HistoryEvent.{HistoryEvent}
use Rattle.memory_histories.specs.declared.events.HistoryEvent.TheVariants.{LoadRequest, LoadResponse, StoreRequest, StoreResponse}
use Rattle.memory_histories.specs.declared.events.Rest.{Rest}
use Rattle.memory_histories.specs.declared.events.Rest.TheVariants.{Zeros, Unknown}
use Rattle.memory_histories.specs.declared.reasons.Owed.{Owed}
use Rattle.memory_histories.specs.declared.reasons.Owed.TheVariants as owed
use Rattle.memory_histories.specs.declared.reasons.StoreName.{StoreName}
use Rattle.memory_histories.specs.declared.flat.OwedByte.{OwedByte}
use Rattle.memory_histories.specs.Regular.{is_inside, has_enabled, enables_any, request_fault, load_response_fault}
use Rattle.memory_histories.specs.Regular.{store_response_fault, wrong_byte, wrong_place}
use Rattle.memory_histories.specs.Flat.{Flat, initial, with_value, with_bytes, asked, stored, is_paid_by, may_return, is_open, flat_fault}
use Rattle.memory_histories.specs.Flat.{flat_after, flat_run}
use Rattle.memory_histories.specs.Flat as flat
use Rattle.memory_histories.proofs.Lists.{list_any-kept, list_any-filter}
use Rattle.atomic_histories.specs.declared.unit.Operation.{Operation}
use Rattle.atomic_histories.specs.declared.unit.OpenStore.{OpenStore}
use Rattle.atomic_histories.specs.declared.unit.UnitPlace.{UnitPlace}
use Rattle.atomic_histories.specs.Words.{at_lane, at_unit, first_byte, reads_from, read_byte, enabled_byte, stored_byte, is_at}
use Rattle.atomic_histories.specs.Words.{written_byte, written, is_as_it_stood, is_word_of}
use Rattle.atomic_histories.specs.Operations.{Opened, none_opened, opened_after, has_number, form_fault}
use Rattle.atomic_histories.specs.Law.{OpenLoad, UnitMemory, MayBe, starts, steps, sees, untouched, done_store, done_load, is_store}
use Rattle.atomic_histories.specs.Law.{is_load, is_got, may_answer_load, may_answer_store, with_load, with_store, without_load}
use Rattle.atomic_histories.specs.Law.{without_store, unit_at, is_formed}
use Rattle.atomic_histories.specs.Stands.{Each, One}
use Rattle.atomic_histories.proofs.Lists.{each_weaker, each_append, one_weaker, one_left, one_last, each_filter, one_filter, each_all}
use Rattle.history_laws.specs.Laws.{FlatIsAtomic, FlatIsRegular}
use Rattle.history_laws.proofs.Atomic.{atomic_is_regular}
use Rattle.history_laws.proofs.Lists.{each_passing, any_none, each_always}
use Rattle.history_laws.proofs.Pieces.{Marked, is_number, AreDifferent, bytes_of, same_load, paid_at}
use Rattle.history_laws.proofs.Open.{Loads, loads_any, loads_more, loads_fewer, loads_under, length_bytes}
use Rattle.history_laws.proofs.Open.{inside_some, marked_after}
use Rattle.history_laws.proofs.Words.{lane_map, zero_plus, lane_word, enabled_first, enabled_next}
use Rattle.history_laws.proofs.Agrees.{not_itself}

-- What stands at an address. ----

-- what is known of a byte that is owed
abbrev pub known : Owed → Option ℕ
known owed.Unknown = None
known (owed.Initial b) = Some b
known (owed.Stored b store) = Some b

known_initial : (o : Option ℕ) (rest : Rest) → known (initial o rest) ≡ first_byte o rest
known_initial (Some b) rest = refl
known_initial None Zeros = refl
known_initial None Unknown = refl

paid_stood : (o : Owed) (b : ℕ) → is_paid_by o b ≡ true → is_as_it_stood (known o) (Some b) ≡ true
paid_stood owed.Unknown b h = refl
paid_stood (owed.Initial byte) b h = h
paid_stood (owed.Stored byte store) b h = h

-- a byte that a store writes, or what was there
abbrev pub chosen : (ℕ → Owed) → Option ℕ → Owed → Owed
chosen value (Some b) old = value b
chosen value None old = old

pub not_below : (a x : ℕ) (bs : List ℕ) (e : ℕ) → x < a → stored_byte a bs e x ≡ None
not_below a x bs e h = rw (lt-leb a x h) refl

value_at : (t : Bool) (at : ℕ → Owed) (a : ℕ) (o : Owed) (x : ℕ) → (a == x) ≡ false → (if t then with_value at a o else at) x ≡ at x
value_at true at a o x h = rw h refl
value_at false at a o x h = refl

zero_behind : (a : ℕ) → a + 0 ≡ a
zero_behind a = omega arith

first_value : (t : Bool) (value : ℕ → Owed) (at : ℕ → Owed) (a b x : ℕ) → (a == x) ≡ true
    → (if t then with_value at a (value b) else at) x ≡ chosen value (if t then Some b else None) (at x)
first_value true value at a b x h = rw h refl
first_value false value at a b x h = refl

nothing_stored : (a x e : ℕ) → stored_byte a [] e x ≡ None
nothing_stored a x e = grind arith

written_at : (value : ℕ → Owed) (a x b : ℕ) (bs : List ℕ) (e : ℕ) (at : ℕ → Owed)
    → chosen value (stored_byte (a + 1) bs (e / 2) x) ((if e % 2 == 1 then with_value at a (value b) else at) x) ≡ chosen value (stored_byte
    a (b ∷ bs) e x) (at x)
written_at value a x b bs e at = elim (cases_lt x a) [
  | inl l ↦
      let m : x < a + 1 = omega arith in
      let ne : (a == x) ≡ false = ne_eqb a x (λ q. absurd (omega arith)) in
      rw (not_below _ x bs _ m, not_below a x _ e l) (value_at (e % 2 == 1) at a (value b) x ne)
  | inr l ↦ elim (cases_eq a x) [
    | inl same ↦
        let m : x < a + 1 = omega arith in
        let at_first : stored_byte a (b ∷ bs) e x ≡ enabled_byte (b ∷ bs) e 0 = subst (λ y.
        stored_byte a (b ∷ bs) e y ≡ enabled_byte (b ∷ bs) e 0) (zero_behind a ∙ same) (stored_from_first a (b ∷ bs) e 0) in
        rw (not_below _ x bs _ m, at_first, enabled_first b bs e) (first_value (e % 2 == 1) value at a b x (eq-eqb a x same))
    | inr other ↦
        let k : ℕ = x - (a + 1) in
        let far : a + 1 ≤ x = omega arith in
        let p : a + 1 + k ≡ x = omega arith in
        let q : a + suc k ≡ x = omega arith in
        let next : stored_byte _ bs _ x ≡ enabled_byte bs _ k = subst (λ y.
        stored_byte (a + 1) bs (e / 2) y ≡ enabled_byte bs (e / 2) k) p (stored_from_first (a + 1) bs (e / 2) k) in
        let here : stored_byte a (b ∷ bs) e x ≡ enabled_byte bs _ k = subst (λ y.
        stored_byte a (b ∷ bs) e y ≡ enabled_byte bs (e / 2) k) q (stored_from_first a (b ∷ bs) e _ ∙ enabled_next b bs e k) in
        rw (next, here) (ap (chosen value (enabled_byte bs (e / 2) k)) (value_at (e % 2 == 1) at a (value b) x (ne_eqb a x other)))
  ]
]

pub bytes_at : (value : ℕ → Owed) (bs : List ℕ) (a x e : ℕ) (at : ℕ → Owed)
    → with_bytes at value a bs e x ≡ chosen value (stored_byte a bs e x) (at x)
bytes_at value [] a x e at = rw (nothing_stored a x e) refl
bytes_at value (b ∷ bs) a x e at = bytes_at value bs _ x _ (if e % 2 == 1 then with_value at a _ else at) ∙ written_at
    value a x b bs e at

pub known_chosen : (store : StoreName) (o : Option ℕ) (old : Owed) → known (chosen (λ b.
    owed.Stored b store) o old) ≡ written_byte o (known old)
known_chosen store (Some b) old = refl
known_chosen store None old = refl

-- Words. ----

unit_same : (unit : UnitPlace) (f g : ℕ → Option ℕ) → ((a : ℕ) → f a ≡ g a) → at_unit unit f ≡ at_unit unit g
unit_same unit f g h = grind arith

written_map : (f g : ℕ → Option ℕ) (xs : List ℕ) → written (map f xs) (map g xs) ≡ map (λ x. written_byte (f x) (g x)) xs
unfolding written
written_map f g [] = refl
written_map f g (x ∷ xs) = ap (λ ws. written_byte (f x) (g x) ∷ ws) (written_map f g xs)

written_lane : (unit : UnitPlace) (f g : ℕ → Option ℕ) (k : ℕ) → written_byte (at_lane unit f k) (at_lane unit g k) ≡ at_lane unit (λ a.
    written_byte (f a) (g a)) k
written_lane unit f g k = grind arith

written_unit : (unit : UnitPlace) (f g : ℕ → Option ℕ) → written (at_unit unit f) (at_unit unit g) ≡ at_unit unit (λ a.
    written_byte (f a) (g a))
written_unit unit f g = cc (written_map (at_lane unit f) (at_lane unit g) (range_with_len 0 8), fun_ext (written_lane unit f g))

written_nothing : (bs ws : List (Option ℕ)) → list_any is_some bs ≡ false → written bs ws ≡ ws
unfolding written
written_nothing [] ws h = refl
written_nothing (b ∷ bs) [] h = refl
written_nothing (None ∷ bs) (w ∷ ws) h = ap (λ x. w ∷ x) (written_nothing bs ws h)
written_nothing (Some b ∷ bs) (w ∷ ws) h = cc

-- Answers. ----

pub no_place : {L : Type 0} (may : L → ℕ → Bool) (ps : List (L × ℕ))
    → nat_lt (prefix_len (λ p. not (not (may p.0 p.1))) ps) (length ps) ≡ false → Each (λ p. may p.0 p.1 ≡ true) ps
no_place may [] h = tt
no_place may (p ∷ ps) h = elim (cases_Bool _) [
  | inl e ↦ (
    e,
    no_place may ps (false_from_ne_true (nat_lt (prefix_len (λ q. not _) ps) _) (λ t.
        let l = ltb-true _ _ t in
        let f = (rw e at h) in
        both_ways (nat_lt (1 + prefix_len (λ q. not _) ps) _) f (lt-ltb _ _ (omega arith)))),
  )
  | inr e ↦
      let f = (rw e at h) in
      absurd (both_ways (nat_lt 0 (suc (length ps))) f (lt-ltb 0 (suc (length ps)) (omega arith)))
]

pub place_none : {L : Type 0} (may : L → ℕ → Bool) (ps : List (L × ℕ)) → position (λ p. not (may p.0 p.1)) ps ≡ None
    → nat_lt (prefix_len (λ p. not (not (may p.0 p.1))) ps) (length ps) ≡ false
place_none may ps h = grind arith

wrong_none : (o : Option ℕ) → wrong_byte o ≡ None → o ≡ None
wrong_none None h = refl
wrong_none (Some k) h = cc

pub response_parts : {L : Type 0} (may : L → ℕ → Bool) (ls : List L) (bs : List ℕ) → load_response_fault may ls bs ≡ None
    → ((length ls == 0) ≡ false) × ((length ls ≡ length bs) × (wrong_place may ls bs ≡ None))
response_parts may ls bs h = elim (cases_Bool (length ls == 0)) [
  | inl e ↦ let f = (rw e at h) in cc
  | inr e ↦ elim (cases_Bool _) [
    | inl g ↦ (e, (eqb-true _ _ g, wrong_none _ (rw (e, g) at h)))
    | inr g ↦ let f = (rw (e, g) at h) in cc
  ]
]

-- Open operations. ----

abbrev pub owed_byte : Operation → ℕ → (ℕ → Owed) → OwedByte
owed_byte o a memory = record { number = o.number; address = a; owed = asked memory o.address o.enables a }

abbrev pub owed_number : OwedByte → ℕ
owed_number l = l.number

pub owed_named : (o : Operation) (a : ℕ) (memory : ℕ → Owed) → owed_number (owed_byte o a memory) ≡ o.number
owed_named o a memory = refl

pub record Agrees (o : Opened) (f : Flat) (ks : List (Marked (ℕ → Owed))) : Type 0 where
  pub loads : Loads owed_byte owed_number owed_named ks f.loads o.loads
  pub stores : (n : ℕ) → list_any (is_open n) f.stores ≡ list_any (has_number n) o.stores

any_snoc : {X : Type 0} (p : X → Bool) (xs : List X) (x : X) → list_any p (xs ++ x ∷ []) ≡ (list_any p xs || p x)
any_snoc p [] x = or-false (p x)
any_snoc p (y ∷ xs) x = cc (any_snoc p xs x, or_assoc (p y) (list_any p xs) (p x))

kept_other : {X : Type 0} (number : X → ℕ) (n m : ℕ) (x : X) → (n == m) ≡ false → (number x == m) ≡ true → not (number x == n) ≡ true
kept_other number n m x h e = grind arith

-- whether a number is left without another one
without_one : {X : Type 0} (number : X → ℕ) (n m : ℕ) (xs : List X) → list_any (λ x. number x == m) (filter (λ x.
    not (number x == n)) xs) ≡ (not (n == m) && list_any (λ x. number x == m) xs)
without_one number n m xs = elim (cases_Bool _) [
  | inl e ↦
      let same = eqb-true n m e in
      rw e (subst (λ k. list_any (λ x. number x == k) (filter (λ x. not (number x == n)) xs) ≡ false) same
      (list_any-filter (λ x. not _) (λ x. number x == n) xs
      ∙ any_none (λ x. not _ && (number x == n)) xs (each_always (λ x. (not _ && (number x == n)) ≡ false) (λ x.
      not_itself (number x == n)) xs)))
  | inr e ↦ rw e (list_any-kept (λ x. not _) (λ x. number x == m) (λ x f. kept_other number n m x e f) xs)
]

pub agrees_after : (o : Opened) (f : Flat) (ks : List (Marked (ℕ → Owed))) (event : HistoryEvent) → Agrees o f ks
    → form_fault o event ≡ None
    → Agrees (opened_after o event) (flat_after f event) (marked_after f.memory ks event)
agrees_after o f ks (LoadRequest n a len e) g h =
    let p = is_allowed _ _ _ h in
    record {
      loads = loads_more owed_byte owed_number owed_named ks f.loads o.loads g.loads (record {
        operation = record {
          number = n;
          address = a;
          length = len;
          enables = e;
        };
        mark = f.memory;
      }) p.1.1 (inside_some a len p.0);
      stores = g.stores;
    }
agrees_after o f ks (LoadResponse n bytes) g h = record {
  loads = loads_fewer owed_byte owed_number owed_named ks f.loads o.loads g.loads n;
  stores = g.stores;
}
agrees_after o f ks (StoreRequest n a bytes e) g h =
    let x : Operation = record { number = n; address = a; length = length bytes.now; enables = e } in
    record {
      loads = g.loads;
      stores = λ m. any_snoc _ f.stores n ∙ (cc (g.stores m, any_snoc (has_number m) o.stores x));
    }
agrees_after o f ks (StoreResponse n) g h = record {
  loads = g.loads;
  stores = λ m. without_one (λ x. x) n m f.stores ∙ (cc (g.stores m, without_one (λ x. x.number) n m o.stores));
}

found : (p : Operation → Bool) (os : List Operation) → list_any p os ≡ true → (x : Operation) × (find p os ≡ Some x)
found p [] h = cc
found p (x ∷ xs) h = elim (cases_Bool (p x)) [
  | inl e ↦ (x, rw e refl)
  | inr e ↦ let r = found p xs (rw e at h) in (r.0, rw e r.1)
]

some_passes : {X : Type 0} (p : X → Bool) (xs : List X) → (length (filter p xs) == 0) ≡ false → list_any p xs ≡ true
some_passes p [] h = cc
some_passes p (x ∷ xs) h = elim (cases_Bool (p x)) [
  | inl e ↦ rw e refl
  | inr e ↦ rw e (some_passes p xs (rw e at h))
]

-- the load that is answered, and that each of its bytes is what it is owed
record IsAnswer (o : Opened) (ks : List (Marked (ℕ → Owed))) (n : ℕ) (bytes : List ℕ) : Type 0 where
  pub operation : Operation
  pub found_open : find (has_number n) o.loads ≡ Some operation
  pub load : Marked (ℕ → Owed)
  pub found_load : find (is_number n) ks ≡ Some load
  pub same : load.operation ≡ operation
  pub long : length bytes ≡ load.operation.length
  pub paid : (i b : ℕ) → slice_get bytes i ≡ Some b → i < load.operation.length
      → is_paid_by (asked load.mark load.operation.address load.operation.enables (load.operation.address + i)) b ≡ true

answer_of : (o : Opened) (f : Flat) (ks : List (Marked (ℕ → Owed))) (n : ℕ) (bytes : Bor (List ℕ)) → Agrees o f ks
    → flat_fault f (LoadResponse n bytes) ≡ None → IsAnswer o ks n bytes.now
answer_of o f ks n bytes g h =
    let r = response_parts may_return _ bytes.now h in
    let any = sym (loads_any owed_byte owed_number owed_named ks f.loads o.loads g.loads n) ∙
    some_passes _ f.loads r.0 in
    let x = found _ o.loads any in
    let u = loads_under owed_byte owed_number owed_named ks f.loads o.loads g.loads n x.0 x.1 in
    let k = u.0 in
    let right = ap (λ ls.
    wrong_place may_return ls bytes.now) (sym u.1.1.1) ∙ r.1.1 in
    record {
      operation = x.0;
      found_open = x.1;
      load = k;
      found_load = u.1.0;
      same = u.1.1.0;
      long = sym r.1.0 ∙ (ap length u.1.1.1 ∙ length_bytes owed_byte owed_number owed_named k);
      paid = paid_at owed_byte owed_number owed_named may_return k.operation k.mark k.operation.length k.operation.address bytes.now
          (no_place may_return (zip (bytes_of owed_byte owed_number owed_named k) bytes.now) (place_none may_return (zip (bytes_of owed_byte
          owed_number owed_named k) bytes.now) right));
    }

pub formed_after : (o : Opened) (f : Flat) (ks : List (Marked (ℕ → Owed))) (event : HistoryEvent) → Agrees o f ks
    → flat_fault f event ≡ None
    → form_fault o event ≡ None
formed_after o f ks (LoadRequest n a len e) g h = ap (request_fault (is_inside a len) (enables_any len e)) (sym
    (loads_any owed_byte owed_number owed_named
    ks f.loads o.loads g.loads n)) ∙ h
formed_after o f ks (LoadResponse n bytes) g h =
    let a = answer_of o f ks n bytes g h in
    let same = eq-eqb a.operation.length _ (ap (λ x.
    x.length) (sym a.same) ∙ sym a.long) in
    rw (a.found_open, same) refl
formed_after o f ks (StoreRequest n a bytes e) g h = ap (request_fault (is_inside a (length bytes.now)) (has_enabled bytes.now e))
    (sym (g.stores n)) ∙ h
formed_after o f ks (StoreResponse n) g h = ap store_response_fault (sym (g.stores n)) ∙ h

-- One unit. ----

-- a byte that is enabled is what stood there
enabled_paid : (k : Marked (ℕ → Owed)) (i b : ℕ) → (bit_at k.operation.enables i == 1) ≡ true
    → is_paid_by (asked k.mark k.operation.address k.operation.enables (k.operation.address + i)) b ≡ true
    → is_paid_by (k.mark (k.operation.address + i)) b ≡ true
enabled_paid k i b x h =
    let place : k.operation.address + i - k.operation.address ≡ i = omega arith in (rw (place, x) at h)

lane_stood : (t : Bool) (o : Option ℕ) (b : ℕ) → is_as_it_stood o (Some b) ≡ true → is_as_it_stood (if t then o else None) (Some b) ≡ true
lane_stood true o b h = h
lane_stood false o b h = refl

get_within : (bs : List ℕ) (i b : ℕ) → slice_get bs i ≡ Some b → i < length bs
get_within [] i b h = cc
get_within (c ∷ bs) zero b h = omega arith
get_within (c ∷ bs) (suc i) b h = let l = get_within bs i b h in omega arith

run_parts : (f : Flat) (event : HistoryEvent) (events : List HistoryEvent) → IsTrue (is_some (flat_run f (event ∷ events)))
    → (flat_fault f event ≡ None) × IsTrue (is_some (flat_run (flat_after f event) events))
run_parts f event events t = grind arith

module _ (unit : UnitPlace) where
  abbrev pub word_of : (ℕ → Owed) → List (Option ℕ)
  word_of memory = at_unit unit (λ a. known (memory a))

  -- an open load got what stood here at its request
  abbrev pub IsBound : OpenLoad → Marked (ℕ → Owed) → Type 0
  IsBound l k = (k.operation.number ≡ l.number) × ((l.address ≡ reads k.operation) × (l.got ≡ Some (word_of k.mark)))

  pub record Holds (f : Flat) (ks : List (Marked (ℕ → Owed))) (m : UnitMemory) : Type 0 where
    pub word : m.word ≡ word_of f.memory
    pub done : Each (λ s. s.is_done ≡ true) m.stores
    pub bound : Each (λ l. One (IsBound l) ks) m.loads

  word_stored : (memory : ℕ → Owed) (store : StoreName) (a : ℕ) (bs : List ℕ) (e : ℕ)
      → written (at_unit unit (stored_byte a bs e)) (word_of memory) ≡ word_of (stored memory store a bs e)
  word_stored memory store a bs e =
      written_unit unit (stored_byte a bs e) (λ x. known (memory x))
      ∙ unit_same unit (λ x. written_byte _ (known (memory x))) (λ x. known (stored memory store a bs e x))
      (λ x. sym (ap known (bytes_at (λ b. owed.Stored b store) bs a x e memory) ∙ known_chosen store (stored_byte a bs e x) (memory x)))

  lane_paid : (k : Marked (ℕ → Owed)) (bs : List ℕ) → length bs ≡ k.operation.length → ((i b : ℕ) → slice_get bs i ≡ Some b
      → i < k.operation.length → (bit_at k.operation.enables i == 1) ≡ true → is_paid_by (k.mark (k.operation.address + i)) b ≡ true)
      → (j : ℕ) (o : Option ℕ) → read_byte (reads k.operation) bs (unit.first + j) ≡ o → is_as_it_stood (at_lane unit (λ a.
      known (k.mark a)) j) (read_byte (reads k.operation) bs (unit.first + j)) ≡ true
  lane_paid k bs long paid j None e = rw e (none_asked (at_lane unit (λ a. known (k.mark a)) j))
  lane_paid k bs long paid j (Some b) e =
      let p = then_it _ _ b e in
      let i = unit.first + j - k.operation.address in
      let low = leb-true k.operation.address _ p.0 in
      let place : k.operation.address + i ≡ unit.first + j = omega arith in
      let q = then_it _ _ b p.1 in
      let short : i < k.operation.length = subst (λ n. i < n) long (get_within bs i b q.1) in
      let stood : is_as_it_stood (known (k.mark (unit.first + j))) (Some b) ≡ true =
      paid_stood (k.mark (unit.first + j)) b (rw place at (paid i b q.1 short q.0)) in
      rw e (lane_stood (nat_lt j unit.size) (known (k.mark (unit.first + j))) b stood)

  -- what a load got is what it is answered
  pub got_paid : (k : Marked (ℕ → Owed)) (bs : List ℕ) → length bs ≡ k.operation.length → ((i b : ℕ) → slice_get bs i ≡ Some b
      → i < k.operation.length → (bit_at k.operation.enables i == 1) ≡ true → is_paid_by (k.mark (k.operation.address + i)) b ≡ true)
      → is_word_of unit.first (word_of k.mark) (reads k.operation) bs ≡ true
  got_paid k bs long paid =
      lane_word unit.first _ (reads k.operation) bs
      (λ j l. let l8 = l in
      subst (λ x. is_as_it_stood x (read_byte (reads k.operation) bs (unit.first + j)) ≡ true) (sym (cc (
        lane_map (at_lane unit (λ a.
            known (k.mark a))) 8 0 j l8,
        zero_plus j,
      )))
      (lane_paid k bs long paid j (read_byte (reads k.operation) bs (unit.first + j)) refl))

  bound_got : (ks : List (Marked (ℕ → Owed))) (n : ℕ) (bytes : List ℕ) → AreDifferent ks → (k : Marked (ℕ → Owed))
      → find (is_number n) ks ≡ Some k → is_word_of unit.first (word_of k.mark) (reads k.operation) bytes ≡ true
      → (l : OpenLoad) → One (IsBound l) ks → (not (is_load n l) || is_got unit l.address bytes l.got) ≡ true
  bound_got ks n bytes d k e right l q = elim (cases_Bool _) [
    | inl t ↦
        let b = same_load ks n k (λ x. (l.address ≡ reads x.operation) × (l.got ≡ Some _)) d e
        (one_weaker _ (λ x. (x.operation.number ≡ n) × ((l.address ≡ reads x.operation)
        × (l.got ≡ Some _))) (λ x y. (y.0 ∙ eqb-true l.number n t, y.1)) ks q) in
        rw (t, b.0, b.1) right
    | inr t ↦ rw t refl
  ]

  -- Events. ----

  requested : (start : UnitMemory) (past : List HistoryEvent) (f : Flat) (ks : List (Marked (ℕ → Owed))) (m : UnitMemory) (n a len en : ℕ)
      → MayBe unit start past m → Holds f ks m → (t : Bool) → is_at unit a len ≡ t
      → (k : UnitMemory) × (MayBe unit start (past ++ LoadRequest n a len en ∷ []) k
      × Holds (flat_after f (LoadRequest n a len en)) (marked_after f.memory ks (LoadRequest n a len en)) k)
  requested start past f ks m n a len en r h true e =
      let l : OpenLoad = record { number = n; address = reads_from a en; got = None } in
      let k : Marked (ℕ → Owed) = record { operation = record { number = n; address = a; length = len; enables = en }; mark = f.memory } in
      let after : UnitMemory = record { word = m.word; stores = m.stores; loads = m.loads ++ done_load _ l ∷ [] } in (
        after,
        (
          steps _ _ after (sees past (LoadRequest n a len en) m (with_load n (reads_from a en) m) r (rw e
              refl)) (inr (m.loads, l, [], refl, refl, refl)),
          record {
            word = h.word;
            done = h.done;
            bound = each_append (λ x. One _ _) _ _
                (each_weaker (λ x. One _ ks) (λ x. One _ _) (λ x q.
                one_left _ ks _ q) _ h.bound)
                (one_last _ ks k (refl, (refl, ap Some h.word)), tt);
          },
        ),
      )
  requested start past f ks m n a len en r h false e =
      let k : Marked (ℕ → Owed) = record { operation = grind arith; mark = f.memory } in (
        m,
        (
          sees past _ m m r (rw e refl),
          record {
            word = h.word;
            done = h.done;
            bound = each_weaker (λ x. One _ ks) (λ x. One _ _) (λ x q.
                one_left _ ks _ q) _ h.bound;
          },
        ),
      )

  answered : (start : UnitMemory) (past : List HistoryEvent) (o : Opened) (f : Flat) (ks : List (Marked (ℕ
      → Owed))) (m : UnitMemory) (n : ℕ) (bytes : Bor (List ℕ)) → MayBe unit start past m → Holds f ks m → AreDifferent ks
      → IsAnswer o ks n bytes.now
      → (k : UnitMemory) × (MayBe unit start (past ++ LoadResponse n bytes ∷ []) k
      × Holds (flat_after f (LoadResponse n bytes)) (marked_after f.memory ks (LoadResponse n bytes)) k)
  answered start past o f ks m n bytes r h d a =
      let may : may_answer_load unit n bytes.now _ ≡ true =
      each_all (λ l. not _ || is_got unit l.address bytes.now l.got) _
      (each_weaker (λ l. One _ ks) (λ l. (not _ || is_got unit l.address bytes.now l.got) ≡ true) (λ l q.
      bound_got ks n bytes.now d a.load a.found_load
      (got_paid a.load bytes.now a.long (λ i b g s x. enabled_paid a.load i b x (a.paid i b g s))) l q) _ h.bound) in (
        without_load n m,
        (
          sees past _ m _ r (rw may refl),
          record {
            word = h.word;
            done = h.done;
            bound = each_passing (λ l. One _ (filter (λ k. not _) ks)) (λ l. not _) _
                (each_weaker (λ l. One _ ks) (λ l. not _ ≡ true → One _ (filter (λ k.
                not _) ks))
                (λ l q other. one_filter _ (λ k. not _) ks (one_weaker _ (λ k. IsBound l k
                × (not _ ≡ true)) (λ k b. (b, ap (λ x. not (x == n)) b.0 ∙ other)) ks q)) _ h.bound);
          },
        ),
      )

  store_requested : (start : UnitMemory) (past : List HistoryEvent) (f : Flat) (ks : List (Marked (ℕ
      → Owed))) (m : UnitMemory) (n a : ℕ) (bytes : Bor (List ℕ)) (e : ℕ) → MayBe unit start past m → Holds f ks m
      → (t : Bool) → list_any is_some (at_unit unit (stored_byte a bytes.now e)) ≡ t
      → (k : UnitMemory) × (MayBe unit start (past ++ StoreRequest n a bytes e ∷ []) k
      × Holds (flat_after f (StoreRequest n a bytes e)) ks k)
  store_requested start past f ks m n a bytes e r h true c =
      let word = at_unit unit (stored_byte a bytes.now e) in
      let s : OpenStore = record { number = n; bytes = word; is_done = false } in
      let after : UnitMemory = record { word = written word _; stores = m.stores ++ done_store s ∷ []; loads = m.loads } in
      let store : StoreName = record { number = n; requested = f.moment } in (
        after,
        (
          steps _ _ after (sees past (StoreRequest n a bytes e) m (with_store n
              word m) r (rw c refl)) (inl (m.stores, s, [], refl, refl, refl)),
          record {
            word = ap (written word) h.word ∙ word_stored f.memory store a bytes.now e;
            done = each_append (λ x. x.is_done ≡ true) _ _ h.done (refl, tt);
            bound = h.bound;
          },
        ),
      )
  store_requested start past f ks m n a bytes e r h false c =
      let word : List _ = at_unit unit (stored_byte a bytes.now e) in
      let store : StoreName = record { number = n; requested = f.moment } in (
        m,
        (
          sees past _ m m r (rw c refl),
          record {
            word = sym (written_nothing word m.word c) ∙ (ap (written word) h.word ∙ word_stored f.memory store a bytes.now e);
            done = h.done;
            bound = h.bound;
          },
        ),
      )

  store_answered : (start : UnitMemory) (past : List HistoryEvent) (f : Flat) (ks : List (Marked (ℕ → Owed))) (m : UnitMemory) (n : ℕ)
      → MayBe unit start past m → Holds f ks m
      → (k : UnitMemory) × (MayBe unit start (past ++ StoreResponse n ∷ []) k × Holds (flat_after f (StoreResponse n)) ks k)
  store_answered start past f ks m n r h =
      let may : may_answer_store n _ ≡ true =
      each_all (λ s. not _ || s.is_done) _ (each_weaker (λ s. s.is_done ≡ true) (λ s.
      (not _ || s.is_done) ≡ true) (λ s q. rw q (or-true (not (is_store n s)))) _ h.done) in (
        without_store n m,
        (
          sees past _ m _ r (rw may refl),
          record { word = h.word; done = each_filter (λ s. s.is_done ≡ true) (λ s. not _) _ h.done; bound = h.bound },
        ),
      )

  pub next : (start : UnitMemory) (past : List HistoryEvent) (o : Opened) (f : Flat) (ks : List (Marked (ℕ
      → Owed))) (m : UnitMemory) (event : HistoryEvent) → MayBe unit start past m → Holds f ks m → Agrees o f ks → flat_fault f event ≡ None
      → (k : UnitMemory) × (MayBe unit start (past ++ event ∷ []) k × Holds (flat_after f event) (marked_after f.memory ks event) k)
  next start past o f ks m (LoadRequest n a len en) r h g e = requested start past f ks m n a len en r h _ refl
  next start past o f ks m (LoadResponse n bytes) r h g e = answered start past o f ks m n bytes r h g.loads.different (answer_of o f ks n
      bytes g e)
  next start past o f ks m (StoreRequest n a bytes es) r h g e = store_requested start past f ks m n a bytes es r h _ refl
  next start past o f ks m (StoreResponse n) r h g e = store_answered start past f ks m n r h

  moments_from : (start : UnitMemory) (past future : List HistoryEvent) (o : Opened) (f : Flat) (ks : List (Marked (ℕ
      → Owed))) (m : UnitMemory) → MayBe unit start past m → Holds f ks m → Agrees o f ks → IsTrue (is_some (flat_run f future))
      → (k : UnitMemory) × MayBe unit start (past ++ future) k
  moments_from start past [] o f ks m r h g t = (m, subst (λ x. MayBe unit start x m) (sym (append-nil past)) r)
  moments_from start past (event ∷ events) o f ks m r h g t =
      let p = run_parts f event events t in
      let s = next start past o f ks m event r h g p.0 in
      let v = moments_from start _ events (opened_after o event) (flat_after f event) (marked_after f.memory ks event) s.0 s.1.0 s.1.1
      (agrees_after o f ks event g (formed_after o f ks event g p.0)) p.1 in
      (v.0, subst (λ x. MayBe unit start x v.0) (append_assoc past (event ∷ []) events) v.1)

pub formed_from : (o : Opened) (f : Flat) (ks : List (Marked (ℕ → Owed))) (history : List HistoryEvent) → Agrees o f ks
    → IsTrue (is_some (flat_run f history)) → is_formed o history ≡ true
formed_from o f ks [] g t = refl
formed_from o f ks (event ∷ events) g t =
    let p = run_parts f event events t in
    let e = formed_after o f ks event g p.0 in
    rw e (formed_from (opened_after o event) (flat_after f event) (marked_after f.memory ks event) events (agrees_after o f ks event g e)
    p.1)

pub first_agrees : (image : List ℕ) (rest : Rest) → Agrees none_opened (flat.opening image rest) []
first_agrees image rest = grind arith

pub first_holds : (image : List ℕ) (rest : Rest) (unit : UnitPlace) → Holds unit (flat.opening image rest) [] (untouched image rest unit)
first_holds image rest unit = record {
  word = unit_same unit _ (λ a. known _) (λ a.
      sym (known_initial (slice_get image a) rest));
  done = tt;
  bound = tt;
}

pub flat_is_atomic : (image : List ℕ) (rest : Rest) (size : ℕ) (history : List HistoryEvent) → FlatIsAtomic image rest size history
flat_is_atomic image rest size history = λ t. record {
  formed = formed_from none_opened _ [] history (first_agrees image rest) t;
  moments = λ k. moments_from _ _ [] history none_opened _ []
      (untouched image rest _) starts (first_holds image rest (unit_at size k)) (first_agrees image rest) t;
}

pub flat_is_regular : (image : List ℕ) (rest : Rest) (history : List HistoryEvent) → FlatIsRegular image rest history
flat_is_regular image rest history = λ returned t. atomic_is_regular image rest 1 history (
  omega arith,
  omega arith,
) returned (flat_is_atomic image rest 1 history t)
