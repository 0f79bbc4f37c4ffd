-- A run of flat memory, told as a history, is one of the flat law.
use Rattle.std.proofs.Common.{◌≡◌, ◌≢◌, ℕ, zero, suc, ◌+◌, ◌-◌, ◌*◌, ◌/◌, ◌%◌, ◌<◌, ◌≤◌, Bool, true, false, ◌&&◌, ◌||◌, not, ◌==◌, cond}
use Rattle.std.proofs.Common.{if◌then◌else◌, nat_lt, List, [], ◌∷◌, ◌++◌, map, length, Option, Some, None, slice_get, inl, inr}
use Rattle.std.proofs.Common.{refl, sym, ap, ◌∙◌, subst, eq-eqb, eqb-true, append-nil, arith}
use Rattle.std.specs.Prelude.{is_none, is_some, IsTrue}
use Rattle.std.specs.Int.{bit_at}
use Rattle.std.specs.List.{filter, list_any}
use Rattle.std.specs.Option.{option_and_then}
use Rattle.std.proofs.lemmas.Bool.{cases_Bool, cases_eq, cases_lt, and_parts, ne_eqb, ltb-true, false_from_ne_true, both_ways}
use Rattle.std.proofs.lemmas.Nat.Bits.{bit_at-suc, bit_at-lt, bit_at_ones, and_pow}
use Rattle.std.proofs.lemmas.List.{get_or-set_same, get_or-set_other, length-set}
use Rattle.std.proofs.lemmas.List.Elements.{filter-append}
use Rattle.std.proofs.lemmas.Option.{slice_get_past}
use Rattle.atomic_histories.proofs.Bits.{stored_from_first}
use Rattle.memory_histories.specs.declared.events.HistoryEvent.{HistoryEvent}
use Rattle.memory_histories.specs.declared.events.TheConstants.{ALL_ENABLED}
use Rattle.memory_histories.specs.declared.events.HistoryEvent.TheVariants.{LoadRequest, LoadResponse, StoreRequest, StoreResponse}
use Rattle.memory_histories.specs.declared.events.Rest.{Rest}
use Rattle.memory_histories.specs.declared.events.Rest.TheVariants.{Zeros}
use Rattle.memory_histories.specs.declared.reasons.Owed.{Owed}
use Rattle.memory_histories.specs.declared.reasons.Owed.TheVariants as owed
use Rattle.memory_histories.specs.declared.reasons.StoreName.{StoreName}
use Rattle.memory_histories.specs.declared.flat.OwedByte.{OwedByte}
use Rattle.memory_histories.specs.Regular.{is_inside, has_enabled, load_response_fault}
use Rattle.memory_histories.specs.Flat.{Flat, initial, stored, asked, owed_bytes, is_paid_by, may_return, is_of, flat_fault, flat_after}
use Rattle.memory_histories.specs.Flat.{flat_run}
use Rattle.memory_histories.specs.Flat as flat
use Rattle.atomic_histories.specs.Words.{enabled_byte, stored_byte, written_byte}
use Rattle.machine_core.specs.Words.{Word, Lanes, Event, Load, Store, Prefetch, Evict, Drain, Serve, Arrive, Process, Take, Answer}
use Rattle.machine_core.specs.Words.{Accepted, Moved, Value, Nothing, Refused, Sizes}
use Rattle.flat_model.specs.Words.{Lane, Lane0, Lane1, Lane2, Lane3, byte, zero_word, has, has_any, merged}
use Rattle.flat_model.specs.Flat.{word_at, with_due, same_word, is_owed, may_answer}
use Rattle.flat_model.specs.Flat as model
use Rattle.flat_model.proofs.Lanewise.{byte-merged}
use Rattle.machine_core.specs.Machine as machine
use Rattle.machine_core.proofs.Walking.{walk_is_flat}
use Rattle.history_laws.specs.Laws.{IsFlat, ReturnsBytes}
use Rattle.history_laws.specs.Told.{word_bytes, image_bytes, seen_bytes, told_events, told_history, IsAddressable, RunIsLawful}
use Rattle.history_laws.specs.Told.{MachineIsLawful}
use Rattle.history_laws.proofs.Flat.{flat_is_atomic, flat_is_regular, known, not_below, chosen, bytes_at, known_chosen}

-- Lanes. ----

abbrev pub place : Lane → ℕ
place Lane0 = 0
place Lane1 = 1
place Lane2 = 2
place Lane3 = 3

place_small : (l : Lane) → place l < 4
place_small Lane0 = omega arith
place_small Lane1 = omega arith
place_small Lane2 = omega arith
place_small Lane3 = omega arith

byte_there : (w : Word) (l : Lane) → slice_get (word_bytes w) (place l) ≡ Some (byte w l)
byte_there w Lane0 = refl
byte_there w Lane1 = refl
byte_there w Lane2 = refl
byte_there w Lane3 = refl

one_bit : (x m : ℕ) → x < 2 → 1 ≤ m → (x * m == m) ≡ (x == 1)
one_bit x m h l = elim (cases_eq x 1) [
  | inl e ↦ rw e (eq-eqb (1 * m) m (omega arith))
  | inr ne ↦ let z : x ≡ 0 = omega arith in rw z (ne_eqb _ m (λ q. absurd (omega arith)))
]

has_bit : (m : Lanes) (l : Lane) → has m l ≡ (bit_at m.0 (place l) == 1)
unfolding has
has_bit m Lane0 = cc (and_pow m.0 0, one_bit _ 1 (bit_at-lt m.0 0) (omega arith))
has_bit m Lane1 = cc (and_pow m.0 1, one_bit _ 2 (bit_at-lt m.0 1) (omega arith))
has_bit m Lane2 = cc (and_pow m.0 2, one_bit _ 4 (bit_at-lt m.0 2) (omega arith))
has_bit m Lane3 = cc (and_pow m.0 3, one_bit _ 8 (bit_at-lt m.0 3) (omega arith))

low_bit : (e : ℕ) → (bit_at e 0 == 1) ≡ (e % 2 == 1)
low_bit e = grind arith

next_bit : (e k : ℕ) → (bit_at e (suc k) == 1) ≡ (bit_at (e / 2) k == 1)
next_bit e k = ap (λ x. x == 1) (bit_at-suc e k)

or_end : (a b c d : Bool) → (a || (b || (c || d))) ≡ (a || (b || (c || (d || false))))
or_end true b c d = refl
or_end false true c d = refl
or_end false false true d = refl
or_end false false false true = refl
or_end false false false false = refl

some_enabled : (w : Word) (m : Lanes) → has_any m ≡ true → has_enabled (word_bytes w) m.0 ≡ true
some_enabled w m h = grind (arith, has_bit, low_bit, next_bit, or_end)

-- The byte of a word that a store leaves. ----

enabled_lane : (w : Word) (m : Lanes) (l : Lane) → enabled_byte (word_bytes w) m.0 (place l) ≡ (if has m l then Some (byte w l) else None)
enabled_lane w m l = rw (sym (has_bit m l), byte_there w l) refl

lane_left : (t : Bool) (new old : ℕ) → written_byte (if t then Some new else None) (Some old) ≡ Some (cond t new old)
lane_left true new old = refl
lane_left false new old = refl

-- The loads that are open, and what they are owed. ----

abbrev knowns : List OwedByte → List (Option ℕ)
knowns ls = map (λ l. known l.owed) ls

abbrev due_bytes : Option Word → List (Option ℕ)
due_bytes None = []
due_bytes (Some w) = Some w.b0 ∷ Some w.b1 ∷ Some w.b2 ∷ Some w.b3 ∷ []

pub record Tells (n : ℕ) (s : model.Flat) (f : Flat) : Type 0 where
  pub size : length s.mem ≡ n
  pub words : (at : ℕ) (l : Lane) → at < n → known (f.memory (4 * at + place l)) ≡ Some (byte (word_at s.mem at) l)
  pub due : (tag : ℕ) → knowns (filter (is_of tag) f.loads) ≡ due_bytes (s.due tag)
  pub no_stores : f.stores ≡ []

none_known : (ls : List OwedByte) → knowns ls ≡ [] → ls ≡ []
none_known [] h = refl
none_known (l ∷ ls) h = cc

none_of : {X : Type 0} (p : X → Bool) (xs : List X) → filter p xs ≡ [] → list_any p xs ≡ false
none_of p [] h = refl
none_of p (x ∷ xs) h = elim (cases_Bool (p x)) [
  | inl e ↦ let f = (rw e at h) in cc
  | inr e ↦ rw e (none_of p xs (rw e at h))
]

inside_word : (n at : ℕ) → n ≤ 4611686018427387904 → at < n → is_inside (4 * at) 4 ≡ true
inside_word n at h l = grind arith

due_none : (o : Option Word) → is_none o ≡ true → due_bytes o ≡ []
due_none None h = refl
due_none (Some w) h = cc

due_cases : (c t : Bool) (due : Option Word) (w : Option Word)
    → due_bytes (if c then w else due) ≡ (if c then due_bytes w else due_bytes due)
due_cases true t due w = refl
due_cases false t due w = refl

pub eqb_swap : (x y : ℕ) → (x == y) ≡ (y == x)
eqb_swap x y = elim (cases_eq x y) [
  | inl e ↦ eq-eqb x y e ∙ sym (eq-eqb y x (sym e))
  | inr ne ↦ ne_eqb x y ne ∙ sym (ne_eqb y x (λ e. ne (sym e)))
]

knowns_append : (xs ys : List OwedByte) → knowns (xs ++ ys) ≡ knowns xs ++ knowns ys
knowns_append [] ys = refl
knowns_append (x ∷ xs) ys = ap (λ t. known x.owed ∷ t) (knowns_append xs ys)

append_cases : (o : Option Flat) (es more : List HistoryEvent) (g : Flat) → option_and_then (λ x. flat_run x es) o ≡ Some g → ((x : Flat)
    → flat_run x es ≡ Some g → flat_run x (es ++ more) ≡ flat_run g more)
    → option_and_then (λ x. flat_run x (es ++ more)) o ≡ flat_run g more
append_cases None es more g h f = cc
append_cases (Some x) es more g h f = f x h

model_parts : (b : Bool) (g : model.Flat) (events : List Event) (answers : List Answer) → IsTrue (is_some (option_and_then (λ x.
    model.flat_run x events answers) (if b then Some g else None)))
    → (b ≡ true) × IsTrue (is_some (model.flat_run g events answers))
model_parts true g events answers t = (refl, t)
model_parts false g events answers t = cc

first_of : (w : Word) (bs : List ℕ) (l : Lane) → slice_get (word_bytes w ++ bs) (4 * 0 + place l) ≡ Some (byte w l)
first_of w bs Lane0 = refl
first_of w bs Lane1 = refl
first_of w bs Lane2 = refl
first_of w bs Lane3 = refl

shifted : (at k : ℕ) → suc (suc (suc (suc (4 * at + k)))) ≡ 4 * suc at + k
shifted at k = omega arith

module _ (n : ℕ) (fits : n ≤ 4611686018427387904) where
  -- A load is accepted. ----

  owed_word : (s : model.Flat) (f : Flat) → Tells n s f → (tag at : ℕ) → at < n
      → knowns (owed_bytes f.memory tag (4 * at) 4) ≡ due_bytes (Some (word_at s.mem at))
  owed_word s f t tag at l =
      let w = word_at s.mem at in
      let k0 = subst (λ a. known (f.memory a) ≡ Some w.b0) (omega arith) (t.words at Lane0 l) in
      let k1 = t.words at Lane1 l in
      let k2 = subst (λ a.
      known (f.memory a) ≡ Some w.b2) (omega arith) (t.words at Lane2 l) in
      let k3 = subst (λ a.
      known (f.memory a) ≡ Some w.b3) (omega arith) (t.words at Lane3 l) in
      λ i. k0 i ∷ k1 i ∷ k2 i ∷ k3 i ∷ []

  its_bytes : (memory : ℕ → Owed) (tag at t : ℕ)
      → filter (is_of t) (owed_bytes memory tag (4 * at) 4) ≡ (if tag == t then owed_bytes memory tag (4 * at) 4 else [])
  its_bytes memory tag at t = grind arith

  -- a load of a whole word asks for each byte
  asked_all : (memory : ℕ → Owed) (tag a x len : ℕ) → a ≤ x → x + len ≤ a + 64
      → owed_bytes (asked memory a ALL_ENABLED) tag x len ≡ owed_bytes memory tag x len
  asked_all memory tag a x zero l h = refl
  asked_all memory tag a x (suc len) l h =
      let bit : bit_at ALL_ENABLED (x - a) ≡ 1 = bit_at_ones 64 (x - a) (omega arith) in
      let one : asked memory a ALL_ENABLED x ≡ memory x = rw bit refl in
      let more = asked_all memory tag a (x + 1) len (omega arith) (omega arith) in
      λ i. record { number = tag; address = x; owed = one i } ∷ more i

  loads_with : (s : model.Flat) (f : Flat) → Tells n s f → (tag at : ℕ) → at < n → is_none (s.due tag) ≡ true → (t : ℕ)
      → knowns (filter (is_of t) (f.loads
      ++ owed_bytes f.memory tag (4 * at) 4)) ≡ due_bytes (with_due s.due tag (Some (word_at s.mem at)) t)
  loads_with s f h tag at l free t =
      ap knowns (filter-append (is_of t) f.loads (owed_bytes f.memory tag (4 * at) 4)) ∙ (knowns_append _ (filter
      (is_of t) (owed_bytes f.memory tag (4 * at) 4))
      ∙ elim (cases_Bool (tag == t)) [
        | inl e ↦
            let same = eqb-true tag t e in
            let none = subst (λ x. due_bytes (s.due x) ≡ []) same (due_none (s.due tag) free) in
            let flip = eqb_swap t tag ∙ e in
            rw (its_bytes f.memory tag at t, e, h.due t, none, flip) (owed_word s f h tag at l)
        | inr e ↦
            let flip = eqb_swap t tag ∙ e in
            rw (its_bytes f.memory tag at t, e, flip) (append-nil (knowns (filter (is_of t) f.loads)) ∙ h.due t)
      ])

  load_accepted : (s : model.Flat) (f : Flat) → Tells n s f → (tag at : ℕ) → (nat_lt at (length s.mem) && is_none (s.due tag)) ≡ true
      → (g : Flat) × ((flat_run f (LoadRequest tag (4 * at) 4 ALL_ENABLED ∷ []) ≡ Some g)
      × Tells n (record { mem = s.mem; due = with_due s.due tag (Some (word_at s.mem at)) }) g)
  load_accepted s f h tag at may =
      let p = and_parts _ _ may in
      let l = subst (λ m. at < m) h.size (ltb-true at (length s.mem) p.0) in
      let none : filter _ f.loads ≡ [] = none_known _ (h.due tag ∙ due_none _ p.1) in
      let right : flat_fault f (LoadRequest tag (4 * at) 4 ALL_ENABLED)
      ≡ None = rw (inside_word n at fits l, none_of _ f.loads none) refl in (
        flat_after f (LoadRequest tag (4 * at) 4 ALL_ENABLED),
        (
          rw right refl,
          record {
            size = h.size;
            words = h.words;
            due = λ t. ap (λ ys. knowns (filter (is_of t) (f.loads ++ ys)))
                (asked_all f.memory tag (4 * at) (4 * at) 4 (omega arith) (omega arith)) ∙ loads_with s f h tag at l p.1 t;
            no_stores = h.no_stores;
          },
        ),
      )

  -- A store is accepted. ----

  at_lane : (memory : ℕ → Owed) (store : StoreName) (at : ℕ) (word : Word) (m : Lanes) (l : Lane) (old : ℕ)
      → known (memory (4 * at + place l)) ≡ Some old
      → known (stored memory store (4 * at) (word_bytes word) m.0 (4 * at + place l)) ≡ Some (cond (has m l) (byte word l) old)
  at_lane memory store at word m l old h =
      ap known (bytes_at (λ b. owed.Stored b store) (word_bytes word) _ _ m.0 memory)
      ∙ (known_chosen store _ (memory (4 * at + place l))
      ∙ rw (stored_from_first (4 * at) (word_bytes word) m.0 (place l), enabled_lane word m l, h) (lane_left (has m l) (byte word l) old))

  not_enabled : (bs : List ℕ) (e k : ℕ) → length bs ≤ k → enabled_byte bs e k ≡ None
  not_enabled bs e k h = grind (arith, cases_Bool, slice_get_past)

  not_stored : (at other : ℕ) (word : Word) (e : ℕ) (l : Lane) → other ≢ at
      → stored_byte (4 * at) (word_bytes word) e (4 * other + place l) ≡ None
  not_stored at other word e l ne = elim (cases_lt _ _) [
    | inl below ↦ not_below _ _ (word_bytes word) e below
    | inr above ↦
        let small = place_small l in
        let far : 4 ≤ 4 * other + place l - 4 * at = omega arith in
        let whole : 4 * at + (4 * other + place l - 4 * at) ≡ 4 * other + place l = omega arith in
        subst (λ a. stored_byte (4 * at) (word_bytes word) e a ≡ None) whole
        (stored_from_first _ (word_bytes word) e _ ∙ not_enabled (word_bytes word) e _ far)
  ]

  words_with : (s : model.Flat) (f : Flat) → Tells n s f → (store : StoreName) (at : ℕ) (word : Word) (m : Lanes) → at < n
      → (other : ℕ) (l : Lane) → other < n
      → known (stored f.memory store (4 * at) (word_bytes word) m.0 (4 * other + place l)) ≡ Some (byte (word_at (model.stored s.mem at word
      m) other) l)
  words_with s f h store at word m low other l more = elim (cases_eq other at) [
    | inl e ↦
        let long = subst (λ k. at < k) (sym h.size) low in
        let left = get_or-set_same s.mem at (merged _ word m) zero_word long in
        subst (λ x. known (stored f.memory store (4 * at) (word_bytes word) m.0 (4 * x + place l)) ≡ Some (byte (word_at (model.stored s.mem
        at word m) x) l)) (sym e)
        (at_lane f.memory store at word m l _ (h.words at l low) ∙ sym (ap (λ w.
        Some (byte w l)) left ∙ ap Some (byte-merged (word_at s.mem at) word m l)))
    | inr ne ↦
        let same = get_or-set_other s.mem at other _ zero_word ne in
        ap known (bytes_at (λ b. owed.Stored b store) (word_bytes word) _ _ m.0 f.memory)
        ∙ (ap (λ o. known (chosen (λ b. owed.Stored b store) o (f.memory (4 * other + place l)))) (not_stored at other word m.0 l ne)
        ∙ (h.words other l more ∙ ap (λ w. Some (byte w l)) (sym same)))
  ]

  store_accepted : (s : model.Flat) (f : Flat) → Tells n s f → (at : ℕ) (word : Word) (m : Lanes)
      → (nat_lt at (length s.mem) && has_any m) ≡ true
      → (g : Flat) × ((flat_run f (StoreRequest 0 (4 * at) (seen_bytes (word_bytes word)) m.0 ∷ StoreResponse 0 ∷ []) ≡ Some g)
      × Tells n (record { mem = model.stored s.mem at word m; due = s.due }) g)
  store_accepted s f h at word m may =
      let p = and_parts _ _ may in
      let l = subst (λ k. at < k) h.size (ltb-true at (length s.mem) p.0) in
      let request : HistoryEvent = StoreRequest 0 _ (seen_bytes (word_bytes word)) m.0 in
      let right : flat_fault f request ≡ None = rw (inside_word n at fits l, some_enabled word m p.1, h.no_stores) refl in
      let open_now : (flat_after f request).stores ≡ 0 ∷ [] = ap (λ os. os ++ 0 ∷ []) h.no_stores in
      let ends : flat_fault (flat_after f request) (StoreResponse 0) ≡ None = rw open_now refl in
      let after : Flat = flat_after (flat_after f request) (StoreResponse 0) in
      let store : StoreName = record { number = 0; requested = f.moment } in (
        after,
        (
          rw (right, ends) refl,
          record {
            size = length-set s.mem at (merged _ word m) ∙ h.size;
            words = λ other lane more. words_with s f h store at word m l other lane more;
            due = h.due;
            no_stores = grind arith;
          },
        ),
      )

  -- A load gets its value. ----

  pub known_paid : (o : Owed) (b c : ℕ) → known o ≡ Some b → (b == c) ≡ true → is_paid_by o c ≡ true
  known_paid owed.Unknown b c h e = cc
  known_paid (owed.Initial x) b c h e = grind arith
  known_paid (owed.Stored x store) b c h e = grind arith

  paid_word : (ls : List OwedByte) (v word : Word) → knowns ls ≡ due_bytes (Some v) → same_word v word ≡ true
      → load_response_fault may_return ls (word_bytes word) ≡ None
  paid_word [] v word h e = cc
  paid_word (a ∷ []) v word h e = cc
  paid_word (a ∷ b ∷ []) v word h e = cc
  paid_word (a ∷ b ∷ c ∷ []) v word h e = cc
  paid_word (a ∷ b ∷ c ∷ d ∷ []) v word h e = grind arith
  paid_word (a ∷ b ∷ c ∷ d ∷ x ∷ ls) v word h e = cc

  owed_value : (o : Option Word) (word : Word) → is_owed o word ≡ true → (v : Word) × ((o ≡ Some v) × (same_word v word ≡ true))
  owed_value None word h = cc
  owed_value (Some v) word h = (v, (refl, h))

  others : (ls : List OwedByte) (tag t : ℕ) → knowns (filter (is_of t) (filter (λ l.
      not (is_of tag l)) ls)) ≡ (if t == tag then [] else knowns (filter (is_of t) ls))
  others [] tag t = elim (cases_Bool (t == tag)) [ inl e ↦ rw e refl | inr e ↦ rw e refl ]
  others (l ∷ ls) tag t = elim (cases_Bool (l.number == tag)) [
    | inl e ↦ elim (cases_Bool (t == tag)) [
      | inl k ↦ let more = (rw k at (others ls tag t)) in rw (
        e,
        k,
      ) more
      | inr k ↦
          let ne = false_from_ne_true _ (λ q.
          both_ways _ k (eq-eqb t tag (sym (eqb-true l.number t q) ∙ eqb-true l.number tag e))) in
          let more = (rw k at (others ls tag t)) in
          rw (e, k, ne) more
    ]
    | inr e ↦ elim (cases_Bool _) [
      | inl k ↦
          let ne = false_from_ne_true _ (λ q.
          both_ways _ e (eq-eqb l.number tag (eqb-true l.number t q ∙ eqb-true t tag k))) in
          let more = (rw k at (others ls tag t)) in
          rw (e, k, ne) more
      | inr k ↦
          let more = (rw k at (others ls tag t)) in
          elim (cases_Bool (l.number == t)) [
            | inl q ↦ rw (e, k, q) (ap (λ ks. known l.owed ∷ ks) more)
            | inr q ↦ rw (e, k, q) more
          ]
    ]
  ]

  pub value_taken : (s : model.Flat) (f : Flat) → Tells n s f → (tag : ℕ) (word : Word) → is_owed (s.due tag) word ≡ true
      → (g : Flat) × ((flat_run f (LoadResponse tag (seen_bytes (word_bytes word)) ∷ []) ≡ Some g)
      × Tells n (record { mem = s.mem; due = with_due s.due tag None }) g)
  value_taken s f h tag word may =
      let o = owed_value _ word may in
      let right = paid_word _ o.0 word
      (h.due tag ∙ ap due_bytes o.1.0) o.1.1 in (
        flat_after f (LoadResponse tag (seen_bytes (word_bytes word))),
        (
          rw right refl,
          record {
            size = h.size;
            words = h.words;
            due = λ t. others f.loads tag t ∙ (cc (h.due t, due_cases (t == tag) true (s.due t) None));
            no_stores = h.no_stores;
          },
        ),
      )

  -- Whole runs. ----

  nothing_told : (s : model.Flat) (f : Flat) → Tells n s f → (g : Flat) × ((flat_run f [] ≡ Some g) × Tells n s g)
  nothing_told s f h = (f, (refl, h))

  pub told_step : (s : model.Flat) (f : Flat) (event : Event) (answer : Answer) → Tells n s f → may_answer s event answer ≡ true
      → (g : Flat)
      × ((flat_run f (told_events event answer) ≡ Some g) × Tells n (model.flat_after s event answer) g)
  told_step s f (Load tag at) Accepted h may = load_accepted s f h tag at may
  told_step s f (Load tag at) Moved h may = nothing_told s f h
  told_step s f (Load tag at) (Value t w) h may = nothing_told s f h
  told_step s f (Load tag at) Nothing h may = nothing_told s f h
  told_step s f (Load tag at) (Refused c) h may = nothing_told s f h
  told_step s f (Store at word lanes) Accepted h may = store_accepted s f h at word lanes may
  told_step s f (Store at word lanes) Moved h may = nothing_told s f h
  told_step s f (Store at word lanes) (Value t w) h may = nothing_told s f h
  told_step s f (Store at word lanes) Nothing h may = nothing_told s f h
  told_step s f (Store at word lanes) (Refused c) h may = nothing_told s f h
  told_step s f (Prefetch at) answer h may = nothing_told s f h
  told_step s f (Evict block) answer h may = nothing_told s f h
  told_step s f Drain answer h may = nothing_told s f h
  told_step s f (Serve bank) answer h may = nothing_told s f h
  told_step s f (Arrive bank p) answer h may = nothing_told s f h
  told_step s f (Process p) answer h may = nothing_told s f h
  told_step s f (Take p) Accepted h may = nothing_told s f h
  told_step s f (Take p) Moved h may = nothing_told s f h
  told_step s f (Take p) (Value tag word) h may = value_taken s f h tag word may
  told_step s f (Take p) Nothing h may = nothing_told s f h
  told_step s f (Take p) (Refused c) h may = nothing_told s f h

  pub run_append : (es more : List HistoryEvent) (f g : Flat) → flat_run f es ≡ Some g → flat_run f (es ++ more) ≡ flat_run g more
  run_append [] more f g h = let same : f ≡ g = cc in ap (λ x. flat_run x more) same
  run_append (e ∷ es) more f g h = append_cases _ es more g h (λ x k. run_append es more x g k)

  run_from : (s : model.Flat) (f : Flat) (events : List Event) (answers : List Answer) → Tells n s f
      → IsTrue (is_some (model.flat_run s events answers)) → IsTrue (is_some (flat_run f (told_history events answers)))
  run_from s f [] answers h t = refl
  run_from s f (event ∷ events) [] h t = refl
  run_from s f (event ∷ events) (answer ∷ answers) h t =
      let p = model_parts _ _ events answers t in
      let r = told_step s f event answer h p.0 in
      rw (run_append _ _ f r.0 r.1.0) (run_from (model.flat_after s event answer) r.0
      events answers r.1.1 p.1)

-- The image. ----

word_in : (ws : List Word) (at : ℕ) (l : Lane) → at < length ws
    → slice_get (image_bytes ws) (4 * at + place l) ≡ Some (byte (word_at ws at) l)
word_in [] at l h = absurd (omega arith)
word_in (w ∷ ws) zero l h = first_of w _ l
word_in (w ∷ ws) (suc at) l h = subst (λ k.
    slice_get (image_bytes (w ∷ ws)) k ≡ Some (byte (word_at ws at) l)) (shifted at (place l)) (word_in ws at l (omega arith))

pub first_tells : (rest : Rest) (image : List Word) → Tells (length image) (model.opening image) (flat.opening (image_bytes image) rest)
first_tells rest image = record {
  size = refl;
  words = λ at l h. ap (λ o. known (initial o rest)) (word_in image at l h);
  due = λ tag. refl;
  no_stores = refl;
}

pub run_is_flat : (rest : Rest) (image : List Word) (events : List Event) (answers : List Answer) → IsAddressable image
    → IsTrue (is_some (model.flat_run (model.opening image) events answers)) → IsFlat (image_bytes image) rest (told_history events answers)
run_is_flat rest image events answers fits t = run_from _ fits _ _
    events answers (first_tells rest image) t

-- What the machine answers. ----

returned : (event : HistoryEvent) → ReturnsBytes Zeros event
returned (LoadRequest number address n enables) = tt
returned (LoadResponse number bytes) = λ k d l. tt
returned (StoreRequest number address bytes enables) = tt
returned (StoreResponse number) = tt

pub run_is_lawful : (image : List Word) (size : ℕ) (events : List Event) (answers : List Answer) → RunIsLawful image size events answers
run_is_lawful image size events answers = λ fits t.
    let history = told_history events answers in
    let flat_one = run_is_flat Zeros image events answers fits t in
    record {
      flat = flat_one;
      atomic = flat_is_atomic _ Zeros size history flat_one;
      regular = flat_is_regular _ Zeros history (λ k d l. returned _) flat_one;
    }

pub machine_is_lawful : (z : Sizes) (image : List Word) (size : ℕ) (events : List Event) → MachineIsLawful z image size events
machine_is_lawful z image size events = λ lawful long fits.
    let walk = walk_is_flat z image events lawful long in
    let answers = machine.told z _ events in
    let runs =
    ap is_some (ap (λ s. model.flat_run s events answers) (sym walk.opens) ∙ walk.runs) in
    run_is_lawful image size events answers fits runs
