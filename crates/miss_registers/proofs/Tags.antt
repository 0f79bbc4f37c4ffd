-- Lists of tags, and how often each stands there.
use Rattle.std.proofs.Common.{◌≡◌, ℕ, ◌<◌, List, length, set, get_or, replicate, ◌∙◌, inl, inr, ◌≤◌, true, false, ◌+◌, Bool, ◌||◌, cond, []}
use Rattle.std.proofs.Common.{◌∷◌, ◌++◌, map, refl, ap, arith, suc, zero, if◌then◌else◌, ◌*◌}
use Rattle.std.proofs.lemmas.Bool.{cases_eq, cases_lt, and_parts, ltb-true, not-true, false≢true, or_parts, cases_Bool}
use Rattle.std.proofs.lemmas.List.{get_or_default, get_or_past, get_or-set_same, get_or-set_other, get_or-replicate, length-replicate}
use Rattle.std.proofs.lemmas.List.{length-map, nil_from_length}
use Rattle.miss_registers.specs.Registers.{Register, clear_field, field_of, expects, Field, free_register, register_at, with_field, is_done}
use Rattle.miss_registers.specs.Registers.{awaited, finished, finished_field, finished_fields, made_obsolete, without_code, fresh, tags_of}
use Rattle.miss_registers.specs.Registers.{tags_of_field, waiting_tags, tag_waits, has_tag, noted, marked}
use Rattle.std.specs.List.{list_any, flat_map, sum_by, count_by}
use Rattle.std.proofs.lemmas.List.Sums.{sum_by-cons, sum_by-append, sum_by-set, sum_by-le}
use Rattle.std.proofs.lemmas.List.Folds.{list_any-append, flat_map-map}
use Rattle.miss_registers.specs.declared.Owed.{Owed}
use Rattle.std.proofs.lemmas.List.Concat.{length-flat_map}
use Rattle.std.proofs.lemmas.List.Elements.{All-from_get_or}
use Rattle.flat_model.specs.declared.limits.TheConstants.{MAX_BLOCK_WORDS, MAX_REGS}
use Rattle.flat_model.specs.declared.Lanes.{Lanes}
use Rattle.miss_registers.specs.declared.TheConstants.{MAX_WAITING}
use Rattle.miss_registers.specs.Whole.{IsWholeRegister, IsWhole}

-- ---- What holds of each element of a list.

pub set-each : {X : Type 0} (P : X → Type 0) (xs : List X) (i : ℕ) (y d : X) → i < length xs → ((j : ℕ) → P (get_or xs j d)) → P y
    → (j : ℕ) → P (get_or (set xs i y) j d)
set-each P xs i y d p h q j = elim (cases_eq j i) [
  | inl e ↦ rw (e, get_or-set_same xs i y d p) q
  | inr n ↦ rw (get_or-set_other xs i j y d n) (h j)
]

pub replicate-each : {X : Type 0} (n i : ℕ) (x : X) → get_or (replicate n x) i x ≡ x
replicate-each n i x = elim (cases_lt i n) [
  | inl p ↦ get_or-replicate n i x x p
  | inr p ↦ get_or_past _ i x (rw (length-replicate n x) p)
]

-- an element that was read, of a list that has another name
pub element_is : {X : Type 0} (xs ys : List X) (i : ℕ) (x d : X) → xs ≡ ys → i < length ys → x ≡ get_or xs i x → x ≡ get_or ys i d
element_is xs ys i x d v h e = (rw v at e) ∙ get_or_default ys i x d h

-- and what a list of another name is when that element changes
pub set_is : {X : Type 0} (f : X → X) (xs ys : List X) (i : ℕ) (x y d : X) → xs ≡ ys → i < length ys → x ≡ get_or xs i x → y ≡ f x
    → set xs i y ≡ set ys i (f (get_or ys i d))
set_is f xs ys i x y d v h e change = rw (change, element_is xs ys i x d v h e, v) refl

-- ---- Words that a register has.

pub in_stack_there : (r : Register) (i : ℕ) → (field_of r i).in_stack ≡ true → i < length r.fields
in_stack_there r i h = elim (cases_lt i _) [ inl p ↦ p | inr p ↦ absurd (false≢true (cc (get_or_past r.fields i clear_field p, h))) ]

-- an expected word
pub record Expected (r : Register) (i : ℕ) : Type 0 where
  pub valid : r.valid ≡ true
  pub there : i < length r.fields
  pub unprocessed : (field_of r i).processed ≡ false
  pub not_in_stack : (field_of r i).in_stack ≡ false

pub expects-parts : (r : Register) (i : ℕ) → expects r i ≡ true → Expected r i
expects-parts r i h =
    let a = and_parts _ _ h in
    let b = and_parts _ _ a.1 in
    let c = and_parts _ _ b.1 in
    record { valid = a.0; there = ltb-true _ _ b.0; unprocessed = not-true _ c.0; not_in_stack = not-true _ c.1 }

-- ---- whether one passes

pub list_any-flat_map : {X Y : Type 0} (p : Y → Bool) (f : X → List Y) (xs : List X)
    → list_any (λ x. list_any p (f x)) xs ≡ list_any p (flat_map f xs)
list_any-flat_map p f [] = refl
list_any-flat_map p f (x ∷ xs) = cc (list_any-flat_map p f xs, list_any-append p (f x) _)

pub list_any-map : {X Y : Type 0} (p : Y → Bool) (f : X → Y) (xs : List X) → list_any p (map f xs) ≡ list_any (λ x. p (f x)) xs
list_any-map p f [] = refl
list_any-map p f (x ∷ xs) = ap (λ b. p (f x) || b) (list_any-map p f xs)

-- ---- how many pass

pub count_by-append : {X : Type 0} (p : X → Bool) (xs ys : List X) → count_by p (xs ++ ys) ≡ count_by p xs + count_by p ys
count_by-append p xs ys = sum_by-append (λ x. cond (p x) 1 0) xs ys

count_by-flat_map : {X Y : Type 0} (p : Y → Bool) (f : X → List Y) (xs : List X)
    → count_by p (flat_map f xs) ≡ sum_by (λ x. count_by p (f x)) xs
count_by-flat_map p f [] = refl
count_by-flat_map p f (x ∷ xs) =
    let a = count_by-append p (f x) (flat_map f xs) in
    let b = sum_by-cons (λ y. count_by p (f y)) x xs in
    let r = count_by-flat_map p f xs in
    omega arith

pub count_by-map : {X Y : Type 0} (p : Y → Bool) (f : X → Y) (xs : List X) → count_by p (map f xs) ≡ count_by (λ x. p (f x)) xs
count_by-map p f [] = refl
count_by-map p f (x ∷ xs) =
    let a = sum_by-cons (λ y. cond (p y) 1 0) (f x) (map f xs) in
    let b = sum_by-cons (λ y. cond (p (f y)) 1 0) x xs in
    let r = count_by-map p f xs in
    omega arith

pub none_counted : {X : Type 0} (p : X → Bool) (xs : List X) → list_any p xs ≡ false → count_by p xs ≡ 0
none_counted p [] h = refl
none_counted {X} p (x ∷ xs) h =
    let q = or_parts (p x) _ h in
    let s = sum_by-cons (λ y. cond (p y) 1 0) x xs in
    let c : cond {A = ℕ} (p x) 1 0 ≡ 0 = rw q.0 refl in
    let r = none_counted p xs q.1 in
    omega arith

all_counted : (xs : List ℕ) → count_by (λ t. true) xs ≡ length xs
all_counted [] = refl
all_counted (x ∷ xs) =
    let s = sum_by-cons (λ t. cond true 1 0) x xs in
    let ih = all_counted xs in
    omega arith

-- ---- what changes

-- a list lost these tags and got those, in any order
abbrev pub Changes : (old new gone come : List ℕ) → Type 0
Changes old new gone come = (p : ℕ → Bool) → count_by p new + count_by p gone ≡ count_by p old + count_by p come

pub Changes-length : (old new gone come : List ℕ) → Changes old new gone come → length new + length gone ≡ length old + length come
Changes-length old new gone come c = grind (arith, all_counted)

-- one of several lists changes
pub Changes-set : {X : Type 0} (f : X → List ℕ) (xs : List X) (i : ℕ) (y d : X) (gone come : List ℕ) → i < length xs
    → Changes (f (get_or xs i d)) (f y) gone come → Changes (flat_map f xs) (flat_map f (set xs i y)) gone come
Changes-set {X} f xs i y d gone come h c p = grind (arith, sum_by-set, count_by-flat_map)

-- ---- What each step makes of the tags that wait.

-- ---- of a register

no_tags : {X : Type 0} (f : X → List ℕ) (x : X) (n : ℕ) → f x ≡ [] → flat_map f (replicate n x) ≡ []
no_tags f x zero e = refl
no_tags f x (suc n) e = cc (e, no_tags f x n e)

-- a register whose field is another, for which the same loads wait
pub same_loads-changes : (r : Register) (i : ℕ) (f : Field) → i < length r.fields → f.waiting ≡ (field_of r i).waiting
    → Changes (tags_of r) (tags_of (with_field r i f)) [] []
same_loads-changes r i f h e = Changes-set tags_of_field r.fields i f clear_field [] [] h
    (λ p. ap (λ ws. count_by p (map (λ x. x.tag) ws) + count_by p []) e)

-- a register that was free is another, for which no load waits
pub none-changes : (old new : Register) → old ≡ free_register → tags_of new ≡ [] → Changes (tags_of old) (tags_of new) [] []
none-changes old new free none p = grind arith

pub fresh-tags : (words block frame : ℕ) → tags_of (fresh words block frame) ≡ []
unfolding fresh
fresh-tags words block frame = no_tags tags_of_field clear_field words refl

pub fresh-changes : (r : Register) (words block frame : ℕ) → r ≡ free_register
    → Changes (tags_of r) (tags_of (fresh words block frame)) [] []
fresh-changes r words block frame free = none-changes r (fresh words block frame) free (fresh-tags words block frame)

pub obsolete-changes : (r : Register) → Changes (tags_of r) (tags_of (made_obsolete r)) [] []
unfolding made_obsolete
obsolete-changes r p = grind (arith, flat_map-map tags_of_field without_code r.fields)

pub awaited-changes : (r : Register) (i : ℕ) (owed : Owed) → i < length r.fields
    → Changes (tags_of r) (tags_of (awaited r i owed)) [] (owed.tag ∷ [])
unfolding awaited
awaited-changes r i owed h =
    let waiting = (field_of r i).waiting in
    let f = record (field_of r i) { waiting = waiting ++ owed ∷ [] } in
    Changes-set tags_of_field r.fields i f clear_field [] (owed.tag ∷ []) h (λ p. (
    let a = count_by-map p (λ w. w.tag) (waiting ++ owed ∷ []) in
    let b = count_by-append (λ w. p w.tag) waiting (owed ∷ []) in
    let c = count_by-map p (λ w. w.tag) waiting in
    let d = sum_by-cons (λ w. cond (p w.tag) 1 0) owed [] in
    let e = sum_by-cons (λ t. cond (p t) 1 0) owed.tag [] in
    omega arith))

-- no load waits where all words are processed
none_wait : (fields : List Field)
    → ((i : ℕ) → (get_or fields i clear_field).processed ≡ true → get_or fields i clear_field ≡ finished_field)
    → is_done fields ≡ true → flat_map tags_of_field fields ≡ []
none_wait [] h d = refl
none_wait (f ∷ fs) h d =
    let q = and_parts f.processed _ d in
    let r = none_wait fs (λ i. h (suc i)) q.1 in
    rw ((h 0 q.0), r) refl

-- the word's loads wait no longer
pub finished-changes : (r : Register) (i : ℕ)
    → ((k : ℕ) → (field_of r k).processed ≡ true → field_of r k ≡ finished_field) → i < length r.fields
    → Changes (tags_of r) (tags_of (finished r i)) (tags_of_field (field_of r i)) []
unfolding finished
finished-changes r i h t = go _ refl
  where
    lost : Changes (tags_of r) (flat_map tags_of_field (finished_fields r i)) (tags_of_field (field_of r i)) []
    lost = Changes-set tags_of_field r.fields i finished_field clear_field (tags_of_field (field_of r i)) [] t (λ p. omega arith)

    all : (j : ℕ) → (get_or (finished_fields r i) j clear_field).processed ≡ true
        → get_or (finished_fields r i) j clear_field ≡ finished_field
    all = set-each (λ f. f.processed ≡ true → f ≡ finished_field) r.fields i finished_field clear_field t h (λ d. refl)

    go : (b : Bool) → is_done (finished_fields r i) ≡ b
        → Changes (tags_of r) (tags_of (if b then free_register else record r { fields = finished_fields r i }))
        (tags_of_field (field_of r i)) []
    go false e p = lost p
    go true e p =
        let n = ap (count_by p) (none_wait _ all e) in
        omega (arith, n, lost p)

-- ---- of all registers, where one changes

pub file-changes : (rs : List Register) (slot : ℕ) (r : Register) (gone come : List ℕ) → slot < length rs
    → Changes (tags_of (register_at rs slot)) (tags_of r) gone come → Changes (waiting_tags rs) (waiting_tags (set rs slot r)) gone come
unfolding waiting_tags
file-changes rs slot r gone come h c = Changes-set tags_of rs slot r free_register gone come h c

pub waiting_tags-new : (regs : ℕ) → waiting_tags (replicate regs free_register) ≡ []
unfolding waiting_tags
waiting_tags-new regs = no_tags tags_of free_register regs refl

-- ---- How many loads wait.

length-flat_map-le : {X : Type 0} (f : X → List ℕ) (xs : List X) (d : X) (m : ℕ) → ((k : ℕ) → length (f (get_or xs k d)) ≤ m)
    → length (flat_map f xs) ≤ length xs * m
length-flat_map-le f xs d m h =
    let all = All-from_get_or (λ x. length (f x) ≤ m) xs d (λ k p. h k) in
    rw (length-flat_map f xs) (sum_by-le (λ x. length (f x)) m xs all)

few_tags : (words : ℕ) (r : Register) → words ≤ MAX_BLOCK_WORDS → IsWholeRegister words r
    → length (tags_of r) ≤ MAX_BLOCK_WORDS * MAX_WAITING
few_tags words r small h = elim (cases_Bool r.valid) [
  | inl v ↦ (
      let few : (k : ℕ) → length _ ≤ MAX_WAITING = λ k. rw (length-map (field_of r k).waiting (λ w. w.tag)) (h.few_loads k) in
      let n = length-flat_map-le tags_of_field r.fields clear_field MAX_WAITING few in
      let there = h.fields_there v in
      omega arith)
  | inr v ↦ (let none = ap (λ x. length (tags_of x)) (h.free v) in omega arith)
]

pub few_wait : (words regs : ℕ) (rs : List Register) → IsWhole words regs rs
    → length (waiting_tags rs) ≤ MAX_REGS * (MAX_BLOCK_WORDS * MAX_WAITING)
unfolding waiting_tags
few_wait words regs rs h =
    let each = λ (k : ℕ). few_tags words _ h.few_words (h.sound.each k) in
    let n = length-flat_map-le tags_of rs free_register _ each in
    let there = h.sound.registers_there in
    let few = h.few_registers in
    omega arith

-- ---- what each step makes of their number

-- a register is another, which lost these tags and got those
count-set : (rs : List Register) (slot : ℕ) (r : Register) (gone come : List ℕ) → slot < length rs
    → Changes (tags_of (register_at rs slot)) (tags_of r) gone come
    → length (waiting_tags (set rs slot r)) + length gone ≡ length (waiting_tags rs) + length come
count-set rs slot r gone come p changes = Changes-length _ _ gone come (file-changes rs slot r gone come p changes)

-- and it lost and got none
pub count-same : (rs : List Register) (slot : ℕ) (r : Register) → slot < length rs
    → Changes (tags_of (register_at rs slot)) (tags_of r) [] []
    → length (waiting_tags rs) ≡ length (waiting_tags (set rs slot r))
count-same rs slot r p changes = omega (arith, count-set rs slot r [] [] p changes)

pub noted-count : (rs : List Register) (slot i : ℕ) (lanes : Lanes) → slot < length rs → i < length (register_at rs slot).fields
    → length (waiting_tags rs) ≡ length (waiting_tags (set rs slot (noted (register_at rs slot) i lanes)))
unfolding noted
noted-count rs slot i lanes p there = grind (arith, count-same, same_loads-changes)

pub marked-count : (rs : List Register) (slot i : ℕ) → slot < length rs → i < length (register_at rs slot).fields
    → length (waiting_tags rs) ≡ length (waiting_tags (set rs slot (marked (register_at rs slot) i)))
unfolding marked
marked-count rs slot i p there = grind (arith, count-same, same_loads-changes)

pub awaited-count : (rs : List Register) (slot i : ℕ) (owed : Owed) → slot < length rs → i < length (register_at rs slot).fields
    → length (waiting_tags rs) + 1 ≡ length (waiting_tags (set rs slot (awaited (register_at rs slot) i owed)))
awaited-count rs slot i owed p there =
    let r = register_at rs slot in
    omega (arith, count-set rs slot (awaited r i owed) [] (owed.tag ∷ []) p (awaited-changes r i owed there))

-- the loads of the word wait no longer
pub finished-count : (rs : List Register) (slot i : ℕ) → slot < length rs
    → ((k : ℕ) → (field_of (register_at rs slot) k).processed ≡ true → field_of (register_at rs slot) k ≡ finished_field)
    → (field_of (register_at rs slot) i).in_stack ≡ true
    → length (waiting_tags (set rs slot (finished (register_at rs slot) i))) + length (field_of (register_at rs slot) i).waiting
    ≡ length (waiting_tags rs)
finished-count rs slot i p done s =
    let r = register_at rs slot in
    let f = field_of r i in
    let changes = finished-changes r i done (in_stack_there r i s) in
    let n = count-set rs slot (finished r i) (tags_of_field f) [] p changes in
    omega (arith, n, length-map f.waiting (λ w. w.tag))

-- ---- none

pub none_has_tag : (rs : List Register) (tag : ℕ) → length (waiting_tags rs) ≡ 0 → tag_waits rs tag ≡ false
none_has_tag rs tag e = ap (λ tags. has_tag tags tag) (nil_from_length _ e)
