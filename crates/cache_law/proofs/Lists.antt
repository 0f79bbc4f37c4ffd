-- Lists and their parts, a block's frame and live register, and what stays of them when an element is another.
use Rattle.std.proofs.Common.{◌≡◌, ℕ, suc, zero, ◌<◌, Bool, true, false, List, [], ◌∷◌, map, length, get_or, Option, Some, None, cond, refl}
use Rattle.std.proofs.Common.{ap, ◌∙◌, arith, option_map, ◌+◌, ◌≤◌, ◌++◌, set, take, drop, find, remove, sym, slice_get, flat_map}
use Rattle.std.proofs.Common.{append_assoc, append-nil, add-zero, zero-add, ap₂, subst, get_or-set_same, get_or-set_other}
use Rattle.std.proofs.Common.{⊎_elim, ◌&&◌, ◌==◌, eqb-true, eq-eqb, length-set, not, nat_lt}
use Rattle.std.specs.List.{list_all}
use Rattle.flat_model.specs.Places.{place_of, is_number}
use Rattle.flat_model.proofs.Numbers.{number_from, number_is}
use Rattle.flat_model.proofs.Places.{place_of-passes}
use Rattle.std.proofs.lemmas.Bool.{and_parts, cases_lt, cases_eq, false_from_ne_true}
use Rattle.std.specs.Option.{option_or}
use Rattle.std.proofs.lemmas.List.Folds.{find-append}
use Rattle.std.proofs.lemmas.List.{map-append, get_or_past, set_past}
use Rattle.cache_law.specs.State.{gathered, Register, Field, Target, targets_of_field, targets_of, targets, free_register, clear_field}
use Rattle.cache_law.specs.State.{Cache, empty_frame, frame_at, frame_of, register_at, is_live, live_for, Frame, field_at}
use Rattle.cache_law.specs.Counts.{bit, tally}
use Rattle.miss_registers.specs.declared.Owed.{Owed}
use Rattle.input_stack.specs.declared.Entry.{Entry}
use Rattle.input_stack.specs.Stack.{stack_word}
use Rattle.cache_law.specs.declared.Sizes.{Sizes}
use Rattle.cache_directory.specs.Frames as dir
use Rattle.flat_model.proofs.Places as places
use Rattle.miss_registers.specs.Registers as regs

-- ---- Lists of parts, as the unit shows them.

pub list_all-at : {X : Type 0} (p : X → Bool) (xs : List X) (i : ℕ) (d : X) → list_all p xs ≡ true → i < length xs
    → p (get_or xs i d) ≡ true
list_all-at p [] i d e h = absurd (omega arith)
list_all-at p (x ∷ xs) zero d e h = grind arith
list_all-at p (x ∷ xs) (suc i) d e h = list_all-at p xs i d (and_parts (p x) _ e).1 (omega arith)

-- ---- the first place

pub place_of-none : {X : Type 0} (p : X → Bool) (d : X) (xs : List X) → p d ≡ false → place_of p xs ≡ None → (k : ℕ)
    → p (get_or xs k d) ≡ false
place_of-none p d [] hd h k = hd
place_of-none p d (x ∷ xs) hd h zero = grind arith
place_of-none p d (x ∷ xs) hd h (suc k) = grind (arith, place_of-none p d xs hd)

pub place_of-only : {X : Type 0} (p : X → Bool) (d : X) (xs : List X) (k : ℕ) → p d ≡ false → p (get_or xs k d) ≡ true
    → ((j : ℕ) → p (get_or xs j d) ≡ true → j ≡ k) → place_of p xs ≡ Some k
place_of-only p d xs k hd h only = go _ refl
  where
    go : (o : Option ℕ) → place_of p xs ≡ o → place_of p xs ≡ Some k
    go None e = let f = place_of-none p d xs hd e k in cc
    go (Some j) e = let s = place_of-passes p xs j d e in e ∙ ap Some (only j s.1)

-- ---- Lists: counts of what passes a test, one element more, parts of a gathered list.

-- ---- counts

pub tally-append : {X : Type 0} (p : X → Bool) (xs ys : List X) → tally p (xs ++ ys) ≡ tally p xs + tally p ys
tally-append p [] ys = sym (zero-add _)
tally-append p (x ∷ xs) ys = let ih = tally-append p xs ys in omega arith

pub find_none : {X : Type 0} (p : X → Bool) (xs : List X) → tally p xs ≡ 0 → find p xs ≡ None
find_none p [] h = refl
find_none p (x ∷ xs) h = grind (arith, find_none p xs)

pub some_from_find : {X : Type 0} (p : X → Bool) (xs : List X) (x : X) → find p xs ≡ Some x → 1 ≤ tally p xs
some_from_find p [] x h = cc
some_from_find p (y ∷ xs) x h = grind (arith, some_from_find p xs x)

-- where at most one passes, two parts may change places
pub option_or_comm : {X : Type 0} (p : X → Bool) (xs ys : List X) → tally p xs + tally p ys ≤ 1
    → option_or (find p xs) (find p ys) ≡ option_or (find p ys) (find p xs)
option_or_comm p xs ys h = grind (arith, some_from_find)

-- ---- one element more

pub record Adds {X : Type 0} (x : X) (xs ys : List X) : Type 0 where
  pub front : List X
  pub back : List X
  pub without : xs ≡ front ++ back
  pub with : ys ≡ front ++ x ∷ back

pub Adds-tally : {X : Type 0} (p : X → Bool) (x : X) (xs ys : List X) → Adds x xs ys → tally p ys ≡ bit (p x) + tally p xs
Adds-tally p x xs ys a = grind (arith, tally-append, a.front, a.back)

pub Adds-find_other : {X : Type 0} (p : X → Bool) (x : X) (xs ys : List X) → Adds x xs ys → p x ≡ false → find p ys ≡ find p xs
Adds-find_other p x xs ys a h = grind (arith, find-append, a.front)

pub Adds-find_same : {X : Type 0} (p : X → Bool) (x : X) (xs ys : List X) → Adds x xs ys → p x ≡ true → tally p xs ≡ 0 → find p ys ≡ Some x
Adds-find_same p x xs ys a h none = grind (arith, tally-append, a.front, a.back, find_none, find-append)

pub Adds-same : {X : Type 0} (x : X) (xs ys xs' ys' : List X) → xs' ≡ xs → ys' ≡ ys → Adds x xs ys → Adds x xs' ys'
Adds-same x xs ys xs' ys' p q a = grind arith

pub Adds-push : {X : Type 0} (x : X) (xs : List X) → Adds x xs (xs ++ x ∷ [])
Adds-push x xs = grind (arith, append-nil)

pub Adds-left : {X : Type 0} (zs : List X) (x : X) (xs ys : List X) → Adds x xs ys → Adds x (zs ++ xs) (zs ++ ys)
Adds-left zs x xs ys a = record {
  front = zs ++ a.front;
  back = a.back;
  without = cc (a.without, append_assoc zs a.front a.back);
  with = cc (a.with, append_assoc zs a.front _);
}

pub Adds-right : {X : Type 0} (zs : List X) (x : X) (xs ys : List X) → Adds x xs ys → Adds x (xs ++ zs) (ys ++ zs)
Adds-right zs x xs ys a = record {
  front = a.front;
  back = a.back ++ zs;
  without = cc (a.without, append_assoc a.front a.back zs);
  with = cc (a.with, append_assoc a.front (x ∷ a.back) zs);
}

pub Adds-map : {X Y : Type 0} (f : X → Y) (x : X) (xs ys : List X) → Adds x xs ys → Adds (f x) (map f xs) (map f ys)
Adds-map f x xs ys a = grind (arith, map-append, a.front)

-- a removal, read backwards
pub Adds-remove : {X : Type 0} (x : X) (xs : List X) (k : ℕ) → slice_get xs k ≡ Some x → Adds x (remove xs k) xs
Adds-remove x xs k h = record { front = take k xs; back = drop (suc k) xs; without = refl; with = split xs k h }
  where
    split : (l : List _) (n : ℕ) → slice_get l n ≡ Some x → l ≡ take n l ++ x ∷ drop (suc n) l
    split [] n e = cc
    split (y ∷ l) zero e = grind arith
    split (y ∷ l) (suc n) e = ap (λ v. y ∷ v) (split l n e)

-- ---- parts of a gathered list

-- the part at place k, and what stands there once that element is another
pub record Part {X Y : Type 0} (whole : List X → List Y) (xs : List X) (k : ℕ) (part : X → List Y) (x : X) : Type 0 where
  pub front : List Y
  pub back : List Y
  pub now : whole xs ≡ front ++ (part x ++ back)
  pub then : (y : X) → whole (set xs k y) ≡ front ++ (part y ++ back)

pub gathered_part : {X Y : Type 0} (f : ℕ → X → List Y) (d : X) (n : ℕ) (xs : List X) (k : ℕ) → k < length xs
    → Part (gathered f n) xs k (f (n + k)) (get_or xs k d)
gathered_part f d n [] k h = absurd (omega arith)
gathered_part f d n (x ∷ xs) zero h =
    record { front = []; back = gathered f (suc n) xs; now = rw (add-zero n); then = λ y. rw (add-zero n) }
gathered_part f d n (x ∷ xs) (suc k) h =
    let ih = gathered_part f d (suc n) xs k (omega arith) in
    let e : suc n + k ≡ n + suc k = omega arith in
    record {
      front = f n x ++ ih.front;
      back = ih.back;
      now = rw (ih.now, append_assoc, e);
      then = λ y. rw (ih.then y, append_assoc, e);
    }

pub flat_map_part : {X Y : Type 0} (f : X → List Y) (d : X) (xs : List X) (k : ℕ) → k < length xs → Part (flat_map f) xs k f (get_or xs k d)
flat_map_part f d [] k h = absurd (omega arith)
flat_map_part f d (x ∷ xs) zero h = record { front = []; back = flat_map f xs; now = refl; then = λ y. refl }
flat_map_part f d (x ∷ xs) (suc k) h =
    let ih = flat_map_part f d xs k (omega arith) in
    record {
      front = f x ++ ih.front;
      back = ih.back;
      now = cc (ih.now, append_assoc (f x) ih.front _);
      then = λ y. (cc (ih.then y, append_assoc (f x) ih.front _));
    }

-- ---- a list with one element changed

-- it is read at any place as before, where the new element reads so
pub read_set : {X Y : Type 0} (f : X → Y) (d : X) (xs : List X) (k : ℕ) (y : X) → f y ≡ f (get_or xs k d) → (j : ℕ)
    → f (get_or (set xs k y) j d) ≡ f (get_or xs j d)
read_set f d [] k y e j = refl
read_set f d (x ∷ xs) zero y e zero = e
read_set f d (x ∷ xs) zero y e (suc j) = refl
read_set f d (x ∷ xs) (suc k) y e zero = refl
read_set f d (x ∷ xs) (suc k) y e (suc j) = read_set f d xs k y e j

-- ---- counts of what is mapped

pub tally-map : {X Y : Type 0} (f : X → Y) (p : Y → Bool) (xs : List X) → tally p (map f xs) ≡ tally (λ x. p (f x)) xs
tally-map f p [] = refl
tally-map f p (x ∷ xs) = cc (tally-map f p xs)

pub map-same : {X Y : Type 0} (f g : X → Y) (xs : List X) → ((x : X) → f x ≡ g x) → map f xs ≡ map g xs
map-same f g [] h = refl
map-same f g (x ∷ xs) h = grind arith

pub find-map : {X Y : Type 0} (f : X → Y) (p : Y → Bool) (xs : List X) → find p (map f xs) ≡ option_map f (find (λ x. p (f x)) xs)
find-map f p [] = refl
find-map f p (x ∷ xs) = grind (arith, find-map f p xs)

-- the only element that passes is found
pub find-only : {X : Type 0} (p : X → Bool) (xs : List X) (k : ℕ) (x : X) → slice_get xs k ≡ Some x → p x ≡ true
    → ((j : ℕ) (y : X) → slice_get xs j ≡ Some y → p y ≡ true → j ≡ k) → find p xs ≡ Some x
find-only p [] k x at passes only = cc
find-only p (y ∷ xs) zero x at passes only = grind arith
find-only p (y ∷ xs) (suc k) x at passes only =
    let rest = find-only p xs k x at passes (λ j v e q. let n : suc j ≡ suc k = only _ v e q in omega arith) in
    grind (arith, rest, only 0 y refl)

-- ---- Lists in lists, and what is gathered from them.

-- the first place goes by the tests at each place
pub place_of-like : {X : Type 0} (p : X → Bool) (d : X) (xs ys : List X) → length xs ≡ length ys
    → ((k : ℕ) → p (get_or xs k d) ≡ p (get_or ys k d)) → place_of p xs ≡ place_of p ys
place_of-like p d [] [] e h = refl
place_of-like p d (x ∷ xs) (y ∷ ys) e h =
    cc (h 0, place_of-like p d xs ys (omega arith) (λ k. h (suc k)))
place_of-like p d xs ys e h = grind arith

-- an element that isn't the default is in the list
pub in_range : {X : Type 0} (p : X → Bool) (d : X) (xs : List X) (k : ℕ) → p d ≡ false → p (get_or xs k d) ≡ true → k < length xs
in_range p d xs k hd h = grind (arith, get_or_past, cases_lt)

-- ---- an element of a list in a list

module _ {X Y : Type 0} (part : X → List Y) (with_part : X → List Y → X) (law : (x : X) (ys : List Y) → part (with_part x ys) ≡ ys)
    (d : X) (e : Y) where
  abbrev pub nested_set : List X → ℕ → ℕ → Y → List X
  nested_set xs s i y = set xs s (with_part (get_or xs s d) (set (part (get_or xs s d)) i y))

  pub nested_same : (xs : List X) (s i : ℕ) (y : Y) → s < length xs → i < length (part (get_or xs s d))
      → get_or (part (get_or (nested_set xs s i y) s d)) i e ≡ y
  nested_same xs s i y hs hi = grind (arith, get_or-set_same)

  pub nested_other : (xs : List X) (s i t j : ℕ) (y : Y) → (t ≡ s → j ≡ i → ⊥)
      → get_or (part (get_or (nested_set xs s i y) t d)) j e ≡ get_or (part (get_or xs t d)) j e
  nested_other xs s i t j y differ = grind (arith, cases_eq, get_or-set_other, set_past, get_or-set_same, cases_lt)

-- ---- swapped parts

pub find_swapped : {X : Type 0} (p : X → Bool) (r a b c : List X) → tally p (r ++ (b ++ (a ++ c))) ≤ 1
    → find p ((r ++ a) ++ (b ++ c)) ≡ find p (r ++ (b ++ (a ++ c)))
find_swapped {X} p r a b c once = grind (arith, tally-append, find-append, option_or_comm)

-- ---- targets

gathered_map : {X Y Z : Type 0} (h : ℕ → X → List Y) (f g : Y → Z) (d : X) (n : ℕ) (xs : List X)
    → ((k : ℕ) → k < length xs → map f (h (n + k) (get_or xs k d)) ≡ map g (h (n + k) (get_or xs k d)))
    → map f (gathered h n xs) ≡ map g (gathered h n xs)
gathered_map h f g d n [] same = refl
gathered_map h f g d n (x ∷ xs) same =
    let first = rw (add-zero n) at (same 0 (omega arith)) in
    let rest = gathered_map h f g d _ xs (λ k l. let e : n + suc k ≡ suc n + k = omega arith in
    subst (λ j. map f (h j (get_or xs k d)) ≡ map g (h j (get_or xs k d))) e (same _ (omega arith))) in
    map-append f _ _ ∙ ap₂ ◌++◌ first rest ∙ sym (map-append g _ _)

-- two functions that agree at each load that waits agree on all
pub targets_map : {Z : Type 0} (f g : Target → Z) (registers : List Register)
    → ((t j : ℕ) (w : Owed) → (get_or registers t free_register).valid ≡ true
    → (get_or (get_or registers t free_register).fields j clear_field).processed ≡ false
    → f (record { slot = t; i = j; load = w }) ≡ g (record { slot = t; i = j; load = w }))
    → map f (targets registers) ≡ map g (targets registers)
unfolding targets
targets_map f g registers same = gathered_map targets_of f g free_register 0 registers (λ t l. let e = zero-add t in rw e (one t))
  where
    loads : (t j : ℕ) (ws : List Owed)
        → ((w : Owed) → f (record { slot = t; i = j; load = w }) ≡ g (record { slot = t; i = j; load = w }))
        → map f (map (λ w. record { slot = t; i = j; load = w }) ws) ≡ map g (map (λ w. record { slot = t; i = j; load = w }) ws)
    loads t j [] h = refl
    loads t j (w ∷ ws) h = cc (h w, loads t j ws h)

    field : (t j : ℕ) → (get_or registers t free_register).valid ≡ true → (x : Field) (b : Bool) → x.processed ≡ b
        → x.processed ≡ (get_or (get_or registers t free_register).fields j clear_field).processed
        → map f (cond b [] (map (λ w. record { slot = t; i = j; load = w }) x.waiting))
        ≡ map g (cond b [] (map (λ w. record { slot = t; i = j; load = w }) x.waiting))
    field t j v x true e q = refl
    field t j v x false e q = loads t j x.waiting (λ w. same t j w v (sym q ∙ e))

    go : (t : ℕ) (v : Bool) → (get_or registers t free_register).valid ≡ v
        → map f (cond v (gathered (targets_of_field t) 0 (get_or registers t free_register).fields) [])
        ≡ map g (cond v (gathered (targets_of_field t) 0 (get_or registers t free_register).fields) [])
    go t true e = gathered_map _ f g clear_field 0 (get_or registers t free_register).fields (λ j l. grind (arith, field, zero-add j))
    go t false e = refl

    one : (t : ℕ) → map f (targets_of t (get_or registers t free_register)) ≡ map g (targets_of t (get_or registers t free_register))
    one t = grind (arith, go)

-- a load that waits waits for a valid register
pub target_valid : (registers : List Register) (p : Target → Bool) (t : Target) → find p (targets registers) ≡ Some t
    → (get_or registers t.slot free_register).valid ≡ true
target_valid registers p t found = passes _ (targets_map valid (λ x. true) registers (λ t j w v q. v)) found
  where
    valid : Target → Bool
    valid x = (get_or registers x.slot free_register).valid

    passes : (xs : List Target) → map valid xs ≡ map (λ x. true) xs → find p xs ≡ Some t → valid t ≡ true
    passes [] e q = cc
    passes (x ∷ xs) e q =
        let here : valid x ≡ true = cc in
        let rest : map valid xs ≡ map (λ y. true) xs = cc in
        grind (arith, passes xs rest)

-- the loads that wait for one word, and what stands there once its field is another
pub record WordPart (registers : List Register) (s i : ℕ) (f : Field) : Type 0 where
  pub front : List Target
  pub back : List Target
  pub now : targets registers ≡ front ++ (targets_of_field s i f ++ back)
  pub then : (r : Register) (g : Field) → r.valid ≡ true → r.fields ≡ set (get_or registers s free_register).fields i g
      → targets (set registers s r) ≡ front ++ (targets_of_field s i g ++ back)

pub word_part : (registers : List Register) (s i : ℕ) → (get_or registers s free_register).valid ≡ true
    → i < length (get_or registers s free_register).fields
    → WordPart registers s i (get_or (get_or registers s free_register).fields i clear_field)
unfolding targets
word_part registers s i v l =
    let r = get_or registers s free_register in
    let there = in_range (λ x. x.valid) free_register registers s refl v in
    let outer = gathered_part targets_of free_register 0 registers s there in
    let inner = gathered_part _ clear_field 0 r.fields i l in
    let es = zero-add s in
    let ei = zero-add i in
    record {
      front = outer.front ++ inner.front;
      back = inner.back ++ outer.back;
      now = outer.now ∙ ap (λ n. outer.front ++ (targets_of n r ++ outer.back)) es
          ∙ ap (λ b. outer.front ++ (cond b (gathered (targets_of_field s) 0 r.fields) [] ++ outer.back)) v
          ∙ ap (λ l. outer.front ++ (l ++ outer.back))
          (inner.now ∙ ap (λ n. inner.front ++ (targets_of_field s n (get_or r.fields i clear_field) ++ inner.back)) ei)
          ∙ regroup outer.front inner.front _ inner.back outer.back;
      then = λ r' g v' e. outer.then r' ∙ ap (λ n. outer.front ++ (targets_of n r' ++ outer.back)) es
          ∙ ap (λ b. outer.front ++ (cond b (gathered (targets_of_field s) 0 r'.fields) [] ++ outer.back)) v'
          ∙ ap (λ fs. outer.front ++ (gathered (targets_of_field s) 0 fs ++ outer.back)) e
          ∙ ap (λ l. outer.front ++ (l ++ outer.back)) (inner.then g ∙ ap (λ n. inner.front ++ (targets_of_field s n g ++ inner.back)) ei)
          ∙ regroup outer.front inner.front _ inner.back outer.back;
    }
  where
    regroup : (a b c d e : List Target) → a ++ ((b ++ (c ++ d)) ++ e) ≡ (a ++ b) ++ (c ++ (d ++ e))
    regroup a b c d e = simp append_assoc

-- ---- Registers of which one field is another.

abbrev pub with_fields : Register → List Field → Register
with_fields r fields = record r { fields = fields }

-- registers with another field for word i of the one in slot s
abbrev pub with_field_in : List Register → ℕ → ℕ → Field → List Register
with_field_in registers s i f = nested_set (λ r. r.fields) with_fields (λ r fs. refl) free_register clear_field registers s i f

module _ (registers : List Register) (s i : ℕ) (f : Field) where
  pub same_at : {Y : Type 0} (p : Register → Y)
      → p (with_fields (get_or registers s free_register) (set (get_or registers s free_register).fields i f))
      ≡ p (get_or registers s free_register) → (t : ℕ)
      → p (get_or (with_field_in registers s i f) t free_register) ≡ p (get_or registers t free_register)
  same_at p q t = read_set p free_register registers s
      _ q t

  pub field_elsewhere : (t j : ℕ) → (t ≡ s → j ≡ i → ⊥)
      → get_or (get_or (with_field_in registers s i f) t free_register).fields j clear_field
      ≡ get_or (get_or registers t free_register).fields j clear_field
  field_elsewhere t j n = nested_other (λ r. r.fields) with_fields
      (λ r fs. refl) free_register clear_field registers s i t j f n

  pub field_here : s < length registers → i < length (get_or registers s free_register).fields
      → get_or (get_or (with_field_in registers s i f) s free_register).fields i clear_field ≡ f
  field_here hs hi = nested_same (λ r. r.fields) with_fields (λ r fs. refl) free_register clear_field registers s i f hs hi

  -- a part of the fields that the new field shares with the old one
  pub field_part : {Y : Type 0} (p : Field → Y) → s < length registers → i < length (get_or registers s free_register).fields
      → p f ≡ p (get_or (get_or registers s free_register).fields i clear_field) → (t j : ℕ)
      → p (get_or (get_or (with_field_in registers s i f) t free_register).fields j clear_field)
      ≡ p (get_or (get_or registers t free_register).fields j clear_field)
  field_part p hs hi e t j =
      read_set (λ r. p (get_or r.fields j clear_field)) free_register registers s _ (read_set p clear_field _ i f e j) t

-- ---- Which frame holds a block, and which register is live for it.

-- a frame holds the block for which it is found
pub frame_of-some : (fs : List Frame) (b f : ℕ) → dir.frame_of fs b ≡ Some f → (f < length fs) × ((dir.frame_at fs f).block ≡ Some b)
unfolding dir.frame_of
frame_of-some fs b f e = grind (arith, place_of-passes (λ x. is_number x.block b) fs f empty_frame e, number_from)

pub frame_of-is : (fs : List Frame) (b k : ℕ) → ((f g n : ℕ) → (dir.frame_at fs f).block ≡ Some n → (dir.frame_at fs g).block ≡ Some n
    → f ≡ g) → (dir.frame_at fs k).block ≡ Some b → dir.frame_of fs b ≡ Some k
unfolding dir.frame_of
frame_of-is fs b k apart h = grind (arith, place_of-only, number_is, number_from)

pub frame_of-none : (c : Cache) (b : ℕ) → ((k : ℕ) → (frame_at c k).block ≡ Some b → ⊥) → frame_of c b ≡ None
unfolding dir.frame_of
frame_of-none c b h = places.place_of-none (λ f. is_number f.block b) _ empty_frame
    (λ k l. false_from_ne_true _ (λ e. h k (number_from _ b e)))

pub none_in_frames : (c : Cache) (b : ℕ) → frame_of c b ≡ None → (k : ℕ) → (frame_at c k).block ≡ Some b → ⊥
unfolding dir.frame_of
none_in_frames c b h k e = grind (arith, place_of-none, number_is)

pub live_for-some : (c : Cache) (b s : ℕ) → live_for c b ≡ Some s → (is_live (register_at c s) ≡ true) × ((register_at c s).block ≡ b)
unfolding regs.live_for
live_for-some c b s h =
    grind (arith, place_of-passes (λ r. is_live r && r.block == b) c.registers s free_register h, and_parts, eqb-true)

pub live_for-is : (c : Cache) (b s : ℕ) →
    ((s t : ℕ) → is_live (register_at c s) ≡ true → is_live (register_at c t) ≡ true → (register_at c s).block ≡ (register_at c t).block
    → s ≡ t) → is_live (register_at c s) ≡ true → (register_at c s).block ≡ b → live_for c b ≡ Some s
unfolding regs.live_for
live_for-is c b s apart l e = grind (arith, place_of-only, eq-eqb, eqb-true)

pub live_for-none : (rs : List Register) (b : ℕ)
    → ((s : ℕ) → is_live (regs.register_at rs s) ≡ true → (regs.register_at rs s).block ≡ b → ⊥) → regs.live_for rs b ≡ None
unfolding regs.live_for
live_for-none rs b h = places.place_of-none (λ r. is_live r && r.block == b) rs free_register (λ s l. grind (arith, h s, eqb-true))

pub none_live : (rs : List Register) (b : ℕ) → regs.live_for rs b ≡ None → (s : ℕ) → is_live (regs.register_at rs s) ≡ true
    → (regs.register_at rs s).block ≡ b → ⊥
unfolding regs.live_for
none_live rs b h s l e = grind (arith, place_of-none, eq-eqb)

-- ---- The first place at which a test passes, once one element is another; and what a block's frame and live register are then.

-- the new element passes as the old one did
pub place_of-set : {X : Type 0} (p : X → Bool) (d : X) (xs : List X) (k : ℕ) (new : X) → p new ≡ p (get_or xs k d)
    → place_of p (set xs k new) ≡ place_of p xs
place_of-set p d xs k new e = place_of-like p d _ xs (length-set xs k new) (read_set p d xs k new e)

-- no element but the new one passes
pub place_of-set_here : {X : Type 0} (p : X → Bool) (d : X) (xs : List X) (k : ℕ) (new : X) → p d ≡ false → k < length xs → p new ≡ true
    → ((j : ℕ) → p (get_or xs j d) ≡ true → j ≡ k) → place_of p (set xs k new) ≡ Some k
place_of-set_here p d xs k new none there new_passes only =
    place_of-only p d _ k none (ap p (get_or-set_same xs k new d there) ∙ new_passes)
    (λ j e. ⊎_elim (λ q. q) (λ n. only j (cc (get_or-set_other xs k j new d n, e))) (cases_eq j k))

-- no element but the old one passed
pub place_of-set_gone : {X : Type 0} (p : X → Bool) (d : X) (xs : List X) (k : ℕ) (new : X) → k < length xs → p new ≡ false
    → ((j : ℕ) → p (get_or xs j d) ≡ true → j ≡ k) → place_of p (set xs k new) ≡ None
place_of-set_gone p d xs k new there new_fails only =
    places.place_of-none p _ d
    (λ j l. grind (arith, only j, get_or-set_same xs k new d there, get_or-set_other xs k j new d, cases_eq j k))

-- ---- frames

abbrev pub holds : ℕ → Frame → Bool
holds b f = is_number f.block b

pub holds-not : (f : Frame) (b : ℕ) → (f.block ≡ Some b → ⊥) → holds b f ≡ false
holds-not f b n = grind (arith, number_from)

pub frame-stays : (c d : Cache) (f : ℕ) (new : Frame) (b : ℕ) → d.directory.frames ≡ set c.directory.frames f new
    → holds b new ≡ holds b (frame_at c f) → frame_of d b ≡ frame_of c b
unfolding dir.frame_of
frame-stays c d f new b ed e = cc (ed, place_of-set _ empty_frame _ f new e)

pub frame-comes : (c d : Cache) (f : ℕ) (new : Frame) (b : ℕ) → d.directory.frames ≡ set c.directory.frames f new
    → f < length c.directory.frames → new.block ≡ Some b → ((k : ℕ) → (frame_at c k).block ≡ Some b → k ≡ f) → frame_of d b ≡ Some f
unfolding dir.frame_of
frame-comes c d f new b ed there e only = ap (place_of _) ed ∙ place_of-set_here _ empty_frame _ f new refl there (number_is new.block b e)
    (λ k q. only k (number_from (frame_at c k).block b q))

pub frame-goes : (c d : Cache) (f : ℕ) (new : Frame) (b : ℕ) → d.directory.frames ≡ set c.directory.frames f new
    → f < length c.directory.frames → (new.block ≡ Some b → ⊥) → ((k : ℕ) → (frame_at c k).block ≡ Some b → k ≡ f) → frame_of d b ≡ None
unfolding dir.frame_of
frame-goes c d f new b ed there e only = ap (place_of _) ed ∙ place_of-set_gone _ empty_frame _ f new there (holds-not new b e)
    (λ k q. only k (number_from (frame_at c k).block b q))

-- ---- live registers

abbrev pub serves : ℕ → Register → Bool
serves b r = is_live r && r.block == b

pub serves-not : (r : Register) (b : ℕ) → (is_live r ≡ true → r.block ≡ b → ⊥) → serves b r ≡ false
serves-not r b n = grind (arith, eqb-true)

pub live-stays : (c d : Cache) (s : ℕ) (new : Register) (b : ℕ) → d.registers ≡ set c.registers s new
    → serves b new ≡ serves b (register_at c s) → live_for d b ≡ live_for c b
unfolding regs.live_for
live-stays c d s new b ed e = cc (ed, place_of-set _ free_register _ s new e)

pub live-comes : (c d : Cache) (s : ℕ) (new : Register) (b : ℕ) → d.registers ≡ set c.registers s new → s < length c.registers
    → serves b new ≡ true → ((t : ℕ) → is_live (register_at c t) ≡ true → (register_at c t).block ≡ b → t ≡ s) → live_for d b ≡ Some s
unfolding regs.live_for
live-comes c d s new b ed there e only = ap (place_of _) ed ∙ place_of-set_here _ free_register _ s new refl there e
    (λ t q. let p = and_parts _ _ q in only t p.0 (eqb-true _ b p.1))

pub live-goes : (c d : Cache) (s : ℕ) (new : Register) (b : ℕ) → d.registers ≡ set c.registers s new → s < length c.registers
    → serves b new ≡ false → ((t : ℕ) → is_live (register_at c t) ≡ true → (register_at c t).block ≡ b → t ≡ s) → live_for d b ≡ None
unfolding regs.live_for
live-goes c d s new b ed there e only =
    ap (place_of _) ed ∙ place_of-set_gone _ free_register _ s new there e (λ t q. let p = and_parts _ _ q in only t p.0 (eqb-true _ b p.1))

-- ---- stack

abbrev pub is_entry : ℕ → ℕ → Entry → Bool
is_entry s i e = (e.slot == s) && (e.i == i)

-- what no element passes isn't found
pub find-absent : {X : Type 0} (p : X → Bool) (xs : List X) → ((k : ℕ) (x : X) → slice_get xs k ≡ Some x → p x ≡ true → ⊥)
    → find p xs ≡ None
find-absent p [] none = refl
find-absent p (x ∷ xs) none = grind (arith, none 0 x, find-absent p xs (λ k y e. none (suc k) y e))

pub stack_word-none : (stack : List Entry) (s i : ℕ) → ((k : ℕ) (e : Entry) → slice_get stack k ≡ Some e → e.slot ≡ s → e.i ≡ i → ⊥)
    → stack_word stack s i ≡ None
unfolding stack_word
stack_word-none stack s i none = grind (arith, find-absent, eqb-true)

-- ---- What is waited for.

-- whether a register waits for a word
abbrev pub waits_for : Sizes → Cache → ℕ → ℕ → Bool
waits_for z c s i = (register_at c s).valid && (nat_lt i z.block_words && not (field_at c s i).processed)

-- a unit that differs in its buffer's words and in what waits for words at most
pub record Beside (z : Sizes) (c d : Cache) : Type 0 where
  pub waits : (s i : ℕ) → waits_for z d s i ≡ waits_for z c s i
  pub stack : d.stack ≡ c.stack
  pub queue : d.queue ≡ c.queue
