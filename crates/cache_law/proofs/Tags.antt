-- The tags of the values that stand ready, and of the loads that wait.
use Rattle.std.proofs.Common.{◌≡◌, ℕ, suc, ◌+◌, ◌<◌, ◌≤◌, Bool, true, false, ◌||◌, ◌==◌, if◌then◌else◌, List, [], ◌∷◌, ◌++◌, map}
use Rattle.std.proofs.Common.{length, get_or, set, refl, ap, sym, ◌∙◌, arith, length-append, eqb-true, Some, slice_get}
use Rattle.std.specs.List.{sum_by, count_by, list_any, flat_map}
use Rattle.std.proofs.lemmas.Bool.{or_parts, cases_lt}
use Rattle.std.proofs.lemmas.List.{map-append, length-map}
use Rattle.std.proofs.lemmas.List.Sums.{sum_by-cons}
use Rattle.std.proofs.lemmas.List.Folds.{list_any-append}
use Rattle.miss_registers.specs.Whole.{IsWholeRegister}
use Rattle.miss_registers.specs.Whole as whole
use Rattle.miss_registers.proofs.Tags.{list_any-map, none_counted, count_by-append, count_by-map}
use Rattle.miss_registers.specs.declared.Owed.{Owed}
use Rattle.cache_law.specs.declared.Reply.{Reply}
use Rattle.cache_law.specs.declared.Sizes.{Sizes}
use Rattle.cache_law.specs.State.{Target, gathered, targets_of_field, targets_of, targets, tags, Cache, Field, Register}
use Rattle.cache_law.specs.Causes.{is_in_use}
use Rattle.cache_law.specs.Sound.{loads_of_field, loads_of, owing, OwesSound, IsSound}
use Rattle.cache_law.proofs.Keeps.{count_by-all, owing-set, loads-set, Taken-from}
use Rattle.miss_registers.specs.Registers.{tags_of_field, tags_of, waiting_tags, tag_waits, register_at, awaited, field_of}
use Rattle.input_stack.specs.declared.Entry.{Entry}
use Rattle.cache_law.specs.Counts.{tally}
use Rattle.miss_registers.specs.Registers as regs

abbrev tag_of : Target → ℕ
tag_of t = t.load.tag

-- ---- the loads that wait, by the registers

same_tags : (slot i : ℕ) (ws : List Owed) → map tag_of (map (λ w. record { slot = slot; i = i; load = w }) ws) ≡ map (λ w. w.tag) ws
same_tags slot i [] = refl
same_tags slot i (w ∷ ws) = cc (same_tags slot i ws)

tags_of-field : (slot i : ℕ) (b : Bool) (f : Field) → f.processed ≡ b → (f.processed ≡ true → f.waiting ≡ [])
    → map tag_of (if b then [] else map (λ w. record { slot = slot; i = i; load = w }) f.waiting) ≡ tags_of_field f
tags_of-field slot i true f e h = grind arith
tags_of-field slot i false f e h = same_tags slot i f.waiting

tags_of-fields : (slot n : ℕ) (fs : List Field) → ((i : ℕ) → (get_or fs i regs.clear_field).processed ≡ true
    → (get_or fs i regs.clear_field).waiting ≡ []) → map tag_of (gathered (targets_of_field slot) n fs) ≡ flat_map tags_of_field fs
tags_of-fields slot n [] h = refl
tags_of-fields slot n (f ∷ fs) h =
    rw map-append (cc (tags_of-field slot n f.processed f refl (h 0), tags_of-fields slot (suc n) fs (λ i. h (suc i))))

tags_of-register : (words n : ℕ) (r : Register) → IsWholeRegister words r → map tag_of (targets_of n r) ≡ tags_of r
tags_of-register words n r w = grind (arith, r.valid, r.fields, tags_of-fields, w.done)

tags_of-registers : (words n : ℕ) (rs : List Register) → ((s : ℕ) → IsWholeRegister words (get_or rs s regs.free_register))
    → map tag_of (gathered targets_of n rs) ≡ flat_map tags_of rs
tags_of-registers words n [] h = refl
tags_of-registers words n (r ∷ rs) h =
    rw map-append (cc (tags_of-register words n r (h 0), tags_of-registers words (suc n) rs (λ s. h (suc s))))

pub waiting-shown : (words regs' : ℕ) (rs : List Register) → whole.IsSound words regs' rs → map tag_of (targets rs) ≡ waiting_tags rs
unfolding targets waiting_tags
waiting-shown words regs' rs w = tags_of-registers words 0 rs w.each

pub tags-shown : {words regs' : ℕ} (c : Cache) → whole.IsSound words regs' c.registers → tags c ≡ map (λ r. r.tag) c.ready
    ++ waiting_tags c.registers
tags-shown c w = ap (λ l. map (λ r. r.tag) c.ready ++ l) (waiting-shown _ _ _ w)

-- ---- counts

count-flat_map : {X : Type 0} (p : ℕ → Bool) (f : X → List ℕ) (n : X → ℕ) → ((x : X) → count_by p (f x) ≡ n x) → (xs : List X)
    → count_by p (flat_map f xs) ≡ sum_by n xs
count-flat_map p f n h [] = refl
count-flat_map p f n h (x ∷ xs) =
    omega (arith, count_by-append p (f x) (flat_map f xs), h x, sum_by-cons n x xs, count-flat_map p f n h xs)

pub count-waiting : (p : ℕ → Bool) (rs : List Register) → count_by p (waiting_tags rs) ≡ sum_by (loads_of p) rs
unfolding waiting_tags
count-waiting p =
    count-flat_map p tags_of (loads_of p)
    (λ r. count-flat_map p tags_of_field (loads_of_field p) (λ f. count_by-map p _ f.waiting) r.fields)

pub owing-tags : (p : ℕ → Bool) (ready : List Reply) (rs : List Register)
    → owing p ready rs ≡ count_by p (map (λ r. r.tag) ready ++ waiting_tags rs)
owing-tags p ready rs = grind (arith, count_by-append, count_by-map, count-waiting)

-- how many are owed
pub owing-all : {words regs' : ℕ} (c : Cache) → whole.IsSound words regs' c.registers
    → owing (λ t. true) c.ready c.registers ≡ length (tags c)
owing-all c w =
    owing-tags (λ t. true) c.ready _ ∙ count_by-all (map (λ r. r.tag) _ ++ waiting_tags _) ∙ ap length (sym (tags-shown c w))

pub length-tags : {words regs' : ℕ} (c : Cache) → whole.IsSound words regs' c.registers
    → length (tags c) ≡ length (waiting_tags c.registers) + length c.ready
length-tags c w =
    grind (arith, tags-shown c w, length-append, length-map)

-- ---- a tag in use

pub in_use-shown : {words regs' : ℕ} (c : Cache) (tag : ℕ) → whole.IsSound words regs' c.registers
    → is_in_use c tag ≡ (list_any (λ r. r.tag == tag) c.ready || tag_waits c.registers tag)
in_use-shown c tag w = ap (list_any (λ t. t == tag)) (tags-shown c w) ∙ list_any-append (λ t. t == tag) (map (λ r. r.tag) _) _
    ∙ ap (λ b. b || tag_waits c.registers tag) (list_any-map (λ t. t == tag) (λ r. r.tag) _)

pub not_waiting : {words regs' : ℕ} (c : Cache) (tag : ℕ) → whole.IsSound words regs' c.registers → is_in_use c tag ≡ false
    → tag_waits c.registers tag ≡ false
not_waiting c tag w h = (or_parts _ _ (sym (in_use-shown c tag w) ∙ h)).1

-- one value more is owed
pub owes-added : (z : Sizes) (c : Cache) (rs : List Register) (ready : List Reply) (tag : ℕ) → IsSound z c → is_in_use c tag ≡ false
    → length (tags c) < z.replies → ((p : ℕ → Bool) → owing p ready rs ≡ owing p c.ready c.registers + (if p tag then 1 else 0))
    → OwesSound z ready rs
owes-added z c rs ready tag h new room add = record {
  few = (
      let a = add (λ t. true) in
      let b = owing-all c h.registers in
      omega arith);
  once = λ t. go t _ refl;
}
  where
    go : (t : ℕ) (b : Bool) → (tag == t) ≡ b → owing (λ x. x == t) ready rs ≤ 1
    go t true e = grind (
      arith,
      eqb-true tag t e,
      tags-shown c h.registers,
      owing-tags (λ x. x == t) c.ready c.registers,
      none_counted (λ x. x == t) (map (λ r. r.tag) c.ready ++ waiting_tags c.registers),
      add (λ x. x == t),
    )
    go t false e = grind (arith, add (λ x. x == t), h.owes.once t)

-- a reply goes last
pub owing-push : (p : ℕ → Bool) (ready : List Reply) (rs : List Register) (r : Reply)
    → owing p (ready ++ r ∷ []) rs ≡ owing p ready rs + (if p r.tag then 1 else 0)
owing-push p ready rs r = grind (arith, count_by-append, sum_by-cons)

-- a load waits for a word too
pub owing-awaited : (p : ℕ → Bool) (ready : List Reply) (rs : List Register) (s i : ℕ) (o : Owed) → s < length rs
    → i < length (register_at rs s).fields → owing p ready (set rs s (awaited (register_at rs s) i o))
    ≡ owing p ready rs + (if p o.tag then 1 else 0)
unfolding awaited
owing-awaited p ready rs s i o a b =
    let r = register_at rs s in
    let f = record (field_of r i) { waiting = (field_of r i).waiting ++ o ∷ [] } in
    grind (arith, owing-set p ready rs s (regs.with_field r i f) a, loads-set p r i f b, count_by-append, sum_by-cons)

-- ---- What is so of each sound unit.

-- ---- what is owed

tally-count : {X : Type 0} (p : X → Bool) (xs : List X) → tally p xs ≡ count_by p xs
tally-count p [] = refl
tally-count p (x ∷ xs) = grind (arith, sum_by-cons (λ y. if p y then 1 else 0) x xs, tally-count p xs)

pub few_tags : (z : Sizes) (c : Cache) → IsSound z c → length (tags c) ≤ z.replies
few_tags z c h = rw (owing-all c h.registers) at h.owes.few

pub owed_once : (z : Sizes) (c : Cache) → IsSound z c → (tag : ℕ) → tally (λ t. t == tag) (tags c) ≤ 1
owed_once z c h tag =
    let b = h.owes.once tag in
    omega (
      arith,
      tally-count (λ t. t == tag) (tags c),
      ap (count_by (λ t. t == tag)) (tags-shown c h.registers),
      owing-tags (λ t. t == tag) c.ready c.registers,
    )

-- ---- the stack

-- the register of an entry of the stack has the word, and hasn't processed it
pub record HasWord (z : Sizes) (c : Cache) (e : Entry) : Type 0 where
  pub valid : (register_at c.registers e.slot).valid ≡ true
  pub there : e.i < z.block_words
  pub waits : (regs.field_at c.registers e.slot e.i).processed ≡ false

pub has_word : (z : Sizes) (c : Cache) → IsSound z c → (k : ℕ) (e : Entry) → slice_get c.stack k ≡ Some e → HasWord z c e
has_word z c h k e g =
    let t = Taken-from _ k e g in
    let w = h.stack_sound.entries k t.within in
    grind (arith, t.same, w, (h.registers.each e.slot).fields_there)

-- a word stands in the stack once
pub entries_apart : (z : Sizes) (c : Cache) → IsSound z c → (j k : ℕ) (d e : Entry) → slice_get c.stack j ≡ Some d
    → slice_get c.stack k ≡ Some e → d.slot ≡ e.slot → d.i ≡ e.i → j ≡ k
entries_apart z c h j k d e gj gk es ei = grind (arith, never, cases_lt)
  where
    never : (j k : ℕ) (x y : Entry) → slice_get c.stack j ≡ Some x → slice_get c.stack k ≡ Some y → x.slot ≡ y.slot → x.i ≡ y.i → j < k → ⊥
    never j k x y gj gk es ei l = grind (arith, Taken-from c.stack j x gj, Taken-from c.stack k y gk, h.stack_sound.distinct j k l)
