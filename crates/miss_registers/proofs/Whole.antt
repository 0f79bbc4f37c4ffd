-- Each step keeps the registers sound and whole.
use Rattle.std.proofs.Common.{◌≡◌, ℕ, ◌+◌, ◌<◌, ◌≤◌, ◌==◌, true, false, cond, List, [], ◌∷◌, length, set, replicate, None, refl, ap, sym}
use Rattle.std.proofs.Common.{◌∙◌, inl, inr, arith, length-set, length-append}
use Rattle.std.specs.List.{count_by}
use Rattle.std.proofs.lemmas.Bool.{cases_eq, false≢true, both_ways, ne_eqb}
use Rattle.std.proofs.lemmas.List.{get_or-set_same, get_or-set_other, length-replicate, length-map}
use Rattle.std.proofs.lemmas.List.Sums.{sum_by-cons, count_by-le-length}
use Rattle.std.proofs.Math.ListN.{get_or-map}
use Rattle.std.proofs.lemmas.List.Folds.{list_all_at, list_all-map}
use Rattle.flat_model.specs.declared.Lanes.{Lanes}
use Rattle.flat_model.specs.declared.limits.TheConstants.{MAX_BLOCK_WORDS, MAX_REGS}
use Rattle.flat_model.specs.Words.{no_lanes, joined}
use Rattle.miss_registers.specs.declared.Owed.{Owed}
use Rattle.miss_registers.specs.declared.TheConstants.{MAX_WAITING}
use Rattle.miss_registers.specs.Registers.{Field, Register, free_register, clear_field, register_at, field_of, with_field, is_live, is_done}
use Rattle.miss_registers.specs.Registers.{live_for, awaited, noted, marked, finished, finished_field, made_obsolete, without_code, fresh}
use Rattle.miss_registers.specs.Registers.{expects, tags_of, tags_of_field, waiting_tags, tag_waits}
use Rattle.miss_registers.specs.Whole.{IsWholeRegister, IsSound, IsWhole}
use Rattle.miss_registers.proofs.Tags.{set-each, replicate-each, in_stack_there, expects-parts, none_counted, Changes, same_loads-changes}
use Rattle.miss_registers.proofs.Tags.{none-changes, obsolete-changes, awaited-changes, finished-changes, file-changes, waiting_tags-new}
use Rattle.miss_registers.proofs.Places.{live_for-missing}

-- ---- a register

free-whole : (words : ℕ) → IsWholeRegister words free_register
free-whole words = grind arith

pub fresh-whole : (words block frame : ℕ) → 1 ≤ words → IsWholeRegister words (fresh words block frame)
unfolding fresh
fresh-whole words block frame h = grind (arith, length-replicate, false≢true, replicate-each)

-- one word's field is another
with_field-whole : (words : ℕ) (r : Register) (i : ℕ) (f : Field) → IsWholeRegister words r → r.valid ≡ true → i < length r.fields
    → is_done (set r.fields i f) ≡ false → (r.obsolete ≡ true → f.code ≡ no_lanes) → (f.processed ≡ true → f ≡ finished_field)
    → length f.waiting ≤ MAX_WAITING → IsWholeRegister words (with_field r i f)
with_field-whole words r i f h v p m c d w = record {
  free = grind arith;
  fields_there = λ t. length-set r.fields i f ∙ h.fields_there t;
  missing = λ t. m;
  codes = λ o. set-each (λ x. x.code ≡ no_lanes) r.fields i f clear_field p (h.codes o) (c o);
  done = set-each (λ x. x.processed ≡ true → x ≡ finished_field) r.fields i f clear_field p h.done d;
  few_loads = set-each (λ x. length x.waiting ≤ MAX_WAITING) r.fields i f clear_field p h.few_loads w;
}

-- and the word is unprocessed
unprocessed-whole : (words : ℕ) (r : Register) (i : ℕ) (f : Field) → IsWholeRegister words r → r.valid ≡ true → i < length r.fields
    → f.processed ≡ false → (r.obsolete ≡ true → f.code ≡ no_lanes) → length f.waiting ≤ MAX_WAITING
    → IsWholeRegister words (with_field r i f)
unprocessed-whole words r i f h v p u c w =
    let here = ap (λ x. x.processed) (get_or-set_same r.fields i f clear_field p) in
    let within : i < length _ = rw (length-set r.fields i f) p in
    let missing = list_all_at (λ x. x.processed) _ i clear_field within (here ∙ u) in
    with_field-whole words r i f h v p missing c (λ d. absurd (both_ways f.processed u d)) w

awaited-whole : (words : ℕ) (r : Register) (i : ℕ) (owed : Owed) → IsWholeRegister words r → r.valid ≡ true → i < length r.fields
    → (field_of r i).processed ≡ false → length (field_of r i).waiting < MAX_WAITING → IsWholeRegister words (awaited r i owed)
unfolding awaited
awaited-whole words r i owed h v p u room = grind (arith, length-append, unprocessed-whole, h.codes)

finished-whole : (words : ℕ) (r : Register) (i : ℕ) → IsWholeRegister words r → r.valid ≡ true → i < length r.fields
    → IsWholeRegister words (finished r i)
unfolding finished
finished-whole words r i h v p = grind (arith, free-whole, with_field-whole)

obsolete-whole : (words : ℕ) (r : Register) → IsWholeRegister words r → r.valid ≡ true → IsWholeRegister words (made_obsolete r)
unfolding made_obsolete
obsolete-whole words r h v =
    let cleared = λ (i : ℕ). get_or-map without_code r.fields i clear_field in
    record {
      free = grind arith;
      fields_there = λ t. length-map r.fields without_code ∙ h.fields_there t;
      missing = λ t. list_all-map (λ x. x.processed) without_code r.fields ∙ h.missing t;
      codes = grind arith;
      done = grind arith;
      few_loads = grind arith;
    }

-- ---- which registers stay live

live-parts : (r : Register) → is_live r ≡ true → (r.valid ≡ true) × (r.obsolete ≡ false)
live-parts r l = grind arith

-- a register is live only where the one before was, for the same block
abbrev StaysLive : Register → Register → Type 0
StaysLive old new = is_live new ≡ true → (is_live old ≡ true) × (new.block ≡ old.block)

-- ---- the file

-- no other live register stands for the block of this one
abbrev IsAlone : List Register → ℕ → Register → Type 0
IsAlone rs slot r = (k : ℕ) → (k ≡ slot → ⊥) → is_live r ≡ true → is_live (register_at rs k) ≡ true → r.block ≡ (register_at rs k).block → ⊥

stays_alone : (words regs : ℕ) (rs : List Register) (slot : ℕ) (r : Register) → IsSound words regs rs → StaysLive (register_at rs slot) r
    → IsAlone rs slot r
stays_alone words regs rs slot r h stays k n a b s = grind arith

-- a register is another, which lost these tags and got those
set-kept : (words regs : ℕ) (rs : List Register) (slot : ℕ) (r : Register) (gone come : List ℕ) → IsSound words regs rs → slot < length rs
    → IsWholeRegister words r → IsAlone rs slot r → Changes (tags_of (register_at rs slot)) (tags_of r) gone come
    → ((tag : ℕ) → count_by (λ t. t == tag) (waiting_tags rs) + count_by (λ t. t == tag) come ≤ 1) → IsSound words regs (set rs slot r)
set-kept words regs rs slot r gone come h p w alone changes once =
    let all = file-changes rs slot r gone come p changes in
    let here : register_at _ slot ≡ r = get_or-set_same rs slot r free_register p in
    let there : (k : ℕ) → (k ≡ slot → ⊥) → register_at _ k ≡ register_at rs k = λ k n. get_or-set_other rs slot k r free_register n in
    record {
      registers_there = length-set rs slot r ∙ h.registers_there;
      each = grind arith;
      one_live = grind arith;
      once = λ tag. (let z = all (λ t. t == tag) in let o = once tag in omega arith);
    }

-- and it got none
lost-kept : (words regs : ℕ) (rs : List Register) (slot : ℕ) (r : Register) (gone : List ℕ) → IsSound words regs rs → slot < length rs
    → IsWholeRegister words r → StaysLive (register_at rs slot) r → Changes (tags_of (register_at rs slot)) (tags_of r) gone []
    → IsSound words regs (set rs slot r)
lost-kept words regs rs slot r gone h p w stays changes =
    let alone = stays_alone words regs rs slot r h stays in
    set-kept words regs rs slot r gone [] h p w alone changes (λ tag. omega (arith, h.once tag))

-- an unprocessed word's field is another, for which the same loads wait
same_loads-kept : (words regs : ℕ) (rs : List Register) (slot i : ℕ) (f : Field) → IsSound words regs rs → slot < length rs
    → (register_at rs slot).valid ≡ true → i < length (register_at rs slot).fields → f.processed ≡ false
    → ((register_at rs slot).obsolete ≡ true → f.code ≡ no_lanes) → f.waiting ≡ (field_of (register_at rs slot) i).waiting
    → IsSound words regs (set rs slot (with_field (register_at rs slot) i f))
same_loads-kept words regs rs slot i f whole p v t u c e =
    let r = register_at rs slot in
    let h = whole.each slot in
    let w = unprocessed-whole words r i f h v t u c (rw e (h.few_loads i)) in
    lost-kept words regs rs slot _ [] whole p w (λ l. (l, refl)) (same_loads-changes r i f t e)

-- ---- each step

pub marked-kept : (words regs : ℕ) (rs : List Register) (slot i : ℕ) → IsSound words regs rs → slot < length rs
    → expects (register_at rs slot) i ≡ true → IsSound words regs (set rs slot (marked (register_at rs slot) i))
unfolding marked
marked-kept words regs rs slot i whole p x =
    let r = register_at rs slot in
    let e = expects-parts r i x in
    let f = record (field_of r i) { in_stack = true } in
    same_loads-kept words regs rs slot i f whole p e.valid e.there e.unprocessed (λ o. (whole.each slot).codes o i) refl

pub noted-kept : (words regs : ℕ) (rs : List Register) (slot i : ℕ) (lanes : Lanes) → IsSound words regs rs → slot < length rs
    → is_live (register_at rs slot) ≡ true → i < length (register_at rs slot).fields → (field_of (register_at rs slot) i).processed ≡ false
    → IsSound words regs (set rs slot (noted (register_at rs slot) i lanes))
unfolding noted
noted-kept words regs rs slot i lanes whole p l t u =
    let r = register_at rs slot in
    let q = live-parts r l in
    let f = record (field_of r i) { code = joined (field_of r i).code lanes } in
    same_loads-kept words regs rs slot i f whole p q.0 t u (λ o. absurd (both_ways r.obsolete q.1 o)) refl

pub obsolete-kept : (words regs : ℕ) (rs : List Register) (slot : ℕ) → IsSound words regs rs → slot < length rs
    → is_live (register_at rs slot) ≡ true → IsSound words regs (set rs slot (made_obsolete (register_at rs slot)))
unfolding made_obsolete
obsolete-kept words regs rs slot h p l =
    let r = register_at rs slot in
    let w = obsolete-whole words r (h.each slot) (live-parts r l).0 in
    lost-kept words regs rs slot _ [] h p w (λ v. grind arith) (obsolete-changes r)

pub awaited-kept : (words regs : ℕ) (rs : List Register) (slot i : ℕ) (owed : Owed) → IsSound words regs rs → slot < length rs
    → is_live (register_at rs slot) ≡ true → expects (register_at rs slot) i ≡ true
    → length (field_of (register_at rs slot) i).waiting < MAX_WAITING
    → tag_waits rs owed.tag ≡ false → IsSound words regs (set rs slot (awaited (register_at rs slot) i owed))
unfolding awaited
awaited-kept words regs rs slot i owed h p l x room new =
    let r = register_at rs slot in
    let e = expects-parts r i x in
    let w = awaited-whole words r i owed (h.each slot) e.valid e.there e.unprocessed room in
    let alone = stays_alone words regs rs slot (awaited r i owed) h (λ v. (v, refl)) in
    set-kept words regs rs slot _ [] (owed.tag ∷ []) h p w alone (awaited-changes r i owed e.there) once
  where
    once : (tag : ℕ) → count_by (λ t. t == tag) (waiting_tags rs) + count_by (λ t. t == tag) (owed.tag ∷ []) ≤ 1
    once tag = elim (cases_eq owed.tag tag) [
      | inl e ↦ (
          let none = none_counted (λ t. t == tag) _ (rw e at new) in
          omega (arith, none, count_by-le-length (λ t. t == tag) (owed.tag ∷ [])))
      | inr m ↦ (
          let s = sum_by-cons (λ t. cond (t == tag) 1 0) owed.tag [] in
          let c : cond {A = ℕ} (owed.tag == tag) 1 0 ≡ 0 = rw (ne_eqb owed.tag tag m) refl in
          omega (arith, h.once tag))
    ]

pub finished-kept : (words regs : ℕ) (rs : List Register) (slot i : ℕ) → IsSound words regs rs → slot < length rs
    → (field_of (register_at rs slot) i).in_stack ≡ true → IsSound words regs (set rs slot (finished (register_at rs slot) i))
unfolding finished
finished-kept words regs rs slot i h p s =
    let r = register_at rs slot in
    let each = h.each slot in
    let there = in_stack_there r i s in
    let w = finished-whole words r i each (grind arith) there in
    lost-kept words regs rs slot _ (tags_of_field (field_of r i)) h p w (λ v. grind arith) (finished-changes r i each.done there)

-- a free register is another, for which no load waits
pub allocated-kept : (words regs : ℕ) (rs : List Register) (slot : ℕ) (r : Register) → IsSound words regs rs → slot < length rs
    → register_at rs slot ≡ free_register → live_for rs r.block ≡ None → IsWholeRegister words r → tags_of r ≡ []
    → IsSound words regs (set rs slot r)
allocated-kept words regs rs slot r h p free absent w none =
    let alone : IsAlone rs slot r = λ k m a b t. live_for-missing rs r.block k absent b (sym t) in
    set-kept words regs rs slot r [] [] h p w alone (none-changes _ r free none) (λ tag. omega (arith, h.once tag))

-- ---- a new file

pub new-kept : (words regs : ℕ) → IsSound words regs (replicate regs free_register)
new-kept words regs = grind (arith, length-replicate, replicate-each, free-whole, false≢true, waiting_tags-new)

-- ---- and the ranges

pub new-whole : (words regs : ℕ) → 1 ≤ words → words ≤ MAX_BLOCK_WORDS → 1 ≤ regs → regs ≤ MAX_REGS
    → IsWhole words regs (replicate regs free_register)
new-whole words regs a b c d =
    record { some_register = c; few_registers = d; some_word = a; few_words = b; sound = new-kept words regs }

-- a step that keeps the registers sound keeps them whole
pub still_whole : (words regs : ℕ) (rs next : List Register) → IsWhole words regs rs → (IsSound words regs rs → IsSound words regs next)
    → IsWhole words regs next
still_whole words regs rs next h step = record {
  some_register = h.some_register;
  few_registers = h.few_registers;
  some_word = h.some_word;
  few_words = h.few_words;
  sound = step h.sound;
}
