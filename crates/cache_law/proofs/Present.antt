-- Loads and stores of a block that a frame holds.
use Rattle.std.proofs.Common.{◌≡◌, ℕ, ◌<◌, ◌==◌, Bool, true, false, ◌&&◌, List, [], ◌∷◌, length, set, Option, Some, None, eq-eqb, is_some}
use Rattle.std.proofs.Common.{refl, ap, sym, ◌∙◌, length-set, inl, inr, eqb-true, nat_lt, ◌||◌, not, if◌then◌else◌, ◌++◌, arith}
use Rattle.std.proofs.Common.{length-append, ◌⊎◌, option_map}
use Rattle.std.proofs.lemmas.List.{get_or-set_same, get_or-set_other, get_or_past, get_or_append_left, get_or-append_right}
use Rattle.std.proofs.lemmas.Bool.{false≢true, cases_eq, and_parts, cases_lt}
use Rattle.flat_model.proofs.Places.{place_of-passes}
use Rattle.input_stack.specs.declared.Entry.{Entry}
use Rattle.cache_law.specs.Sound.{entry_at, StackSound, Tied, no_entry, HasInStack, Stands, IsSound, loads_of, OwesSound}
use Rattle.cache_directory.proofs.Finds.{find-passes, find-all, find-nowhere}
use Rattle.std.proofs.lemmas.List.Elements.{All-from_get_or}
use Rattle.cache_law.proofs.Keeps.{SameBlocks, loads-set, owes-same, SameBlocks-set, pending-set, register_at-set}
use Rattle.std.specs.List.{find}
use Rattle.flat_model.specs.declared.Word.{Word}
use Rattle.input_stack.specs.Stack.{stack_word}
use Rattle.cache_law.specs.declared.Sizes.{Sizes}
use Rattle.cache_law.specs.State.{Cache, register_at, field_at, Field, frame_at, frame_of, live_for, Frame, Frames, Register, free_register}
use Rattle.cache_law.specs.State.{is_live}
use Rattle.cache_law.specs.Causes.{is_stray, Coming, found}
use Rattle.cache_law.specs.Steps.{arrived, written, written_for, noted_for}
use Rattle.miss_registers.specs.declared.TheConstants.{MAX_WAITING}
use Rattle.cache_directory.proofs.Whole.{whole-kept}
use Rattle.miss_registers.proofs.Whole.{marked-kept, noted-kept, awaited-kept}
use Rattle.miss_registers.specs.Whole as whole
use Rattle.flat_model.specs.declared.Lanes.{Lanes}
use Rattle.miss_registers.specs.declared.Owed.{Owed}
use Rattle.miss_registers.specs.Registers.{field_of}
use Rattle.cache_directory.specs.Frames as dir
use Rattle.miss_registers.specs.Registers as regs
use Rattle.cache_law.proofs.Lists.{frame_of-some, none_live}

-- ---- Registers and frames, of which some parts stay as they are.

-- ---- registers of which the marks stay

pub record SameMarks (r r' : Register) : Type 0 where
  pub valid : r'.valid ≡ r.valid
  pub count : length r'.fields ≡ length r.fields
  pub processed : (i : ℕ) → (field_of r' i).processed ≡ (field_of r i).processed
  pub in_stack : (i : ℕ) → (field_of r' i).in_stack ≡ (field_of r i).in_stack

pub SameMarks-self : (r : Register) → SameMarks r r
SameMarks-self r = record { valid = refl; count = refl; processed = λ i. refl; in_stack = λ i. refl }

-- what holds of each register and itself holds of a list of which one is another
pub related-set : (R : Register → Register → Type 0) → ((r : Register) → R r r) → (rs : List Register) (s : ℕ) (r : Register)
    → s < length rs → R (regs.register_at rs s) r → (t : ℕ) → R (regs.register_at rs t) (regs.register_at (set rs s r) t)
related-set R self rs s r l h t = register_at-set (R (regs.register_at rs t)) rs s t r l (λ e. rw e h) (λ n. self _)

pub StackSound-same : (rs rs' : List Register) (st : List Entry)
    → ((s : ℕ) → SameMarks (regs.register_at rs s) (regs.register_at rs' s)) → StackSound rs st → StackSound rs' st
StackSound-same rs rs' st m h = grind (arith, h.entries, h.distinct, h.marks)

-- ---- registers of which the block and the frame stay

pub record SameShape (r r' : Register) : Type 0 where
  pub live : is_live r' ≡ is_live r
  pub block : r'.block ≡ r.block
  pub frame : r'.frame ≡ r.frame
  pub count : length r'.fields ≡ length r.fields

pub SameShape-self : (r : Register) → SameShape r r
SameShape-self r = record { live = refl; block = refl; frame = refl; count = refl }

pub Tied-same : (fs fs' : List Frame) (rs rs' : List Register) → SameBlocks fs fs'
    → ((f : ℕ) → (dir.frame_at fs' f).pending ≡ (dir.frame_at fs f).pending)
    → ((s : ℕ) → SameShape (regs.register_at rs s) (regs.register_at rs' s)) → Tied fs rs → Tied fs' rs'
Tied-same fs fs' rs rs' b p m h = grind (arith, h.frames, h.pending, b.holds, b.cells)

-- ---- one field of a register is another

pub with_field-shape : (r : Register) (i : ℕ) (f : Field) → SameShape r (regs.with_field r i f)
with_field-shape r i f = record { live = refl; block = refl; frame = refl; count = length-set r.fields i f }

-- a register of which the marks, the block and the frame stay
pub record SameKind (r r' : Register) : Type 0 where
  pub marks : SameMarks r r'
  pub shape : SameShape r r'

SameKind-self : (r : Register) → SameKind r r
SameKind-self r = record { marks = SameMarks-self r; shape = SameShape-self r }

with_field-kind : (r : Register) (i : ℕ) (f : Field) → f.processed ≡ (field_of r i).processed → f.in_stack ≡ (field_of r i).in_stack
    → SameKind r (regs.with_field r i f)
with_field-kind r i f p s = grind (arith, length-set, r.fields, cases_eq, get_or-set_same, get_or-set_other, get_or_past, cases_lt)

SameBlocks-self : (fs : List Frame) → SameBlocks fs fs
SameBlocks-self fs = grind arith

-- a unit with other frames and registers of the same kind
IsSound-like : (z : Sizes) (c : Cache) (d : Frames) (rs : List Register) → dir.IsSound z.ways z.block_words d
    → whole.IsSound z.block_words z.regs rs → SameBlocks c.directory.frames d.frames
    → ((f : ℕ) → (dir.frame_at d.frames f).pending ≡ (frame_at c f).pending) → d.orders ≡ c.directory.orders
    → ((s : ℕ) → SameKind (register_at c s) (regs.register_at rs s)) → OwesSound z c.ready rs → IsSound z c
    → IsSound z (record c { directory = d; registers = rs })
IsSound-like z c d rs wd wr b p o k owes h = record {
  some_words = h.some_words;
  whole_blocks = h.whole_blocks;
  some_sets = h.some_sets;
  directory = wd;
  sets = ap length o ∙ h.sets;
  in_memory = λ f n e. h.in_memory f n (sym (b.blocks f) ∙ e);
  registers = wr;
  stack_sound = StackSound-same _ _ _ (λ s. (k s).marks) h.stack_sound;
  tied = Tied-same _ _ _ _ b p (λ s. (k s).shape) h.tied;
  queue_sound = h.queue_sound;
  owes = owes;
}

-- ---- which register is live for a block

pub live_for-some : (rs : List Register) (b s : ℕ) → regs.live_for rs b ≡ Some s → (s < length rs) ×
    (is_live (regs.register_at rs s) ≡ true) × ((regs.register_at rs s).block ≡ b)
unfolding regs.live_for
live_for-some rs b s h = grind (arith, place_of-passes (λ r. is_live r && r.block == b) rs s free_register h, eqb-true)

-- a frame isn't pending where its block has no live register
pub pending_is : (fs : List Frame) (rs : List Register) (f b : ℕ) → Tied fs rs → (dir.frame_at fs f).block ≡ Some b
    → ((g : ℕ) → (dir.frame_at fs g).block ≡ Some b → f ≡ g) → (dir.frame_at fs f).pending ≡ is_some (regs.live_for rs b)
pending_is fs rs f b h e alone = go _ refl (dir.frame_at fs f).pending refl
  where
    go : (o : Option ℕ) → regs.live_for rs b ≡ o → (p : Bool) → (dir.frame_at fs f).pending ≡ p → p ≡ is_some o
    go None q false w = refl
    go None q true w =
        let x = h.pending f w in
        grind (arith, none_live rs b q x.slot x.live, frame_of-some fs _ _ (h.frames x.slot x.live).holds)
    go (Some s) q true w = refl
    go (Some s) q false w =
        let x = live_for-some rs b s q in
        grind (arith, frame_of-some fs _ _ (h.frames s x.1).holds, alone (regs.register_at rs s).frame)

-- ---- A word comes into the stack.

-- ---- the marks are those of the stack

pub in_stack-shown : (z : Sizes) (c : Cache) (s i : ℕ) → IsSound z c → is_some (stack_word c.stack s i) ≡ (field_at c s i).in_stack
unfolding stack_word
in_stack-shown z c s i h = go _ refl (field_at c s i).in_stack refl
  where
    go : (o : Option Entry) → find (λ e. (e.slot == s) && (e.i == i)) c.stack ≡ o → (b : Bool) → (field_at c s i).in_stack ≡ b
        → is_some (option_map (λ e. e.word) o) ≡ b
    go (Some e) q true m = refl
    go (Some e) q false m =
        let is_marked : Entry → Type 0 = λ x. (field_at c x.slot x.i).in_stack ≡ true in
        let marked = find-all (λ x. (x.slot == s) && (x.i == i)) is_marked c.stack e q
        (All-from_get_or is_marked c.stack no_entry (λ k l. (h.stack_sound.entries k l).marked)) in
        grind (arith, marked, find-passes (λ x. (x.slot == s) && (x.i == i)) c.stack e q, eqb-true)
    go None q true m =
        let w = h.stack_sound.marks s i m in
        let none = find-nowhere (λ x. (x.slot == s) && (x.i == i)) c.stack q w.place no_entry w.within in
        cc (none, w.slot, w.word, eq-eqb s s refl, eq-eqb i i refl)
    go None q false m = refl

-- ---- a stray word

stray_by : (v : Bool) (w n : ℕ) (p m t : Bool) → (v ≡ true → n ≡ w) → t ≡ m → (i : ℕ)
    → not (v && (nat_lt i n && (not p && not m))) ≡ (not v || (not (nat_lt i w) || (p || t)))
stray_by false w n p m t l e i = refl
stray_by true w n p m t l e i = grind arith

pub stray-shown : (z : Sizes) (c : Cache) (s i : ℕ) → IsSound z c → not (regs.expects (register_at c s) i) ≡ is_stray z c s i
stray-shown z c s i h = grind (arith, stray_by, h.registers.each, in_stack-shown)

-- ---- what the mark changes

loads-marked : (p : ℕ → Bool) (r : Register) (i : ℕ) → i < length r.fields → loads_of p (regs.marked r i) ≡ loads_of p r
unfolding regs.marked
loads-marked p r i h = grind (arith, loads-set)

SameShape-marked : (r : Register) (i : ℕ) → SameShape r (regs.marked r i)
unfolding regs.marked
SameShape-marked r i = with_field-shape r i _

HasInStack-marked : (r : Register) (i : ℕ) → r.valid ≡ true → i < length r.fields → (field_of r i).processed ≡ false
    → HasInStack (regs.marked r i) i
unfolding regs.marked
HasInStack-marked r i v h p = grind (arith, get_or-set_same, length-set, r.fields)

HasInStack-still : (r : Register) (i j : ℕ) → HasInStack r j → HasInStack (regs.marked r i) j
unfolding regs.marked
HasInStack-still r i j h = grind (arith, cases_eq, get_or-set_same, get_or-set_other, length-set, r.fields)

entry_at-old : (st : List Entry) (e : Entry) (k : ℕ) → k < length st → entry_at (st ++ e ∷ []) k ≡ entry_at st k
entry_at-old st e k h = get_or_append_left st _ no_entry k h

entry_at-new : (st : List Entry) (e : Entry) → entry_at (st ++ e ∷ []) (length st) ≡ e
entry_at-new st e = grind (arith, get_or-append_right)

-- ---- what still holds

-- what the register expects
pub record Expected (r : Register) (i : ℕ) : Type 0 where
  pub valid : r.valid ≡ true
  pub there : i < length r.fields
  pub waits : (field_of r i).processed ≡ false
  pub unmarked : (field_of r i).in_stack ≡ false

pub Expected-from : (r : Register) (i : ℕ) → regs.expects r i ≡ true → Expected r i
Expected-from r i h = grind arith

pub slot_of : (rs : List Register) (s i : ℕ) → Expected (regs.register_at rs s) i → s < length rs
slot_of rs s i h = grind (arith, cases_lt, false≢true, get_or_past)

Stands-push : (st : List Entry) (e : Entry) (s i : ℕ) → Stands st s i → Stands (st ++ e ∷ []) s i
Stands-push st e s i h = grind (arith, entry_at-old, h.place, h.within, length-append)

Stands-new : (st : List Entry) (e : Entry) → Stands (st ++ e ∷ []) e.slot e.i
Stands-new st e =
    let n = entry_at-new st e in
    record { place = length st; within = omega (arith, length-append st (e ∷ [])); slot = ap (λ x. x.slot) n; word = ap (λ x. x.i) n }

mark-marked : (r : Register) (i j : ℕ) → (field_of (regs.marked r i) j).in_stack ≡ true → (j ≡ i) ⊎
    ((field_of r j).in_stack ≡ true)
unfolding regs.marked
mark-marked r i j h = grind (arith, cases_eq, get_or-set_other, r.fields)

no_other : (z : Sizes) (c : Cache) (s i k : ℕ) → IsSound z c → Expected (register_at c s) i → k < length c.stack
    → (entry_at c.stack k).slot ≡ s → (entry_at c.stack k).i ≡ i → ⊥
no_other z c s i k h x p a b = grind arith

pub IsSound-arrived : (z : Sizes) (c : Cache) (e : Entry) → IsSound z c → regs.expects (register_at c e.slot) e.i ≡ true
    → IsSound z (record c { registers = set c.registers e.slot (regs.marked (register_at c e.slot) e.i); stack = c.stack ++ e ∷ [] })
IsSound-arrived z c e h expected =
    let r = register_at c e.slot in
    let x = Expected-from r e.i expected in
    let l = slot_of _ e.slot e.i x in
    let n = length-append c.stack (e ∷ []) in
    record {
      some_words = h.some_words;
      whole_blocks = h.whole_blocks;
      some_sets = h.some_sets;
      directory = h.directory;
      sets = h.sets;
      in_memory = h.in_memory;
      registers = marked-kept _ _ _ _ e.i h.registers l expected;
      stack_sound = record {
        entries = λ k p. elim (cases_lt k (length c.stack)) [
          | inl q ↦ rw (entry_at-old _ e k q) (register_at-set (λ y. HasInStack y (entry_at c.stack k).i) _ e.slot (entry_at _ k).slot _ l
              (λ a. HasInStack-still r e.i (entry_at _ k).i (rw a at (h.stack_sound.entries k q))) (λ a. h.stack_sound.entries k q))
          | inr q ↦ (
              let m : k ≡ length c.stack = omega arith in
              rw (m, entry_at-new _ e, get_or-set_same c.registers e.slot (regs.marked r e.i) free_register l)
              (HasInStack-marked r e.i x.valid x.there x.waits))
        ];
        distinct = λ j k o p a b.
            let old = entry_at-old c.stack e j (omega arith) in
            elim (cases_lt k (length c.stack)) [
              | inl w ↦ h.stack_sound.distinct j k o w (cc (old, entry_at-old _ e k w, a)) (cc (old, entry_at-old _ e k w, b))
              | inr w ↦ (
                  let m : k ≡ length c.stack = omega arith in
                  let new = entry_at-new c.stack e in
                  no_other z c e.slot e.i j h x (omega arith) (cc (m, new, old, a)) (cc (m, new, old, b)))
            ];
        marks = λ s i v. grind (
          arith,
          cases_eq,
          get_or-set_same,
          get_or-set_other,
          mark-marked,
          Stands-new,
          Stands-push,
          h.stack_sound.marks,
        );
      };
      tied = Tied-same _ _ _ _ (SameBlocks-self _) (λ f. refl)
          (related-set SameShape SameShape-self _ e.slot _ l (SameShape-marked r e.i)) h.tied;
      queue_sound = h.queue_sound;
      owes = owes-same z _ _ e.slot _ l (λ p. loads-marked p r e.i x.there) h.owes;
    }

-- ---- the step

pub arrived-shown : (c : Cache) (s i : ℕ) (word : Word) → (record c {
  registers = set c.registers s (regs.marked (register_at c s) i);
  stack = c.stack ++ record { slot = s; i = i; word = word } ∷ [];
}) ≡ arrived c s i word
unfolding arrived
arrived-shown c s i word = refl

-- ---- a load waits

pub IsSound-awaited : (z : Sizes) (c : Cache) (slot i : ℕ) (o : Owed) → slot < length c.registers
    → is_live (register_at c slot) ≡ true → regs.expects (register_at c slot) i ≡ true
    → length (field_at c slot i).waiting < MAX_WAITING → regs.tag_waits c.registers o.tag ≡ false
    → OwesSound z c.ready (set c.registers slot (regs.awaited (register_at c slot) i o)) → IsSound z c
    → IsSound z (record c { registers = set c.registers slot (regs.awaited (register_at c slot) i o) })
unfolding regs.awaited
IsSound-awaited z c slot i o l live x room new owes h =
    let w = awaited-kept _ _ _ slot i o h.registers l live x room new in
    IsSound-like z c _ _ h.directory w (SameBlocks-self _) (λ f. refl) refl
    (related-set SameKind SameKind-self _ slot _ l (with_field-kind _ i _ refl refl)) owes h

-- ---- a store

SameKind-noted : (r : Register) (i : ℕ) (m : Lanes) → SameKind r (regs.noted r i m)
unfolding regs.noted
SameKind-noted r i m = with_field-kind r i _ refl refl

loads-noted : (p : ℕ → Bool) (r : Register) (i : ℕ) (m : Lanes) → i < length r.fields → loads_of p (regs.noted r i m) ≡ loads_of p r
unfolding regs.noted
loads-noted p r i m l = grind (arith, loads-set)

pub written-blocks : (d : Frames) (o : Option ℕ) (i : ℕ) (word : Word) (m : Lanes)
    → SameBlocks d.frames (written_for d o i word m).frames
unfolding dir.written
written-blocks d None i word m = SameBlocks-self _
written-blocks d (Some f) i word m = SameBlocks-set _ f _ refl (length-set (dir.frame_at _ f).cells i _)

pub written-pending : (d : Frames) (o : Option ℕ) (i : ℕ) (word : Word) (m : Lanes) (g : ℕ)
    → (dir.frame_at (written_for d o i word m).frames g).pending ≡ (dir.frame_at d.frames g).pending
unfolding dir.written
written-pending d None i word m g = refl
written-pending d (Some f) i word m g = pending-set _ f g _ refl

written-orders : (d : Frames) (o : Option ℕ) (i : ℕ) (word : Word) (m : Lanes) → (written_for d o i word m).orders ≡ d.orders
written-orders d None i word m = refl
written-orders d (Some f) i word m = refl

written-sound : (ways words : ℕ) (d : Frames) (o : Option ℕ) (i : ℕ) (word : Word) (m : Lanes)
    → ((f : ℕ) → o ≡ Some f → dir.is_held d f ≡ true) → dir.IsSound ways words d → dir.IsSound ways words (written_for d o i word m)
unfolding dir.written
written-sound ways words d None i word m held h = h
written-sound ways words d (Some f) i word m held h =
    whole-kept ways words d f _ h (held f refl) refl (length-set (dir.frame_at d.frames f).cells i _)

pub IsSound-stored : (z : Sizes) (c : Cache) (block i : ℕ) (word : Word) (m : Lanes) → i < z.block_words → IsSound z c
    → IsSound z (written c block i word m)
IsSound-stored z c block i word m l h =
    let o = frame_of c block in
    let k = by_live _ refl in
    let held : (f : ℕ) → o ≡ Some f → dir.is_held c.directory f ≡ true =
    λ f e. ap is_some (frame_of-some c.directory.frames block f e).1 in
    IsSound-like z c _ _ (written-sound _ _ _ o i word m held h.directory) k.2 (written-blocks _ o i word m) (written-pending _ o i word m)
    (written-orders _ o i word m) k.0 k.1 h
  where
    Kept : List Register → Type 0
    Kept rs = ((s : ℕ) → SameKind (register_at c s) (regs.register_at rs s)) × OwesSound z c.ready rs
        × whole.IsSound z.block_words z.regs rs

    by_live : (o : Option ℕ) → live_for c block ≡ o → Kept (noted_for c.registers o i m)
    by_live None e = (λ s. SameKind-self _, h.owes, h.registers)
    by_live (Some t) e = go (field_at c t i).processed refl
      where
        go : (b : Bool) → (field_at c t i).processed ≡ b
            → Kept (if b then c.registers else set c.registers t (regs.noted (register_at c t) i m))
        go true q = (λ s. SameKind-self _, h.owes, h.registers)
        go false q =
            let p = live_for-some _ block t e in
            let n = (h.registers.each t).fields_there (and_parts _ _ p.1).0 in (
              related-set SameKind SameKind-self _ t _ p.0 (SameKind-noted _ i m),
              owes-same z _ _ t _ p.0 (λ x. loads-noted x _ i m (omega arith)) h.owes,
              noted-kept _ _ _ t i m h.registers p.0 p.1 (omega arith) q,
            )

-- what a load that waits needs: its register and the word's field are there, and still expect the word
pub record CanAwait (c : Cache) (i slot : ℕ) : Type 0 where
  pub slot_there : slot < length c.registers
  pub live : is_live (register_at c slot) ≡ true
  pub there : i < length (register_at c slot).fields
  pub expected : regs.expects (register_at c slot) i ≡ true

pub can_await : (z : Sizes) (c : Cache) → IsSound z c → (block i slot : ℕ) → i < z.block_words → found c block i ≡ Coming slot
    → CanAwait c i slot
can_await z c h block i slot l e = grind (arith, live_for-some, in_stack-shown z c slot i h, (h.registers.each slot).fields_there)
