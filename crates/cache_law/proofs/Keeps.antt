-- What holds of the parts still holds once a word has left the stack, and what is owed is told by them.
use Rattle.std.proofs.Common.{◌≡◌, ℕ, ◌+◌, ◌<◌, ◌≤◌, Bool, true, false, cond, ◌==◌, if◌then◌else◌, List, [], ◌∷◌, ◌++◌, length}
use Rattle.std.proofs.Common.{set, refl, arith, Option, Some, None, ap, sym, ◌∙◌, is_some, length-set, ◌-◌, inl, inr, take, slice_get}
use Rattle.std.specs.List.{sum_by, count_by, remove}
use Rattle.std.proofs.lemmas.List.Sums.{sum_by-set, sum_by-cons, sum_by-remove}
use Rattle.flat_model.specs.declared.Word.{Word}
use Rattle.flat_model.specs.Words.{merged}
use Rattle.miss_registers.specs.declared.Owed.{Owed}
use Rattle.miss_registers.proofs.Tags.{count_by-append, count_by-map}
use Rattle.cache_law.specs.declared.Reply.{Reply}
use Rattle.cache_law.specs.declared.Sizes.{Sizes}
use Rattle.cache_law.specs.Steps.{answered, processed, moved, process_step, process_entry, filled_live, settled_if, CanFill}
use Rattle.cache_law.specs.Sound.{loads_of_field, loads_of, owing, OwesSound, HasFrame, no_entry, entry_at, HasInStack, Stands, FilledBy}
use Rattle.cache_law.specs.Sound.{IsSound}
use Rattle.flat_model.specs.declared.Lanes.{Lanes}
use Rattle.input_stack.specs.declared.Entry.{Entry}
use Rattle.cache_law.specs.State.{Cache, register_at, Register, Field, clear_field, free_register, is_live, Frames, Frame}
use Rattle.cache_law.specs.State.{empty_frame}
use Rattle.std.proofs.lemmas.List.{get_or-set_same, get_or-set_other, get_or_past, map-append, take_more}
use Rattle.std.proofs.lemmas.List.Edits.{length-remove, get_or-remove_below, get_or-remove_above}
use Rattle.std.proofs.lemmas.Bool.{false≢true, cases_lt, cases_eq, false_from_ne_true}
use Rattle.std.proofs.lemmas.Option.{none-some, same_Some, slice_get_within, get_or_from_slice_get}
use Rattle.flat_model.specs.declared.limits.TheConstants.{MAX_REPLIES}
use Rattle.flat_model.specs.Places.{is_number}
use Rattle.cache_directory.proofs.Whole.{whole-kept}
use Rattle.miss_registers.proofs.Whole.{finished-kept}
use Rattle.cache_law.proofs.Lists.{list_all-at, read_set, place_of-set, frame_of-some}
use Rattle.miss_registers.specs.Registers.{field_of, finished, finished_fields, finished_field, is_done}
use Rattle.cache_directory.specs.Frames.{settled}
use Rattle.miss_registers.specs.Registers as regs
use Rattle.cache_directory.specs.Frames as dir

-- ---- How many values are owed, by a test of their tags.

-- ---- counts

pub count_by-all : {X : Type 0} (xs : List X) → count_by (λ x. true) xs ≡ length xs
count_by-all [] = refl
count_by-all {X} (x ∷ xs) = omega (arith, sum_by-cons (λ y. cond true 1 0) x xs, count_by-all xs)

-- ---- one register of the list is another

pub owing-set : (p : ℕ → Bool) (ready : List Reply) (rs : List Register) (s : ℕ) (r : Register) → s < length rs
    → owing p ready (set rs s r) + loads_of p (regs.register_at rs s) ≡ owing p ready rs + loads_of p r
owing-set p ready rs s r l = grind (arith, sum_by-set)

pub loads-set : (p : ℕ → Bool) (r : Register) (i : ℕ) (f : Field) → i < length r.fields
    → loads_of p (regs.with_field r i f) + loads_of_field p (field_of r i) ≡ loads_of p r + loads_of_field p f
loads-set p r i f l = sum_by-set _ r.fields i f clear_field l

-- a load waits for a word that is there
pub loads_there : (p : ℕ → Bool) (rs : List Register) (s i : ℕ) → s < length rs → i < length (regs.register_at rs s).fields
    → loads_of_field p (field_of (regs.register_at rs s) i) ≤ sum_by (loads_of p) rs
loads_there p rs s i a b = omega (
  arith,
  sum_by-set (loads_of_field p) (regs.register_at rs s).fields i clear_field clear_field b,
  sum_by-set (loads_of p) rs s free_register free_register a,
)

-- ---- what keeps it within its limits

pub owes_no_more : (z : Sizes) (ready ready' : List Reply) (rs rs' : List Register)
    → ((p : ℕ → Bool) → owing p ready' rs' ≤ owing p ready rs) → OwesSound z ready rs → OwesSound z ready' rs'
owes_no_more z ready ready' rs rs' f h = record { few = grind arith; once = λ tag. omega (arith, f (λ t. t == tag), h.once tag) }

pub owes-remove : (z : Sizes) (ready : List Reply) (rs : List Register) (k : ℕ) (r : Reply) → k < length ready → OwesSound z ready rs
    → OwesSound z (remove ready k) rs
owes-remove z ready rs k r l h =
    owes_no_more z ready _ rs rs (λ p. omega (arith, sum_by-remove (λ r. cond (p r.tag) 1 0) ready k r l)) h

-- ---- a word's loads are answered

pub loads-finished : (p : ℕ → Bool) (r : Register) (i : ℕ) → i < length r.fields
    → loads_of p (finished r i) + loads_of_field p (field_of r i) ≤ loads_of p r
unfolding finished
loads-finished p r i h = grind (arith, loads-set p r i finished_field h)

pub owes-finished : (z : Sizes) (ready : List Reply) (rs : List Register) (s i : ℕ) (word : Word) → s < length rs
    → i < length (regs.register_at rs s).fields → OwesSound z ready rs
    → OwesSound z (ready ++ answered word (field_of (regs.register_at rs s) i).waiting)
    (set rs s (finished (regs.register_at rs s) i))
owes-finished z ready rs s i word a b h =
    let r = regs.register_at rs s in
    owes_no_more z ready _ rs _ (λ p. grind (
      arith,
      owing-set p ready rs s (finished r i) a,
      loads-finished p r i b,
      count_by-append,
      count_by-map,
    )) h

-- ---- a register with the same loads

pub owes-same : (z : Sizes) (ready : List Reply) (rs : List Register) (s : ℕ) (r : Register) → s < length rs
    → ((p : ℕ → Bool) → loads_of p r ≡ loads_of p (regs.register_at rs s)) → OwesSound z ready rs → OwesSound z ready (set rs s r)
owes-same z ready rs s r l f h = owes_no_more z ready ready rs _ (λ p. omega (arith, owing-set p ready rs s r l, f p)) h

-- ---- A word leaves the stack.

-- ---- the directory

pub filled_live-orders : (d : Frames) (live : Option ℕ) (i : ℕ) (word : Word) (keep : Lanes) (last : Bool)
    → (filled_live d live i word keep last).orders ≡ d.orders
unfolding filled_live
filled_live-orders d None i word keep last = refl
filled_live-orders d (Some f) i word keep true = refl
filled_live-orders d (Some f) i word keep false = refl

-- ---- the step

-- what is live of a register that isn't free
abbrev pub live_of : Register → Option ℕ
live_of r = if r.obsolete then None else Some r.frame

-- ---- What holds of the parts still holds once a word has left the stack.

-- ---- one register

live-open : (r : Register) → is_live r ≡ true → r.obsolete ≡ false
live-open r h = grind arith

pub HasInStack-finished : (r : Register) (i j : ℕ) → HasInStack r j → (j ≡ i → ⊥) → HasInStack (finished r i) j
unfolding finished
HasInStack-finished r i j h n = grind (arith, get_or-set_other, length-set, list_all-at, r.fields)

-- ---- the frames

-- the same blocks stand in the same frames
pub record SameBlocks (d d' : List Frame) : Type 0 where
  pub holds : (b : ℕ) → dir.frame_of d' b ≡ dir.frame_of d b
  pub cells : (f : ℕ) → length (dir.frame_at d' f).cells ≡ length (dir.frame_at d f).cells
  pub blocks : (f : ℕ) → (dir.frame_at d' f).block ≡ (dir.frame_at d f).block

pub SameBlocks-set : (d : List Frame) (f : ℕ) (y : Frame) → y.block ≡ (dir.frame_at d f).block
    → length y.cells ≡ length (dir.frame_at d f).cells → SameBlocks d (set d f y)
unfolding dir.frame_of
SameBlocks-set d f y e l = record {
  holds = λ b. place_of-set (λ x. is_number x.block b) empty_frame d f y (ap (λ o. is_number o b) e);
  cells = read_set (λ x. length x.cells) empty_frame d f y l;
  blocks = read_set (λ x. x.block) empty_frame d f y e;
}

SameBlocks-trans : (a b c : List Frame) → SameBlocks a b → SameBlocks b c → SameBlocks a c
SameBlocks-trans a b c p q = grind arith

SameBlocks-settled : (last : Bool) (d : Frames) (f : ℕ) → SameBlocks d.frames (settled_if last d f).frames
unfolding settled
SameBlocks-settled true d f = SameBlocks-set _ f _ refl refl
SameBlocks-settled false d f = grind arith

pub SameBlocks-filled : (d : Frames) (live : Option ℕ) (i : ℕ) (word : Word) (keep : Lanes) (last : Bool)
    → SameBlocks d.frames (filled_live d live i word keep last).frames
unfolding filled_live dir.filled
SameBlocks-filled d None i word keep last = grind arith
SameBlocks-filled d (Some f) i word keep last =
    SameBlocks-trans _ _ _ (SameBlocks-set _ f _ refl (length-set _ i _)) (SameBlocks-settled last (record d { frames = set _ f _ }) f)

-- ---- pending frames

pub pending-set : (fs : List Frame) (f g : ℕ) (y : Frame) → y.pending ≡ (dir.frame_at fs f).pending
    → (dir.frame_at (set fs f y) g).pending ≡ (dir.frame_at fs g).pending
pending-set fs f g y e = read_set (λ x. x.pending) empty_frame fs f y e g

-- a frame that is put in place and isn't pending leaves the others
pub pending_elsewhere : (fs : List Frame) (f g : ℕ) (y : Frame) → y.pending ≡ false → (dir.frame_at (set fs f y) g).pending ≡ true
    → (g ≡ f → ⊥) × ((dir.frame_at fs g).pending ≡ true)
pending_elsewhere fs f g y e h = grind (arith, cases_eq, cases_lt, get_or-set_same, get_or-set_other, get_or_past, length-set)

-- a frame that was pending still is, but for one whose last word has come
pending-filled : (d : Frames) (live : Option ℕ) (i : ℕ) (word : Word) (keep : Lanes) (last : Bool) (g : ℕ)
    → (last ≡ true → live ≡ Some g → ⊥) → (dir.frame_at (filled_live d live i word keep last).frames g).pending
    ≡ (dir.frame_at d.frames g).pending
unfolding filled_live dir.filled settled
pending-filled d None i word keep last g n = refl
pending-filled d (Some f) i word keep false g n = pending-set _ f g _ refl
pending-filled d (Some f) i word keep true g n = grind (arith, get_or-set_other, pending-set)

was_pending : (d : Frames) (live : Option ℕ) (i : ℕ) (word : Word) (keep : Lanes) (last : Bool) (g : ℕ)
    → (dir.frame_at (filled_live d live i word keep last).frames g).pending ≡ true → ((dir.frame_at d.frames g).pending ≡ true) ×
    (last ≡ true → live ≡ Some g → ⊥)
unfolding filled_live dir.filled settled
was_pending d None i word keep last g h = grind arith
was_pending d (Some f) i word keep false g h = (sym (pending-set _ f g _ refl) ∙ h, λ l e. false≢true l)
was_pending d (Some f) i word keep true g h = grind (arith, pending_elsewhere, pending-set, same_Some)

-- two live registers bring the words of two frames
pub frame_apart : (z : Sizes) (c : Cache) (s t : ℕ) → IsSound z c → is_live (register_at c s) ≡ true
    → is_live (register_at c t) ≡ true → (register_at c s).frame ≡ (register_at c t).frame → s ≡ t
frame_apart z c s t h a b e = grind (arith, frame_of-some, h.tied.frames, h.registers.one_live, same_Some)

live_of-some : (o : Bool) (f g : ℕ) → (if o then None else Some f) ≡ Some g → (o ≡ false) × (f ≡ g)
live_of-some true f g e = absurd (none-some g e)
live_of-some false f g e = grind arith

-- one register of the list is put in place of another
pub register_at-set : (P : Register → Type 0) (rs : List Register) (s t : ℕ) (r : Register) → s < length rs → (t ≡ s → P r)
    → ((t ≡ s → ⊥) → P (regs.register_at rs t)) → P (regs.register_at (set rs s r) t)
register_at-set P rs s t r l p q = grind (arith, cases_eq, get_or-set_same, get_or-set_other)

-- ---- the stack

-- the place of an entry before one was taken out
pub record Before (st : List Entry) (k j m : ℕ) : Type 0 where
  pub within : m < length st
  pub other : m ≡ k → ⊥
  pub same : entry_at (remove st k) j ≡ entry_at st m

abbrev pub before : ℕ → ℕ → ℕ
before k j = elim (cases_lt j k) [ inl p ↦ j | inr p ↦ j + 1 ]

pub Before-at : (st : List Entry) (k j : ℕ) → k < length st → j < length (remove st k) → Before st k j (before k j)
Before-at st k j h l = grind (arith, length-remove, cases_lt, get_or-remove_below, get_or-remove_above)

pub before-lt : (k i j : ℕ) → i < j → before k i < before k j
before-lt k i j h = grind arith

-- ---- the whole

pub slot_within : (rs : List Register) (s i : ℕ) → HasInStack (regs.register_at rs s) i → s < length rs
slot_within rs s i h = grind (arith, cases_lt, false≢true, get_or_past)

entry_kept : (rs : List Register) (s i s' i' : ℕ) → s < length rs → HasInStack (regs.register_at rs s') i' → (s' ≡ s → i' ≡ i → ⊥)
    → HasInStack (regs.register_at (set rs s (finished (regs.register_at rs s) i)) s') i'
entry_kept rs s i s' i' l h n =
    register_at-set (λ y. HasInStack y i') rs s s' _ l (λ e. HasInStack-finished _ i i' (rw e at h) (n e)) (λ e. h)

-- one register of a list is another: what is live was live, for the same block and frame
pub record Since (r r' : Register) : Type 0 where
  pub live : is_live r ≡ true
  pub block : r'.block ≡ r.block
  pub frame : r'.frame ≡ r.frame
  pub count : length r'.fields ≡ length r.fields

pub live_before : (rs : List Register) (s t : ℕ) (r : Register) → s < length rs
    → (is_live r ≡ true → Since (regs.register_at rs s) r) → is_live (regs.register_at (set rs s r) t) ≡ true
    → Since (regs.register_at rs t) (regs.register_at (set rs s r) t)
live_before rs s t r l f h = grind (arith, cases_eq, get_or-set_same, get_or-set_other)

finished-since : (r : Register) (i : ℕ) → is_live (finished r i) ≡ true → Since r (finished r i)
unfolding finished
finished-since r i h = grind (arith, length-set, r.fields)

finished-last : (r : Register) (i : ℕ) → is_live (finished r i) ≡ true → is_done (finished_fields r i) ≡ false
unfolding finished
finished-last r i h = grind arith

finished-still : (r : Register) (i : ℕ) → is_done (finished_fields r i) ≡ false → is_live r ≡ true
    → (is_live (finished r i) ≡ true) × ((finished r i).frame ≡ r.frame)
unfolding finished
finished-still r i e l = grind arith

HasFrame-since : (d d' : List Frame) (r r' : Register) → Since r r' → SameBlocks d d'
    → (dir.frame_at d' r.frame).pending ≡ (dir.frame_at d r.frame).pending → HasFrame d r → HasFrame d' r'
HasFrame-since d d' r r' w s p h = grind arith

Stands-remove : (st : List Entry) (k s i : ℕ) → k < length st → (h : Stands st s i) → (h.place ≡ k → ⊥) → Stands (remove st k) s i
Stands-remove st k s i l h n =
    let z = length-remove st k l in
    elim (cases_lt h.place k) [
      | inl p ↦ (
          let e = get_or-remove_below st k no_entry h.place p l in
          record { place = h.place; within = omega (arith, z); slot = rw e h.slot; word = rw e h.word })
      | inr p ↦ (
          let q : k < h.place = omega arith in
          let w : (h.place - 1) + 1 ≡ h.place = omega arith in
          let e : entry_at _ (h.place - 1) ≡ entry_at st h.place = get_or-remove_above st k no_entry (h.place - 1) (omega arith) l
          ∙ rw w refl in
          record { place = h.place - 1; within = grind arith; slot = rw e h.slot; word = rw e h.word })
    ]

-- a word that is still marked is another one, and was marked
marked-finished : (r : Register) (i j : ℕ) → i < length r.fields → (field_of (finished r i) j).in_stack ≡ true
    → (j ≡ i → ⊥) × ((field_of r j).in_stack ≡ true)
unfolding finished
marked-finished r i j l h = grind (arith, cases_eq, false≢true, get_or-set_same, r.fields, get_or-set_other)

mark_kept : (rs : List Register) (st : List Entry) (k s i s' i' : ℕ) → k < length st → s < length rs
    → i < length (regs.register_at rs s).fields → (entry_at st k).slot ≡ s → (entry_at st k).i ≡ i
    → ((t j : ℕ) → (field_of (regs.register_at rs t) j).in_stack ≡ true → Stands st t j)
    → (field_of (regs.register_at (set rs s (finished (regs.register_at rs s) i)) s') i').in_stack ≡ true → Stands (remove st k) s' i'
mark_kept rs st k s i s' i' p l t a b f =
    register_at-set (λ y. (field_of y i').in_stack ≡ true → Stands (remove st k) s' i') rs s s' _ l
    (λ e h. let m = marked-finished (regs.register_at rs s) i i' t h in
    let w = f s i' m.1 in rw e (Stands-remove st k s i' p w (λ z. m.0 (cc (w.word, z, b)))))
    (λ e h. let w = f s' i' h in Stands-remove st k s' i' p w (λ z. e (cc (w.slot, z, a))))

-- a frame that is filled still holds its block
pub held-filled : (d : Frames) (f i : ℕ) (word : Word) (keep : Lanes) → dir.is_held d f ≡ true
    → dir.is_held (dir.with_frame d f (dir.filled (dir.frame_at d.frames f) i word keep)) f ≡ true
unfolding dir.filled
held-filled d f i word keep h = ap is_some (read_set (λ x. x.block) empty_frame _ f _ refl f) ∙ h

pub sound-filled : (ways words : ℕ) (d : Frames) (live : Option ℕ) (i : ℕ) (word : Word) (keep : Lanes) (last : Bool)
    → CanFill d live i → dir.IsSound ways words d → dir.IsSound ways words (filled_live d live i word keep last)
unfolding filled_live dir.filled settled
sound-filled ways words d None i word keep last can h = h
sound-filled ways words d (Some f) i word keep last can h =
    let g = whole-kept ways words d f _ h can.0 refl (length-set (dir.frame_at d.frames f).cells i _) in
    elim last as (λ b. dir.IsSound ways words (settled_if b (dir.with_frame d f (dir.filled (dir.frame_at d.frames f) i word keep)) f)) [
      | true ↦ whole-kept ways words _ f _ g (held-filled d f i word keep can.0) refl refl
      | false ↦ g
    ]

-- the entry that was taken out
pub record Taken (st : List Entry) (k : ℕ) (e : Entry) : Type 0 where
  pub within : k < length st
  pub same : entry_at st k ≡ e

pub Taken-from : (st : List Entry) (k : ℕ) (e : Entry) → slice_get st k ≡ Some e → Taken st k e
Taken-from st k e h = record { within = slice_get_within st k e h; same = get_or_from_slice_get st k e no_entry h }

-- the word of that entry is processed
module _ (z : Sizes) (c : Cache) (h : IsSound z c) (k : ℕ) (e : Entry) (t : Taken c.stack k e) where
  abbrev r : Register
  r = register_at c e.slot

  abbrev last : Bool
  last = is_done (finished_fields r e.i)

  abbrev pub d_processed : Lanes → Frames
  d_processed keep = filled_live c.directory (live_of r) e.i e.word keep last

  abbrev pub rs_processed : List Register
  rs_processed = set c.registers e.slot (finished r e.i)

  abbrev pub processed_parts : Lanes → Cache
  processed_parts keep = record c {
    directory = d_processed keep;
    registers = rs_processed;
    stack = remove c.stack k;
    ready = c.ready ++ answered e.word (field_of r e.i).waiting;
  }

  own_entry : HasInStack r e.i
  own_entry = rw t.same at (h.stack_sound.entries k t.within)

  slot_there : e.slot < length c.registers
  slot_there = slot_within _ e.slot e.i own_entry

  -- ---- what the calls need, and what the parts show then

  pub can_finish : (e.slot < length c.registers) × ((field_of r e.i).in_stack ≡ true)
  can_finish = (slot_there, own_entry.marked)

  pub can_fill : CanFill c.directory (live_of r) e.i
  can_fill = grind (arith, own_entry)

  pub can_answer : z.replies ≤ MAX_REPLIES → length c.ready + length (field_of r e.i).waiting ≤ MAX_REPLIES
  can_answer few = grind (arith, slot_there, own_entry, loads_there, count_by-all, c.ready)

  pub shown_after : processed_parts (field_of r e.i).code ≡ processed c k e
  unfolding processed
  shown_after = grind (arith, own_entry, h.tied.frames, register_at)

  -- ---- what still holds

  -- no other entry is for the same word
  other_word : (m : ℕ) → m < length c.stack → (m ≡ k → ⊥) → (entry_at c.stack m).slot ≡ e.slot → (entry_at c.stack m).i ≡ e.i → ⊥
  other_word m o n a b = grind arith

  since : (s : ℕ) → is_live (regs.register_at rs_processed s) ≡ true → Since (register_at c s) (regs.register_at rs_processed s)
  since s = live_before _ e.slot s _ slot_there (finished-since r e.i)

  own : regs.register_at rs_processed e.slot ≡ finished r e.i
  own = get_or-set_same _ e.slot _ free_register slot_there

  -- where the last word comes, no other live register has the frame, and its own is free
  not_settled : (s : ℕ) → is_live (regs.register_at rs_processed s) ≡ true → last ≡ true → live_of r ≡ Some (register_at c s).frame → ⊥
  not_settled s l q w = grind (arith, live_of-some, frame_apart z c e.slot s h, since s l, own, false≢true, finished-last r e.i)

  module _ (keep : Lanes) where
    frames_kept : (s : ℕ) → is_live (regs.register_at rs_processed s) ≡ true
        → HasFrame (d_processed keep).frames (regs.register_at rs_processed s)
    frames_kept s l =
        let w = since s l in
        HasFrame-since _ _ _ _ w (SameBlocks-filled _ _ e.i e.word keep last)
        (pending-filled _ _ e.i e.word keep last (register_at c s).frame (not_settled s l)) (h.tied.frames s w.live)

    pending_kept : (f : ℕ) → (dir.frame_at (d_processed keep).frames f).pending ≡ true → FilledBy rs_processed f
    pending_kept f t =
        let b = was_pending _ _ e.i e.word keep last f t in
        let w = h.tied.pending f b.0 in
        let q = register_at-set (λ y. (is_live y ≡ true) × (y.frame ≡ f)) _ e.slot w.slot (finished r e.i) slot_there
        (λ x. let live : is_live r ≡ true = rw x at w.live in
        let frame : r.frame ≡ f = rw x at w.frame in
        let few = false_from_ne_true last (λ t. b.1 t (rw (live-open r live) (ap Some frame))) in
        let s = finished-still r e.i few live in (s.0, s.1 ∙ frame)) (λ n. (w.live, w.frame)) in
        record { slot = w.slot; live = q.0; frame = q.1 }

    pub IsSound-processed : IsSound z (processed_parts keep)
    IsSound-processed = record {
      some_words = h.some_words;
      whole_blocks = h.whole_blocks;
      some_sets = h.some_sets;
      directory = sound-filled _ _ c.directory (live_of r) e.i e.word keep last can_fill h.directory;
      sets = ap length (filled_live-orders _ _ e.i e.word keep last) ∙ h.sets;
      in_memory = λ f block t. h.in_memory f block (sym ((SameBlocks-filled _ _ e.i e.word keep last).blocks f) ∙ t);
      registers = finished-kept _ _ c.registers e.slot e.i h.registers slot_there own_entry.marked;
      stack_sound = record {
        entries = λ j l. (
            let b = Before-at _ k j t.within l in
            rw b.same (entry_kept _ e.slot e.i _ _ slot_there (h.stack_sound.entries _ b.within) (other_word _ b.within b.other)));
        distinct = λ i j l m a b. (
            let bi = Before-at _ k i t.within (omega arith) in
            let bj = Before-at _ k j t.within m in
            h.stack_sound.distinct _ _ (before-lt k i j l) bj.within (cc (bi.same, bj.same, a)) (cc (bi.same, bj.same, b)));
        marks = λ s i. mark_kept _ _ k e.slot e.i s i t.within slot_there own_entry.there (ap (λ x. x.slot) t.same) (ap (λ x. x.i) t.same)
            h.stack_sound.marks;
      };
      tied = record { frames = frames_kept; pending = pending_kept };
      queue_sound = h.queue_sound;
      owes = owes-finished z _ _ e.slot e.i e.word slot_there own_entry.there h.owes;
    }

-- the reply that a load gets
abbrev pub reply_to : Word → Owed → Reply
reply_to word w = record { tag = w.tag; word = merged word w.held w.lanes }

pub answered_more : (word : Word) (ws : List Owed) (k : ℕ) (o : Owed) → slice_get ws k ≡ Some o
    → answered word (take (k + 1) ws) ≡ answered word (take k ws) ++ reply_to word o ∷ []
answered_more word ws k o e =
    grind (arith, take_more ws k o, slice_get_within, map-append, get_or_from_slice_get)

pub processes : (c : Cache) (place : ℕ) (e : Entry) → slice_get c.stack place ≡ Some e → process_step c place ≡ moved (processed c place e)
unfolding process_step
processes c place e some = ap (process_entry c place) some
