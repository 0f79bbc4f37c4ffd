-- A word of the stack is processed.
use Rattle.std.proofs.Common.{◌≡◌, ℕ, suc, ◌+◌, ◌<◌, Bool, true, false, cond, ◌&&◌, List, [], ◌∷◌, ◌++◌, map, length}
use Rattle.std.proofs.Common.{get_or, set, Option, Some, None, option_map, find, remove, slice_get, refl, sym, ap, ap₂, ◌∙◌, arith}
use Rattle.std.proofs.Common.{length-set, ◌⊎◌, inl, inr, ⊎_elim, eqb-true, eq-eqb, mod-lt, get_or-set_same, get_or-set_other, ltb-true}
use Rattle.std.specs.List.{list_all}
use Rattle.std.proofs.lemmas.Bool.{cases_eq, cases_Bool, and_parts, false_from_ne_true}
use Rattle.std.proofs.lemmas.List.{map-append}
use Rattle.flat_model.specs.declared.Word.{Word}
use Rattle.flat_model.specs.Words.{merged}
use Rattle.flat_model.specs.declared.Lanes.{Lanes}
use Rattle.input_stack.specs.declared.Entry.{Entry}
use Rattle.input_stack.specs.Stack.{stack_word}
use Rattle.miss_registers.specs.declared.Owed.{Owed}
use Rattle.cache_directory.specs.declared.Cell.{Cell}
use Rattle.cache_law.specs.declared.Sizes.{Sizes}
use Rattle.cache_directory.specs.Frames.{zero_cell, settled}
use Rattle.cache_law.specs.State.{Frame, Field, Register, Cache, empty_frame, clear_field, free_register, frame_at, frame_of, register_at}
use Rattle.cache_law.specs.State.{field_at, is_live, live_for, cell_in, cell_of, gathered, targets_of, targets_of_field, targets}
use Rattle.cache_law.specs.State.{block_of, place_in}
use Rattle.miss_registers.specs.Registers.{finished, finished_field, finished_fields, is_done}
use Rattle.cache_law.specs.Steps.{answered, frame_for, settled_if, filled_live, processed, process_step}
use Rattle.cache_law.specs.Forms.{bytes_of, missing_form, over_form, owed}
use Rattle.cache_law.specs.FormLaws.{form_at, forms, SameForms}
use Rattle.cache_law.specs.Sound.{IsSound}
use Rattle.cache_law.proofs.Tags.{HasWord, has_word, entries_apart, owed_once}
use Rattle.cache_law.specs.Counts.{tally}
use Rattle.cache_law.proofs.Lists.{list_all-at, read_set, Adds, Adds-find_other, Adds-remove, find-only, gathered_part, in_range}
use Rattle.cache_law.proofs.Lists.{nested_same}
use Rattle.cache_law.proofs.Lists.{nested_other, find_swapped, targets_map, WordPart, word_part, frame_of-some}
use Rattle.cache_law.proofs.Lists.{live_for-some, live_for-is, with_fields, with_field_in, same_at, field_elsewhere}
use Rattle.cache_law.proofs.Lists.{field_here, frame-stays, live-stays, live-goes, serves, is_entry, waits_for}
use Rattle.cache_law.proofs.FormsEvents.{form_at-same, form_at-live, form_at-resident, form_at-absent, Due, due_ready, due_to, dues}
use Rattle.cache_law.proofs.FormsEvents.{has_tag, due_in, owed-due, dues-tally, forms-from}
use Rattle.cache_law.proofs.FormsWords.{bytes-merged, with_cells}
use Rattle.cache_directory.specs.Frames as dir

abbrev pub done : Field
done = finished_field

pub all_processed : (fields : List Field) → list_all (λ f. f.processed) fields ≡ true → (j : ℕ) → j < length fields
    → (get_or fields j clear_field).processed ≡ true
all_processed fields h j l = list_all-at (λ f. f.processed) fields j clear_field h l

pub no_targets : (slot n : ℕ) (fields : List Field) → list_all (λ f. f.processed) fields ≡ true
    → gathered (targets_of_field slot) n fields ≡ []
no_targets slot n [] h = refl
no_targets slot n (f ∷ fields) h = grind (arith, no_targets slot (suc n) fields)

-- the word's bytes outside the code
abbrev filled_cell : Entry → Cell → Lanes → Cell
filled_cell e cell code = record { word = merged e.word cell.word code; dirty = cell.dirty }

-- a word that has come to the buffer: its form is the buffer's bytes
pub record HasCome (z : Sizes) (c d : Cache) (at : ℕ) : Type 0 where
  pub dirty : (cell_of d (block_of z at) (place_in z at)).dirty ≡ (cell_of c (block_of z at) (place_in z at)).dirty
  pub form : form_at z d at ≡ Some (bytes_of (cell_of d (block_of z at) (place_in z at)).word)

-- the unit once the word of this entry is processed
pub record ProcessedBy (z : Sizes) (c : Cache) (place : ℕ) (e : Entry) (d : Cache) : Type 0 where
  pub same_forms : forms z d ≡ forms z c
  -- the register no longer waits for this word, and the others wait for what they did
  pub own : waits_for z d e.slot e.i ≡ false
  pub others : (t j : ℕ) → (t ≡ e.slot → j ≡ e.i → ⊥) → waits_for z d t j ≡ waits_for z c t j
  pub cells : (at : ℕ) → (cell_of d (block_of z at) (place_in z at) ≡ cell_of c (block_of z at) (place_in z at)) ⊎ HasCome z c d at
  pub stack : d.stack ≡ remove c.stack place
  pub queue : d.queue ≡ c.queue

never : (a b : Bool) → (a && (b && false)) ≡ false
never true true = refl
never true false = refl
never false b = refl

-- how the buffer is filled by a word
record Filling (c : Cache) (e : Entry) (frames : List Frame) : Type 0 where
  pub stays : (d : Cache) → d.directory.frames ≡ frames → (b : ℕ) → frame_of d b ≡ frame_of c b
  pub others : (k j : ℕ) → (is_live (register_at c e.slot) ≡ true → (frame_at c k).block ≡ Some (register_at c e.slot).block → j ≡ e.i
      → ⊥) → get_or (get_or frames k empty_frame).cells j zero_cell ≡ get_or (frame_at c k).cells j zero_cell
  pub here : is_live (register_at c e.slot) ≡ true → (k : ℕ) → frame_of c (register_at c e.slot).block ≡ Some k
      → get_or (get_or frames k empty_frame).cells e.i zero_cell
      ≡ filled_cell e (get_or (frame_at c k).cells e.i zero_cell) (field_at c e.slot e.i).code

-- filling changes the frames alone
filled_live-frames : (d : dir.Frames) (o : Option ℕ) (i : ℕ) (w : Word) (keep : Lanes) (last : Bool)
    → filled_live d o i w keep last ≡ record d { frames = (filled_live d o i w keep last).frames }
unfolding filled_live
filled_live-frames d None i w keep last = refl
filled_live-frames d (Some f) i w keep true = refl
filled_live-frames d (Some f) i w keep false = refl

module _ (z : Sizes) (c : Cache) (h : IsSound z c) (place : ℕ) (e : Entry) (found : slice_get c.stack place ≡ Some e) where
  abbrev reg : Register
  reg = register_at c e.slot

  abbrev fld : Field
  fld = field_at c e.slot e.i

  waits : HasWord z c e
  waits = has_word z c h place e found

  slot_there : e.slot < length c.registers
  slot_there = in_range (λ r. r.valid) free_register _ e.slot refl waits.valid

  field_there : e.i < length reg.fields
  field_there = rw (sym ((h.registers.each e.slot).fields_there waits.valid)) at waits.there

  -- ---- the stack

  less_stack : Adds e (remove c.stack place) c.stack
  less_stack = Adds-remove e _ place found

  comes : stack_word c.stack e.slot e.i ≡ Some e.word
  unfolding stack_word
  comes = grind (arith, find-only, eq-eqb, and_parts, eqb-true, entries_apart z c h)

  other_word : (t j : ℕ) → (t ≡ e.slot → j ≡ e.i → ⊥) → stack_word (remove c.stack place) t j ≡ stack_word c.stack t j
  unfolding stack_word
  other_word t j n = ap (option_map (λ x. x.word)) (sym (Adds-find_other _ e _ _ less_stack (false_from_ne_true _ differs)))
    where
      differs : is_entry t j e ≡ true → ⊥
      differs k = grind arith

  -- ---- the registers: with the word processed, and free where all words are

  abbrev worked : Register
  worked = with_fields reg (set reg.fields e.i done)

  abbrev registers1 : List Register
  registers1 = with_field_in c.registers e.slot e.i done

  abbrev registers2 : List Register
  registers2 = set c.registers e.slot free_register

  abbrev AllDone : Type 0
  AllDone = list_all (λ f. f.processed) (set reg.fields e.i done) ≡ true

  other_field : (t j : ℕ) → (t ≡ e.slot → j ≡ e.i → ⊥) → get_or (get_or registers1 t free_register).fields j clear_field ≡ field_at c t j
  other_field = field_elsewhere _ e.slot e.i done

  own_field : get_or (get_or registers1 e.slot free_register).fields e.i clear_field ≡ done
  own_field = field_here _ e.slot e.i done slot_there field_there

  -- the other words of a register whose words are all processed
  done_before : AllDone → (j : ℕ) → j < z.block_words → (j ≡ e.i → ⊥) → (field_at c e.slot j).processed ≡ true
  done_before all j l n =
      grind (arith, get_or-set_other, all_processed, length-set, (h.registers.each e.slot).fields_there waits.valid)

  done_now : AllDone → (j : ℕ) → j < z.block_words
      → (get_or (get_or registers1 e.slot free_register).fields j clear_field).processed ≡ true
  done_now all j l =
      grind (arith, get_or-set_same, slot_there, all_processed, length-set, (h.registers.each e.slot).fields_there waits.valid)

  targets2 : AllDone → targets registers2 ≡ targets registers1
  unfolding targets
  targets2 all =
      let p = gathered_part targets_of free_register 0 _ e.slot slot_there in
      cc (
        p.then free_register,
        ap (λ x. cond x (gathered (targets_of_field (0 + e.slot)) 0 (set reg.fields e.i done)) []) waits.valid
            ∙ no_targets _ 0 (set reg.fields e.i done) all,
        p.then worked,
      )

  -- ---- the unit after the turn

  module _ (frames : List Frame) (filling : Filling c e frames) where
    abbrev turned : List Register → Cache
    turned registers = record {
      directory = record c.directory { frames = frames };
      registers = registers;
      stack = remove c.stack place;
      queue = c.queue;
      ready = c.ready ++ answered e.word fld.waiting;
    }

    -- this address has the word
    abbrev IsHit : ℕ → Type 0
    IsHit at = (is_live reg ≡ true) × (reg.block ≡ block_of z at) × (e.i ≡ place_in z at)

    hit_or_not : (at : ℕ) → IsHit at ⊎ (IsHit at → ⊥)
    hit_or_not at = grind arith

    cell_other : (registers : List Register) (at : ℕ) → (IsHit at → ⊥)
        → cell_of (turned registers) (block_of z at) (place_in z at) ≡ cell_of c (block_of z at) (place_in z at)
    cell_other registers at n = cc (filling.stays (turned registers) refl _, go _ refl)
      where
        go : (o : Option ℕ) → frame_of c (block_of z at) ≡ o → cell_in (turned registers) o (place_in z at) ≡ cell_in c o (place_in z at)
        go None k = refl
        go (Some f) k = grind (arith, frame_of-some)

    -- ---- the word itself

    hit_frame : (at : ℕ) → IsHit at → (k : ℕ) × (frame_of c (block_of z at) ≡ Some k)
    hit_frame at hit = (reg.frame, ap (frame_of c) (sym hit.1) ∙ (h.tied.frames e.slot hit.0).holds)

    hit_live : (at : ℕ) → IsHit at → live_for c (block_of z at) ≡ Some e.slot
    hit_live at hit = live_for-is c _ e.slot h.registers.one_live hit.0 hit.1

    hit_word : (at : ℕ) → IsHit at → Word
    hit_word at hit = merged e.word (cell_in c (Some (hit_frame at hit).0) e.i).word fld.code

    hit_before : (at : ℕ) (hit : IsHit at) → form_at z c at ≡ Some (bytes_of (hit_word at hit))
    unfolding hit_word
    hit_before at hit =
        let k = hit_frame at hit in
        let buffer = (cell_in c (Some k.0) e.i).word in
        cc (
          form_at-live z c at k.0 e.slot e.i k.1 (hit_live at hit) (sym hit.2),
          waits.waits,
          comes,
          ap Some (sym (bytes-merged e.word buffer fld.code)),
        )

    hit_cell : (registers : List Register) (at : ℕ) (hit : IsHit at)
        → (cell_in (turned registers) (Some (hit_frame at hit).0) e.i).word ≡ hit_word at hit
    unfolding hit_word
    hit_cell registers at hit = grind arith

    -- ---- the words, while the register stays

    live1 : (b : ℕ) → live_for (turned registers1) b ≡ live_for c b
    live1 b = live-stays c (turned registers1) e.slot worked b refl refl

    words1 : (at : ℕ) → form_at z (turned registers1) at ≡ form_at z c at
    words1 at = ⊎_elim at_hit elsewhere (hit_or_not at)
      where
        at_hit : IsHit at → form_at z (turned registers1) at ≡ form_at z c at
        at_hit hit =
            let k = hit_frame at hit in
            let live = form_at-live z (turned registers1) at k.0 e.slot e.i (filling.stays (turned registers1) refl _ ∙ k.1)
            (live1 _ ∙ hit_live at hit) (sym hit.2) in
            cc (live, own_field, hit_cell registers1 at hit, hit_before at hit)

        elsewhere : (IsHit at → ⊥) → form_at z (turned registers1) at ≡ form_at z c at
        elsewhere n = form_at-same z c _ at (filling.stays (turned registers1) refl _) (live1 _)
            (ap (λ x. x.word) (cell_other registers1 at n)) (λ t k.
            let differs : t ≡ e.slot → place_in z at ≡ e.i → ⊥ = grind (arith, live_for-some c _ t k, n) in
            grind (arith, other_field t _ differs, other_word t _ differs))

    -- ---- the words, where the register is free

    words2 : AllDone → (at : ℕ) → form_at z (turned registers2) at ≡ form_at z c at
    words2 all at = ⊎_elim own other (cases_Bool _)
      where
        own : serves (block_of z at) reg ≡ true → form_at z (turned registers2) at ≡ form_at z c at
        own s = frames_of _ refl
          where
            p : (is_live reg ≡ true) × (reg.block ≡ block_of z at)
            p = grind arith

            gone : live_for (turned registers2) (block_of z at) ≡ None
            gone = live-goes c (turned registers2) e.slot free_register _ refl slot_there refl
                (λ t l b. h.registers.one_live t e.slot l p.0 (b ∙ sym p.1))

            before : live_for c (block_of z at) ≡ Some e.slot
            before = live_for-is c _ e.slot h.registers.one_live p.0 p.1

            frames_of : (o : Option ℕ) → frame_of c (block_of z at) ≡ o → form_at z (turned registers2) at ≡ form_at z c at
            frames_of None q = form_at-absent z _ at (filling.stays (turned registers2) refl _ ∙ q) ∙ sym (form_at-absent z c at q)
            frames_of (Some k) q =
                let there = filling.stays (turned registers1) refl (block_of z at) ∙ q in
                cc (
                  form_at-resident z (turned registers2) at k (filling.stays (turned registers2) refl _ ∙ q) gone,
                  done_now all (place_in z at) (mod-lt at h.some_words),
                  form_at-live z (turned registers1) at k e.slot _ there (live1 _ ∙ before) refl,
                  words1 at,
                )

        other : serves (block_of z at) reg ≡ false → form_at z (turned registers2) at ≡ form_at z c at
        other s = form_at-same z c _ at (filling.stays (turned registers2) refl _)
            (live-stays c (turned registers2) e.slot free_register _ refl (sym s))
            (ap (λ x. x.word) (cell_other registers2 at not_hit)) (λ t k.
            let l = live_for-some c _ t k in
            let far : t ≡ e.slot → ⊥ = λ q. not_here (cc (q, l.0))
            (cc (q, l.1)) in
            let same = get_or-set_other _ e.slot t free_register free_register far in (
              ap (λ r. (get_or r.fields (place_in z at) clear_field).processed) same,
              ap
                  (λ r. (get_or r.fields (place_in z at) clear_field).code) same,
              other_word t _ (λ a b. far a),
            ))
          where
            not_here : is_live reg ≡ true → reg.block ≡ block_of z at → ⊥
            not_here l b = grind arith

            not_hit : IsHit at → ⊥
            not_hit hit = not_here hit.0 hit.1

    -- ---- what is owed

    part : WordPart c.registers e.slot e.i fld
    part = word_part _ e.slot e.i waits.valid field_there

    abbrev seg : List Due
    seg = map due_ready (answered e.word fld.waiting)

    seg_is : map (due_to c.stack) (targets_of_field e.slot e.i fld) ≡ seg
    seg_is = cc (waits.waits, go fld.waiting)
      where
        one : (w : Owed) → over_form w.lanes w.held (missing_form (stack_word c.stack e.slot e.i) e.slot e.i)
            ≡ bytes_of (merged e.word w.held w.lanes)
        one w = cc (comes, bytes-merged e.word w.held w.lanes)

        go : (ws : List Owed) → map (due_to c.stack) (map (λ w. record { slot = e.slot; i = e.i; load = w }) ws)
            ≡ map due_ready (answered e.word ws)
        go [] = refl
        go (w ∷ ws) = cc (one w, go ws)

    front : List Due
    front = map (due_to c.stack) part.front

    back : List Due
    back = map (due_to c.stack) part.back

    dues_before : dues c ≡ map due_ready c.ready ++ (front ++ (seg ++ back))
    unfolding dues front back
    dues_before = grind (arith, due_ready, due_to, map-append, seg_is)

    targets1 : targets registers1 ≡ part.front ++ part.back
    targets1 = part.then worked done waits.valid refl

    same_dues : map (due_to (remove c.stack place)) (targets registers1) ≡ map (due_to c.stack) (targets registers1)
    same_dues = targets_map _ _ registers1 (λ t j w v p. (cc (other_word t j (λ a b. grind (arith, own_field)))))

    dues_after : (registers : List Register) → targets registers ≡ targets registers1
        → dues (turned registers) ≡ (map due_ready c.ready ++ seg) ++ (front ++ back)
    unfolding dues front back
    dues_after registers same = grind (arith, map-append, due_ready, same_dues, targets1)

    owed_same : (registers : List Register) → targets registers ≡ targets registers1 → (tag : ℕ) → owed (turned registers) tag ≡ owed c tag
    unfolding due_in
    owed_same registers same tag =
        let count = dues-tally c tag in
        let one = owed_once z c h tag in
        let n = ap (tally (has_tag tag)) (sym dues_before) in
        cc (
          owed-due (turned registers) tag,
          ap (find _) (dues_after registers same)
              ∙ find_swapped (has_tag tag) (map due_ready c.ready) seg front back (omega arith) ∙ sym (ap (find _) dues_before),
          owed-due c tag,
        )

    -- ---- what is waited for

    own1 : waits_for z (turned registers1) e.slot e.i ≡ false
    own1 = grind (arith, own_field, never)

    waits1 : (t j : ℕ) → (t ≡ e.slot → j ≡ e.i → ⊥) → waits_for z (turned registers1) t j ≡ waits_for z c t j
    waits1 t j n = cc (same_at _ e.slot e.i done (λ r. r.valid) refl t, other_field t j n)

    own2 : (j : ℕ) → waits_for z (turned registers2) e.slot j ≡ false
    own2 j = grind (arith, get_or-set_same, slot_there)

    waits2 : AllDone → (t j : ℕ) → (t ≡ e.slot → j ≡ e.i → ⊥) → waits_for z (turned registers2) t j ≡ waits_for z c t j
    waits2 all t j n = grind (arith, get_or-set_other, cases_eq, done_before, ltb-true, never, waits_for, own2)

    -- ---- the cells

    cells : (registers : List Register) (at : ℕ) → form_at z (turned registers) at ≡ form_at z c at
        → (cell_of (turned registers) (block_of z at) (place_in z at) ≡ cell_of c (block_of z at) (place_in z at)) ⊎ HasCome z c
        (turned registers) at
    unfolding hit_word
    cells registers at same = ⊎_elim come (λ n. inl (cell_other registers at n)) (hit_or_not at)
      where
        come : IsHit at → (cell_of (turned registers) (block_of z at) (place_in z at)
            ≡ cell_of c (block_of z at) (place_in z at)) ⊎ HasCome z c (turned registers) at
        come hit =
            let k = hit_frame at hit in
            let here = filling.here hit.0 k.0 (cc (hit.1, k.1)) in
            let cell = ap₂ (λ o j. cell_in (turned registers) o j) (filling.stays (turned registers) refl _ ∙ k.1) (sym hit.2) ∙ here in
            inr (record { dirty = grind arith; form = cc (same, hit_before at hit, cell) })

    -- ---- both cases

    turned_by : ProcessedBy z c place e (turned (set c.registers e.slot (finished reg e.i)))
    unfolding finished
    turned_by = go (list_all (λ f. f.processed) (set reg.fields e.i done)) refl
      where
        by : (registers : List Register) → ((at : ℕ) → form_at z (turned registers) at ≡ form_at z c at)
            → targets registers ≡ targets registers1 → waits_for z (turned registers) e.slot e.i ≡ false
            → ((t j : ℕ) → (t ≡ e.slot → j ≡ e.i → ⊥) → waits_for z (turned registers) t j ≡ waits_for z c t j)
            → ProcessedBy z c place e (turned registers)
        by registers words same own others = grind (arith, forms-from, owed_same, cells)

        go : (b : Bool) → list_all (λ f. f.processed) (set reg.fields e.i done) ≡ b
            → ProcessedBy z c place e (turned (set c.registers e.slot (cond b free_register worked)))
        go true all = by registers2 (words2 all) (targets2 all) (own2 e.i) (waits2 all)
        go false all = by registers1 words1 refl own1 waits1

  -- ---- the buffer is filled

  -- a frame that is no longer pending has the words that it had
  settled_filling : (frames : List Frame) → Filling c e frames → (b : Bool) (f : ℕ)
      → Filling c e (settled_if b (record c.directory { frames = frames }) f).frames
  unfolding settled
  settled_filling frames h false f = h
  settled_filling frames h true f =
      let d = record c { directory = record c.directory { frames = frames } } in
      let new = settled (get_or frames f empty_frame) in
      let read = λ (k j : ℕ). read_set (λ x. get_or x.cells j zero_cell) empty_frame frames f new refl k in
      record {
        stays = λ x ex b. frame-stays d x f new b ex refl ∙ h.stays d refl b;
        others = grind arith;
        here = grind arith;
      }

  frames_then : List Frame
  frames_then = (filled_live c.directory (frame_for c reg) e.i e.word fld.code (is_done (finished_fields reg e.i))).frames

  filling_then : Filling c e frames_then
  unfolding frames_then filled_live dir.filled dir.frame_of
  filling_then = go _ refl _ refl
    where
      unfilled : (is_live reg ≡ true → (k : ℕ) → frame_of c reg.block ≡ Some k → ⊥) → Filling c e c.directory.frames
      unfilled impossible = grind arith

      go : (b : Bool) → is_live reg ≡ b → (o : Option ℕ) → frame_of c reg.block ≡ o
          → Filling c e (filled_live c.directory (cond b o None) e.i e.word fld.code (is_done (finished_fields reg e.i))).frames
      go false l o q = unfilled (λ l' k p. cc)
      go true l None q = unfilled (λ l' k p. cc)
      go true l (Some f) q =
          let at_f = frame_of-some c.directory.frames reg.block f q in
          let whole = h.directory.cells f reg.block at_f.1 in
          let cell = get_or (frame_at c f).cells e.i zero_cell in
          let cell' : Cell = record { word = merged e.word cell.word fld.code; dirty = cell.dirty } in
          let w = waits.there in
          let room : e.i < length (frame_at c f).cells = omega arith in
          settled_filling (set c.directory.frames f (with_cells (frame_at c f) (set (frame_at c f).cells e.i cell'))) (record {
            stays = λ d ed b. frame-stays c d f _ b ed refl;
            others = λ k j n. nested_other (λ x. x.cells) with_cells
                (λ x ys. refl) empty_frame zero_cell _ f e.i k j cell' (λ p r. n l (cc (p, at_f.1)) r);
            here = λ l' k p. (cc (nested_same (λ x. x.cells) with_cells
                (λ x ys. refl) empty_frame zero_cell c.directory.frames f e.i cell' at_f.0 room));
          }) _ f

  after : Cache → Cache
  after d = record d {
    stack = remove c.stack place;
    ready = c.ready ++ answered e.word fld.waiting;
    registers = set c.registers e.slot (finished reg e.i);
  }

  pub processed-by : ProcessedBy z c place e (processed c place e)
  unfolding processed after frames_then
  processed-by =
      let is : processed c place e ≡ turned frames_then filling_then (set c.registers e.slot (finished reg e.i)) =
      ap (λ d. after (record c { directory = d }))
      (filled_live-frames c.directory (frame_for c reg) e.i e.word fld.code (is_done (finished_fields reg e.i))) in
      rw is (turned_by frames_then filling_then)

pub process_forms : (z : Sizes) (c : Cache) → IsSound z c → (place : ℕ)
    → SameForms z c (process_step c place).answer (process_step c place).cache
unfolding SameForms process_step
process_forms z c h place = grind (arith, processed-by z c h place)
