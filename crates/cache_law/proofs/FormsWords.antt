-- The forms of a block's words: a store, a load, and a miss.
use Rattle.std.proofs.Common.{◌≡◌, ℕ, ◌<◌, Bool, true, false, cond, List, length, get_or, set, Option, Some, None, option_map, refl, sym}
use Rattle.std.proofs.Common.{ap, ◌∙◌, arith, length-set, mod-lt, eq-eqb, ◌||◌, [], ◌∷◌, ◌++◌, map, zero}
use Rattle.std.proofs.Common.{suc, ◌+◌, ◌⊎◌, inr, ⊎_elim, get_or-set_same, get_or-set_other, ne_eqb}
use Rattle.std.proofs.lemmas.Bool.{cases_eq}
use Rattle.flat_model.specs.declared.Word.{Word}
use Rattle.flat_model.specs.declared.Lanes.{Lanes}
use Rattle.flat_model.specs.Words.{merged, joined, has_all, zero_word, no_lanes}
use Rattle.flat_model.proofs.Lanewise.{byte-merged, has-joined, all_from_all}
use Rattle.cache_directory.specs.declared.Cell.{Cell}
use Rattle.cache_law.specs.declared.Sizes.{Sizes}
use Rattle.cache_directory.specs.Frames.{zero_cell}
use Rattle.cache_law.specs.State.{Frame, Field, Register, Cache, empty_frame, clear_field, free_register, frame_at, frame_of, register_at}
use Rattle.cache_law.specs.State.{field_at, is_live, live_for, cell_in, cell_of, targets, block_of, place_in}
use Rattle.cache_law.specs.State.{Target, is_present, gathered, targets_of, targets_of_field, first_of}
use Rattle.cache_law.specs.Steps.{written, replied, awaited, loaded}
use Rattle.cache_law.specs.Forms.{Form, bytes_of, coming_form, over_form, form_in, owed}
use Rattle.cache_law.specs.FormLaws.{form_at, but_at, words_without, asked_form, missed_words, fetched_words}
use Rattle.cache_law.proofs.Lists.{in_range, nested_same, nested_other, word_part, frame_of-some, live_for-some, with_field_in, same_at}
use Rattle.cache_law.proofs.Lists.{field_elsewhere, field_here, field_part, frame-stays, live-stays, waits_for}
use Rattle.cache_law.proofs.Lists.{Beside, Adds, Adds-push, Adds-left}
use Rattle.cache_law.proofs.Lists.{Adds-right, Adds-map, Adds-same, with_fields, gathered_part}
use Rattle.cache_law.proofs.Lists.{none_in_frames, frame-comes, frame-goes, holds-not, live-comes, stack_word-none}
use Rattle.cache_law.proofs.FormsEvents.{form_at-same, form_at-live, form_at-resident, owed-same, due_ready, dues, has_tag, owed-due}
use Rattle.cache_law.proofs.FormsEvents.{due_in-added, form_at-absent, cell-other}
use Rattle.input_stack.specs.Stack.{stack_word}
use Rattle.miss_registers.specs.declared.Owed.{Owed}
use Rattle.cache_law.specs.declared.Reply.{Reply}
use Rattle.cache_law.specs.Causes.{Found, Here, found_missing, found_in, found, dirty_words}
use Rattle.cache_law.specs.Counts.{tally}
use Rattle.std.specs.List.{range_with_len}
use Rattle.std.proofs.lemmas.List.FromFn.{length-map-range_with_len}
use Rattle.write_queue.specs.declared.Queued.{Queued}
use Rattle.write_queue.specs.Queue.{overlaid}
use Rattle.cache_law.specs.Begun.{begun_frame, begun_register, begun_field}
use Rattle.cache_law.specs.Sound.{IsSound}
use Rattle.cache_law.proofs.Tags.{has_word}
use Rattle.cache_directory.specs.Frames as dir
use Rattle.miss_registers.specs.Registers as regs

-- ---- A store to a word of a present block.

-- ---- forms with more bytes

pub bytes-merged : (u w : Word) (lanes : Lanes) → bytes_of (merged u w lanes) ≡ over_form lanes w (bytes_of u)
bytes-merged u w lanes = grind (arith, byte-merged)

over-joined : (u w : Word) (code lanes : Lanes) (f : Form)
    → over_form (joined code lanes) (merged u w lanes) f ≡ over_form lanes w (over_form code u f)
over-joined u w code lanes f = grind (arith, has-joined, byte-merged)

-- ---- a unit in which a block is present, with all its words

pub record Hit (z : Sizes) (c : Cache) (block : ℕ) : Type 0 where
  pub frame : ℕ
  pub present : frame_of c block ≡ Some frame
  pub cells : length (frame_at c frame).cells ≡ z.block_words
  pub fields : (s : ℕ) → live_for c block ≡ Some s → length (register_at c s).fields ≡ z.block_words

pub live-valid : (r : Register) → is_live r ≡ true → r.valid ≡ true
live-valid r l = grind arith

-- the word's place in the live register
pub record Fits (c : Cache) (s i : ℕ) : Type 0 where
  pub valid : (register_at c s).valid ≡ true
  pub slot_there : s < length c.registers
  pub field_there : i < length (register_at c s).fields

pub fits : (z : Sizes) → 0 < z.block_words → (c : Cache) (at : ℕ) → Hit z c (block_of z at) → (s : ℕ)
    → live_for c (block_of z at) ≡ Some s → Fits c s (place_in z at)
fits z some c at hit s e =
    let v = live-valid (register_at c s) (live_for-some c _ s e).0 in
    let l = hit.fields s e in
    let r = mod-lt at some in
    record { valid = v; slot_there = in_range (λ x. x.valid) free_register _ s refl v; field_there = omega arith }

-- ---- registers in which the code of a word that is still missing has more lanes

pub record NotedBy (c : Cache) (live : Option ℕ) (i : ℕ) (lanes : Lanes) (registers : List Register) : Type 0 where
  pub stays : (d : Cache) → d.registers ≡ registers → (b : ℕ) → live_for d b ≡ live_for c b
  pub same_valid : (t : ℕ) → (get_or registers t free_register).valid ≡ (register_at c t).valid
  pub same_processed : (t j : ℕ) → (get_or (get_or registers t free_register).fields j clear_field).processed ≡ (field_at c t j).processed
  pub same_targets : targets registers ≡ targets c.registers
  pub other_codes : (t j : ℕ) → (live ≡ Some t → j ≡ i → ⊥)
      → (get_or (get_or registers t free_register).fields j clear_field).code ≡ (field_at c t j).code
  pub own_code : (t : ℕ) → live ≡ Some t → (field_at c t i).processed ≡ false
      → (get_or (get_or registers t free_register).fields i clear_field).code ≡ joined (field_at c t i).code lanes

abbrev pub noted_in : Cache → Option ℕ → ℕ → Lanes → List Register
noted_in c None i lanes = c.registers
noted_in c (Some s) i lanes = cond (field_at c s i).processed c.registers
    (with_field_in c.registers s i (record (field_at c s i) { code = joined (field_at c s i).code lanes }))

abbrev pub with_cells : Frame → List Cell → Frame
with_cells f cells = record f { cells = cells }

-- a cell with these bytes, which are dirty
abbrev pub with_bytes : Cell → Word → Lanes → Cell
with_bytes cell w lanes = record { word = merged cell.word w lanes; dirty = joined cell.dirty lanes }

module _ (z : Sizes) (some : 0 < z.block_words) (c : Cache) (at : ℕ) (hit : Hit z c (block_of z at)) (w : Word) (lanes : Lanes) where
  noting : (o : Option ℕ) → live_for c (block_of z at) ≡ o → NotedBy c o (place_in z at) lanes (noted_in c o (place_in z at) lanes)
  noting None e = grind arith
  noting (Some s) e = go (field_at c s _).processed refl
    where
      new : Field
      new = record (field_at c s (place_in z at)) { code = joined (field_at c s (place_in z at)).code lanes }

      fit : Fits c s (place_in z at)
      fit = fits z some c at hit s e

      go : (b : Bool) → (field_at c s (place_in z at)).processed ≡ b
          → NotedBy c (Some s) (place_in z at) lanes (cond b c.registers (with_field_in c.registers s (place_in z at) new))
      go true p = grind arith
      go false p = record {
        stays = λ d ed b. live-stays c d s _ b ed refl;
        same_valid = same_at _ s _ new (λ x. x.valid) refl;
        same_processed = field_part _ s _ new (λ x. x.processed) fit.slot_there fit.field_there refl;
        same_targets = let part = word_part _ s _ fit.valid fit.field_there in
            part.then _ new fit.valid refl ∙ sym part.now;
        other_codes = λ t j n. ap (λ x. x.code)
            (field_elsewhere _ s _ new t j (λ a b. n (ap Some (sym a)) b));
        own_code = λ t q n. let same : s ≡ t = cc in
            rw (← same) (ap (λ x. x.code) (field_here _ s _ new fit.slot_there fit.field_there));
      }

  -- ---- the unit with the word written

  abbrev old_cell : Cell
  old_cell = get_or (frame_at c hit.frame).cells (place_in z at) zero_cell

  abbrev new_cell : Cell
  new_cell = with_bytes old_cell w lanes

  module _ (registers : List Register) (note : NotedBy c (live_for c (block_of z at)) (place_in z at) lanes registers) where
    abbrev stored : Cache
    stored = record c {
      directory = dir.with_frame c.directory hit.frame
          (with_cells (frame_at c hit.frame) (set (frame_at c hit.frame).cells (place_in z at) new_cell));
      registers = registers;
    }

    at_k : (hit.frame < length c.directory.frames) × ((frame_at c hit.frame).block ≡ Some (block_of z at))
    at_k = frame_of-some _ _ hit.frame hit.present

    room : place_in z at < length (frame_at c hit.frame).cells
    room = grind arith

    frames_same : (b : ℕ) → frame_of stored b ≡ frame_of c b
    frames_same b = frame-stays c stored hit.frame _ b refl refl

    cell_there : cell_in stored (Some hit.frame) (place_in z at) ≡ new_cell
    cell_there = nested_same (λ x. x.cells) with_cells
        (λ x ys. refl) empty_frame zero_cell _ hit.frame _ new_cell at_k.0 room

    -- at another address something differs
    apart : (a : ℕ) → (a ≡ at → ⊥) → block_of z a ≡ block_of z at → place_in z a ≡ place_in z at → ⊥
    apart a n b i = grind arith

    cell_other : (a : ℕ) → (a ≡ at → ⊥) → cell_of stored (block_of z a) (place_in z a) ≡ cell_of c (block_of z a) (place_in z a)
    cell_other a n = cc (frames_same (block_of z a), go _ refl)
      where
        go : (o : Option ℕ) → frame_of c (block_of z a) ≡ o → cell_in stored o (place_in z a) ≡ cell_in c o (place_in z a)
        go None e = refl
        go (Some f) e = nested_other (λ x. x.cells) with_cells (λ x ys. refl) empty_frame zero_cell _ hit.frame _ f _ new_cell
            (λ q i. grind (arith, frame_of-some c.directory.frames _ f e, at_k, apart a n))

    other_word : (a : ℕ) → (a ≡ at → ⊥) → form_at z stored a ≡ form_at z c a
    other_word a n = form_at-same z c stored a (frames_same _) (note.stays stored refl _) (ap (λ x. x.word) (cell_other a n)) (λ t e. (
      note.same_processed t _,
      note.other_codes t _ (λ l i.
          apart a n (sym (live_for-some c _ t e).1 ∙ (live_for-some c _ t l).1) i),
      refl,
    ))

    own_word : form_at z stored at ≡ option_map (over_form lanes w) (form_at z c at)
    own_word = go _ refl
      where
        frame' : frame_of stored (block_of z at) ≡ Some hit.frame
        frame' = frames_same _ ∙ hit.present

        go : (o : Option ℕ) → live_for c (block_of z at) ≡ o → form_at z stored at ≡ option_map (over_form lanes w) (form_at z c at)
        go None e = cc (
          form_at-resident z stored at hit.frame frame' (note.stays stored refl _ ∙ e),
          cell_there,
          ap Some (bytes-merged old_cell.word w lanes),
          form_at-resident z c at hit.frame hit.present e,
        )
        go (Some s) e = by_field (field_at c s _).processed refl
          where
            after : form_at z stored at ≡ Some (form_in stored (Some s) (place_in z at) new_cell.word)
            after = cc (form_at-live z stored at hit.frame s _ frame' (note.stays stored refl _ ∙ e) refl, cell_there)

            before : form_at z c at ≡ Some (form_in c (Some s) (place_in z at) old_cell.word)
            before = grind (arith, form_at-live)

            by_field : (p : Bool) → (field_at c s (place_in z at)).processed ≡ p
                → form_at z stored at ≡ option_map (over_form lanes w) (form_at z c at)
            by_field true p = cc (after, note.same_processed s (place_in z at), bytes-merged old_cell.word w lanes, before)
            by_field false p = cc (
              after,
              note.same_processed s (place_in z at),
              note.own_code s e p,
              over-joined old_cell.word w (field_at c s (place_in z at)).code lanes (coming_form c s (place_in z at)),
              before,
            )

    stored_word : (a : ℕ) → form_at z stored a ≡ but_at (form_at z c) at (option_map (over_form lanes w) (form_at z c at)) a
    stored_word a = grind (arith, cases_eq, own_word, eq-eqb, other_word)

    stored_present : frame_of stored (block_of z at) ≡ Some hit.frame
    stored_present = frames_same _ ∙ hit.present

    stored_waits : (t j : ℕ) → waits_for z stored t j ≡ waits_for z c t j
    stored_waits t j = grind arith

    stored_beside : Beside z c stored
    stored_beside = grind (arith, stored_waits)

    stored_cell : cell_of stored (block_of z at) (place_in z at) ≡ with_bytes (cell_of c (block_of z at) (place_in z at)) w lanes
    stored_cell = grind (arith, stored_present, cell_there)

-- one word is another
pub record StoredBy (z : Sizes) (c : Cache) (at : ℕ) (w : Word) (lanes : Lanes) (d : Cache) : Type 0 where
  pub words : (a : ℕ) → form_at z d a ≡ but_at (form_at z c) at (option_map (over_form lanes w) (form_at z c at)) a
  pub owing : (tag : ℕ) → owed d tag ≡ owed c tag
  pub frame : ℕ
  pub present : frame_of d (block_of z at) ≡ Some frame
  pub beside : Beside z c d
  pub cell : cell_of d (block_of z at) (place_in z at) ≡ with_bytes (cell_of c (block_of z at) (place_in z at)) w lanes
  pub cells : (a : ℕ) → (a ≡ at → ⊥) → cell_of d (block_of z a) (place_in z a) ≡ cell_of c (block_of z a) (place_in z a)

pub stored-by : (z : Sizes) → 0 < z.block_words → (c : Cache) (at : ℕ) → Hit z c (block_of z at) → (w : Word) (lanes : Lanes)
    → StoredBy z c at w lanes (written c (block_of z at) (place_in z at) w lanes)
unfolding dir.written regs.noted
stored-by z some c at hit w lanes =
    let note = noting z some c at hit w lanes _ refl in
    let is : written c (block_of z at) (place_in z at) w lanes
    ≡ stored z some c at hit w lanes (noted_in c (live_for c (block_of z at)) (place_in z at) lanes) note = grind (arith, hit.present) in
    rw is (record {
      words = stored_word z some c at hit w lanes _ note;
      owing = owed-same c (stored z some c at hit w lanes _ note) refl note.same_targets refl;
      frame = hit.frame;
      present = stored_present z some c at hit w lanes _ note;
      beside = stored_beside z some c at hit w lanes _ note;
      cell = stored_cell z some c at hit w lanes _ note;
      cells = cell_other z some c at hit w lanes _ note;
    })

-- ---- A load of a word of a present block.

-- ---- forms of held bytes

over-held : (code : Lanes) (v u : Word) (f : Form) → over_form code (merged v u code) f ≡ over_form code u f
over-held code v u f = grind (arith, byte-merged)

over-all : (code : Lanes) (u : Word) (f : Form) → has_all code ≡ true → over_form code u f ≡ bytes_of u
over-all code u f all = grind (arith, all_from_all)

-- the tag is owed one form more
pub record LoadedBy (z : Sizes) (c : Cache) (tag at : ℕ) (d : Cache) : Type 0 where
  pub words : (a : ℕ) → form_at z d a ≡ form_at z c a
  pub owing : (t : ℕ) → owed d t ≡ but_at (owed c) tag (form_at z c at) t
  pub frame : ℕ
  pub present : frame_of d (block_of z at) ≡ Some frame
  pub beside : Beside z c d
  pub frames : d.directory.frames ≡ c.directory.frames

module _ (z : Sizes) (some : 0 < z.block_words) (c : Cache) (tag at : ℕ) (hit : Hit z c (block_of z at))
    (fresh : tally (has_tag tag) (dues c) ≡ 0) where
  -- the word's place in its block
  abbrev own_place : ℕ
  own_place = place_in z at

  owed-more : (form : Form) → form_at z c at ≡ Some form → (d : Cache) → Adds (record { tag = tag; form = form }) (dues c) (dues d)
      → (t : ℕ) → owed d t ≡ but_at (owed c) tag (form_at z c at) t
  owed-more form right d more t = cc (owed-due d t, due_in-added (record { tag = tag; form = form }) _ _ more fresh t, owed-due c t, right)

  -- ---- the word is ready

  replied_ok : (w : Word) → form_at z c at ≡ Some (bytes_of w) → LoadedBy z c tag at (replied c tag w)
  unfolding form_at dir.frame_of regs.live_for dues
  replied_ok w right = record {
    words = λ a. refl;
    owing = owed-more _ right (replied c tag w) more;
    frame = hit.frame;
    present = hit.present;
    beside = record { waits = λ s i. refl; stack = refl; queue = refl };
    frames = refl;
  }
    where
      r : Reply
      r = record { tag = tag; word = w }

      more : Adds (due_ready (record { tag = tag; word = w })) (dues c) (dues (replied c tag w))
      more = Adds-right _ _ _ _
          (Adds-map due_ready r _ _ (Adds-push r _))

  -- ---- the tag waits for the word

  module _ (s : ℕ) (live : live_for c (block_of z at) ≡ Some s) (missing : (field_at c s own_place).processed ≡ false) where
    abbrev fld : Field
    fld = field_at c s own_place

    abbrev buffer : Word
    buffer = (cell_of c (block_of z at) own_place).word

    abbrev load : Owed
    load = record { tag = tag; lanes = fld.code; held = merged zero_word buffer fld.code }

    abbrev longer : Field
    longer = record fld { waiting = fld.waiting ++ load ∷ [] }

    abbrev waiting_more : Cache
    waiting_more = record c { registers = with_field_in c.registers s own_place longer }

    fit : Fits c s own_place
    fit = fits z some c at hit s live

    awaited_words : (a : ℕ) → form_at z waiting_more a ≡ form_at z c a
    unfolding dir.frame_of
    awaited_words a = form_at-same z c waiting_more a refl (live-stays c waiting_more s _ _ refl refl) refl (λ t e. (
      field_part _ s _ longer (λ x. x.processed) fit.slot_there fit.field_there refl t _,
      field_part _ s _ longer (λ x. x.code) fit.slot_there fit.field_there refl t _,
      refl,
    ))

    told : Form
    told = over_form fld.code (merged zero_word buffer fld.code) (coming_form c s own_place)

    right_form : form_at z c at ≡ Some told
    unfolding told
    right_form = cc (
      form_at-live z c at hit.frame s _ hit.present live refl,
      hit.present,
      missing,
      ap Some (sym (over-held fld.code zero_word buffer _)),
    )

    more_dues : Adds (record { tag = tag; form = told }) (dues c) (dues waiting_more)
    unfolding dues told
    more_dues =
        let p = word_part _ s _ (fit).valid (fit).field_there in
        let t : Target = record { slot = s; i = own_place; load = load } in
        let mk : Owed → Target = λ w. record { slot = s; i = own_place; load = w } in
        let all = Adds-left p.front t _ _ (Adds-right p.back t _ _ (Adds-map mk load _ _ (Adds-push load fld.waiting))) in
        let before : targets c.registers ≡ p.front ++ (map mk fld.waiting ++ p.back) = cc (p.now, missing) in
        let after : targets waiting_more.registers ≡ p.front ++ (map mk (fld.waiting ++ load ∷ []) ++ p.back) =
        cc (p.then (with_fields (register_at c s) (set (register_at c s).fields own_place longer)) longer fit.valid refl, missing) in
        Adds-left _ _ _ _ (Adds-map _ t _ _ (Adds-same t _ _ _ _ before after all))

    awaited_beside : Beside z c waiting_more
    awaited_beside = record {
      waits = λ t j. (cc (
        same_at _ s _ longer (λ r. r.valid) refl t,
        field_part _ s _ longer (λ x. x.processed) fit.slot_there fit.field_there refl t j,
      ));
      stack = refl;
      queue = refl;
    }

    awaited_ok : LoadedBy z c tag at (awaited c s own_place tag buffer)
    unfolding regs.awaited dir.frame_of
    awaited_ok = record {
      words = awaited_words;
      owing = owed-more told right_form waiting_more more_dues;
      frame = hit.frame;
      present = hit.present;
      beside = awaited_beside;
      frames = refl;
    }

  -- ---- all cases

  abbrev buf : Word
  buf = (cell_of c (block_of z at) own_place).word

  after_load : Found → Cache
  after_load f = loaded c tag own_place (cell_of c (block_of z at) own_place).word f

  in_register : (s : ℕ) → live_for c (block_of z at) ≡ Some s → LoadedBy z c tag at (after_load (found_in c (Some s) own_place buf))
  unfolding after_load
  in_register s live = go (field_at c s own_place).processed refl _ refl _ refl
    where
      f : Field
      f = field_at c s own_place

      shown : form_at z c at ≡ Some (form_in c (Some s) own_place buf)
      shown = cc (form_at-live z c at hit.frame s _ hit.present live refl, hit.present)

      go : (p : Bool) → (field_at c s own_place).processed ≡ p → (q : Bool) → has_all (field_at c s own_place).code ≡ q
          → (o : Option Word) → stack_word c.stack s own_place ≡ o → LoadedBy z c tag at (after_load (cond (p || q) (Here buf)
          (found_missing o s (field_at c s own_place).code buf)))
      go true e q r o k = replied_ok buf (cc (shown, e))
      go false e true r o k = replied_ok buf (cc (shown, e, over-all (field_at c s own_place).code buf _ r))
      go false e false r (Some w) k = replied_ok _ (cc (shown, e, k, bytes-merged w buf (field_at c s own_place).code))
      go false e false r None k = awaited_ok s live e

  pub loaded-by : LoadedBy z c tag at (loaded c tag (place_in z at) buf (found c (block_of z at) (place_in z at)))
  unfolding after_load
  loaded-by = go _ refl
    where
      go : (o : Option ℕ) → live_for c (block_of z at) ≡ o → LoadedBy z c tag at (after_load (found_in c o own_place buf))
      go None e = replied_ok buf (cc (form_at-resident z c at hit.frame hit.present e, hit.present))
      go (Some s) e = in_register s e

-- ---- A missing block gets a frame and a register, and its words are asked for.

pub range_at : {X : Type 0} (g : ℕ → X) (d : X) (a n j : ℕ) → j < n → get_or (map g (range_with_len a n)) j d ≡ g (a + j)
range_at g d a zero j l = absurd (omega arith)
range_at g d a (suc n) zero l = grind arith
range_at g d a (suc n) (suc j) l = grind (arith, range_at g d (a + 1) n j)

pub no_loads : (queue : List Queued) (slot n a k : ℕ)
    → gathered (targets_of_field slot) n (map (begun_field queue) (range_with_len a k)) ≡ []
no_loads queue slot n a zero = refl
no_loads queue slot n a (suc k) = no_loads queue slot (suc n) (a + 1) k

pub address_is : (z : Sizes) (at : ℕ) → first_of z (block_of z at) + place_in z at ≡ at
address_is z at = grind arith

-- the unit in which a block is present
pub record FetchedBy (z : Sizes) (c : Cache) (block : ℕ) (d : Cache) : Type 0 where
  pub words : (at : ℕ) → form_at z d at ≡ fetched_words z c block at
  pub same_targets : targets d.registers ≡ targets c.registers
  pub same_ready : d.ready ≡ c.ready
  pub same_stack : d.stack ≡ c.stack
  pub frame : ℕ
  pub present : frame_of d block ≡ Some frame
  pub cells : length (frame_at d frame).cells ≡ z.block_words
  pub fields : (s : ℕ) → live_for d block ≡ Some s → length (register_at d s).fields ≡ z.block_words
  -- no load waits yet for a word of a block that was absent
  pub waits : is_present c block ≡ false → (s : ℕ) → live_for d block ≡ Some s → (j : ℕ) → (field_at d s j).waiting ≡ []

-- the unit in which a missing block has this frame and this register
pub record MissedBy (z : Sizes) (c : Cache) (block f slot : ℕ) (d : Cache) : Type 0 where
  pub number_of_frames : length d.directory.frames ≡ length c.directory.frames
  pub own_frame : frame_at d f ≡ begun_frame z.block_words d.queue block
  pub other_frame : (k : ℕ) → (k ≡ f → ⊥) → frame_at d k ≡ frame_at c k
  pub number_of_registers : length d.registers ≡ length c.registers
  pub own_register : register_at d slot ≡ begun_register z.block_words d.queue block f
  pub other_register : (t : ℕ) → (t ≡ slot → ⊥) → register_at d t ≡ register_at c t
  pub words : (at : ℕ) → form_at z d at ≡ missed_words z c block (Some f) (Some slot) at
  pub same_targets : targets d.registers ≡ targets c.registers
  pub same_ready : d.ready ≡ c.ready
  pub same_stack : d.stack ≡ c.stack
  pub queue : d.queue ≡ c.queue ++ dirty_words z c (Some f)
  -- the block's words are clean, those of the block that went are nowhere, and the others stay
  pub clean : (at : ℕ) → block_of z at ≡ block → (cell_of d (block_of z at) (place_in z at)).dirty ≡ no_lanes
  pub gone : (at : ℕ) → (block_of z at ≡ block → ⊥) → (frame_at c f).block ≡ Some (block_of z at)
      → cell_of d (block_of z at) (place_in z at) ≡ zero_cell
  pub cells : (at : ℕ) → (block_of z at ≡ block → ⊥) → ((frame_at c f).block ≡ Some (block_of z at) → ⊥)
      → cell_of d (block_of z at) (place_in z at) ≡ cell_of c (block_of z at) (place_in z at)

none_wait : (queue : List Queued) (xs : List ℕ) (j : ℕ) → (get_or (map (begun_field queue) xs) j clear_field).waiting ≡ []
none_wait queue [] j = refl
none_wait queue (x ∷ xs) zero = refl
none_wait queue (x ∷ xs) (suc j) = none_wait queue xs j

module _ (z : Sizes) (c : Cache) (h : IsSound z c) (block f slot : ℕ) (absent : frame_of c block ≡ None)
    (f_there : f < length c.directory.frames) (slot_there : slot < length c.registers) (invalid : (register_at c slot).valid ≡ false)
    (orders : List (List ℕ)) where
  abbrev queue_then : List Queued
  queue_then = c.queue ++ dirty_words z c (Some f)

  abbrev with_block : Cache
  with_block = record {
    directory = record { frames = set c.directory.frames f (begun_frame z.block_words queue_then block); orders = orders };
    registers = set c.registers slot (begun_register z.block_words queue_then block f);
    stack = c.stack;
    queue = queue_then;
    ready = c.ready;
  }

  -- ---- frames and registers

  own_frame : frame_at with_block f ≡ begun_frame z.block_words queue_then block
  own_frame = get_or-set_same _ f _ empty_frame f_there

  own_register : register_at with_block slot ≡ begun_register z.block_words queue_then block f
  own_register = get_or-set_same _ slot _ free_register slot_there

  found_now : frame_of with_block block ≡ Some f
  found_now = frame-comes c with_block f _ block refl f_there refl (λ k e. absurd (none_in_frames c block absent k e))

  live_now : live_for with_block block ≡ Some slot
  live_now = live-comes c with_block slot _ block refl slot_there (eq-eqb block block refl)
      (λ t l e. let p = (frame_of-some _ _ _ (h.tied.frames t l).holds).1 in absurd (none_in_frames c block absent _ (p ∙ ap Some e)))

  not_live : is_live (register_at c slot) ≡ true → ⊥
  not_live l = grind arith

  live_same : (b : ℕ) → (b ≡ block → ⊥) → live_for with_block b ≡ live_for c b
  live_same b n = live-stays c with_block slot _ b refl (grind (arith, not_live, ne_eqb))

  block_other : (b : ℕ) → (b ≡ block → ⊥) → Some block ≡ Some b → ⊥
  block_other b n q = grind arith

  frame_gone : (b : ℕ) → (b ≡ block → ⊥) → (frame_at c f).block ≡ Some b → frame_of with_block b ≡ None
  frame_gone b n e = frame-goes c with_block f _ b refl f_there (block_other b n)
      (λ k q. h.directory.alone k f b q e)

  frame_same : (b : ℕ) → (b ≡ block → ⊥) → ((frame_at c f).block ≡ Some b → ⊥) → frame_of with_block b ≡ frame_of c b
  frame_same b n far = frame-stays c with_block f _ b refl (grind (arith, ne_eqb, holds-not))

  cell_same : (at : ℕ) → (block_of z at ≡ block → ⊥) → ((frame_at c f).block ≡ Some (block_of z at) → ⊥)
      → cell_of with_block (block_of z at) (place_in z at) ≡ cell_of c (block_of z at) (place_in z at)
  cell_same at n far = cell-other z c with_block at f _ refl (frame_same _ n far) far

  -- ---- the block's words

  own_cell : (j : ℕ) → j < z.block_words → cell_in with_block (Some f) j
      ≡ record { word = overlaid zero_word queue_then (first_of z block + j); dirty = no_lanes }
  own_cell j l = grind (arith, own_frame, range_at)

  own_field : (j : ℕ) → j < z.block_words → field_at with_block slot j ≡ begun_field queue_then (first_of z block + j)
  own_field j l = grind (arith, own_register, range_at)

  none_came : (j : ℕ) → stack_word c.stack slot j ≡ None
  none_came j = grind (arith, stack_word-none, has_word z c h)

  word_asked : (at : ℕ) → block_of z at ≡ block → form_at z with_block at ≡ Some (asked_form z queue_then slot at)
  word_asked at e =
      let j = place_in z at in
      let l = mod-lt at h.some_words in
      let a = ap (λ b. first_of z b + place_in z at) (sym e) ∙ address_is z at in
      cc (
        form_at-live z with_block at f slot _ (cc (e, found_now)) (cc (e, live_now)) refl,
        own_cell j l,
        own_field j l,
        none_came j,
        a,
      )

  -- ---- the other words

  word_kept : (at : ℕ) → (block_of z at ≡ block → ⊥) → form_at z with_block at ≡ words_without z (form_at z c) (frame_at c f).block at
  word_kept at n = ⊎_elim gone stays (cases_holds (frame_at c f).block refl)
    where
      b : ℕ
      b = block_of z at

      cases_holds : (o : Option ℕ) → (frame_at c f).block ≡ o
          → ((frame_at c f).block ≡ Some (block_of z at)) ⊎ ((frame_at c f).block ≡ Some (block_of z at) → ⊥)
      cases_holds None e = inr (λ q. cc)
      cases_holds (Some x) e = grind arith

      gone : (frame_at c f).block ≡ Some (block_of z at) → form_at z with_block at ≡ words_without z (form_at z c) (frame_at c f).block at
      gone e = grind (arith, form_at-absent, frame_gone, eq-eqb)

      stays : ((frame_at c f).block ≡ Some (block_of z at) → ⊥)
          → form_at z with_block at ≡ words_without z (form_at z c) (frame_at c f).block at
      stays far =
          let no = holds-not (frame_at c f) _ far in
          cc (
            form_at-same z c with_block at (frame_same _ n far) (live_same _ n) (ap (λ x. x.word) (cell_same at n far))
                (λ t l. grind (arith, get_or-set_other, not_live, live_for-some)),
            no,
          )

  word_missed : (at : ℕ) → form_at z with_block at ≡ missed_words z c block (Some f) (Some slot) at
  word_missed at = grind (arith, cases_eq, word_asked, eq-eqb, word_kept)

  -- ---- what is owed

  targets_kept : targets with_block.registers ≡ targets c.registers
  unfolding targets
  targets_kept =
      let p = gathered_part targets_of free_register 0 _ slot slot_there in
      cc (
        p.then (begun_register z.block_words queue_then block f),
        no_loads queue_then (0 + slot) 0 (first_of z block) z.block_words,
        invalid,
        p.now,
      )

  pub missed-by : MissedBy z c block f slot with_block
  missed-by = record {
    number_of_frames = length-set _ f _;
    own_frame = own_frame;
    other_frame = λ k n. get_or-set_other _ f k _ empty_frame n;
    number_of_registers = length-set _ slot _;
    own_register = own_register;
    other_register = λ t n. get_or-set_other _ slot t _ free_register n;
    words = word_missed;
    same_targets = targets_kept;
    same_ready = refl;
    same_stack = refl;
    queue = refl;
    clean = λ at e.
        cc (e, found_now, own_cell (place_in z at) (mod-lt at h.some_words));
    gone = λ at n e. ap (λ o. cell_in with_block o (place_in z at)) (frame_gone _ n e);
    cells = cell_same;
  }

  pub installed-by : (words : ℕ → Option Form) → words ≡ missed_words z c block (Some f) (Some slot) → fetched_words z c block ≡ words
      → FetchedBy z c block with_block
  installed-by words e k = record {
    words = λ at. (cc (word_missed at, k, e));
    same_targets = targets_kept;
    same_ready = refl;
    same_stack = refl;
    frame = f;
    present = found_now;
    waits = λ a s l j. grind (arith, live_now, own_register, none_wait);
    cells = ap (λ x. length x.cells) own_frame ∙ length-map-range_with_len _ _ _;
    fields = λ s l. grind (arith, live_now, own_register, length-map-range_with_len);
  }
