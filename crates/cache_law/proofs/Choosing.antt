-- What a miss may take, and how a block loses its frame.
use Rattle.std.proofs.Common.{◌≡◌, ℕ, suc, ◌-◌, ◌*◌, ◌%◌, ◌/◌, ◌<◌, ◌≤◌, ◌==◌, not, Bool, true, false, List, [], ◌∷◌, length, get_or}
use Rattle.std.proofs.Common.{Option, Some, None, is_none, refl, ap, ◌∙◌, arith, eq-eqb, ◌+◌, sym, ltb-false, ◌++◌, map, set, length-set}
use Rattle.std.proofs.Common.{length-append, is_some, mod-lt}
use Rattle.std.specs.Option.{option_or}
use Rattle.std.specs.List.{find, filter, list_all, All, sum_by}
use Rattle.std.proofs.lemmas.Bool.{false≢true, cases_eq}
use Rattle.std.proofs.lemmas.Option.{none-some, same_Some}
use Rattle.flat_model.specs.declared.Cause.{Cause}
use Rattle.flat_model.specs.declared.Cause.TheVariants.{NoRegister, SetPending, QueueFull, BankFull}
use Rattle.cache_directory.specs.declared.directory.Choice.{Choice}
use Rattle.cache_directory.specs.declared.directory.Choice.TheVariants.{Free, Victim, AllPending}
use Rattle.cache_directory.proofs.Whole.{order_held, whole-released}
use Rattle.miss_registers.proofs.Whole.{obsolete-kept}
use Rattle.cache_law.specs.declared.Sizes.{Sizes}
use Rattle.cache_law.specs.State.{Register, frame_at, is_pending, Cache, register_at, live_for, frame_of, is_present, Frames}
use Rattle.cache_law.specs.State.{Frame, empty_frame, Field, is_live}
use Rattle.cache_law.specs.Causes.{first_cause, is_resident_block, ways_of, choose, lacks_places, miss_causes, dirty_from, dirty_words}
use Rattle.cache_law.specs.Causes.{owed_words, lacks_room}
use Rattle.cache_law.specs.Sound.{IsSound, Tied, OwesSound, loads_of, loads_of_field}
use Rattle.cache_law.specs.Steps.{given_up, obsoleted, released, evicted}
use Rattle.cache_law.specs.Miss.{chosen_frame, MayTake}
use Rattle.cache_directory.proofs.Choices.{chosen-free, chosen-victim, chosen-all_pending}
use Rattle.cache_law.proofs.Present.{pending_is, SameMarks, SameMarks-self, related-set, StackSound-same, live_for-some}
use Rattle.miss_registers.proofs.Places.{free_slot-found}
use Rattle.write_queue.specs.declared.Queued.{Queued}
use Rattle.cache_directory.specs.declared.Cell.{Cell}
use Rattle.std.proofs.lemmas.List.{get_or-set_same, get_or-set_other, length-map}
use Rattle.std.proofs.lemmas.List.Elements.{All-append}
use Rattle.std.proofs.Math.ListN.{get_or-map}
use Rattle.std.proofs.lemmas.List.Sums.{sum_by-cons}
use Rattle.miss_registers.specs.Whole as whole
use Rattle.cache_law.proofs.Lists.{frame_of-is, none_live, live_for-none, frame_of-some}
use Rattle.cache_law.proofs.Keeps.{Since, pending_elsewhere, owes-same}
use Rattle.cache_directory.proofs.Misses.{MayInstall, released-here, released-frames, released-sets, released-absent}
use Rattle.cache_directory.specs.Frames.{is_held, set_of}
use Rattle.miss_registers.specs.Registers.{made_obsolete, without_code}
use Rattle.cache_directory.specs.Frames as dir
use Rattle.miss_registers.specs.Registers as regs

-- ---- What a miss may take, by the parts and by what they show.

-- ---- tests over lists

find-same : (p q : ℕ → Bool) (xs : List ℕ) → ((k : ℕ) → k < length xs → p (get_or xs k 0) ≡ q (get_or xs k 0)) → find p xs ≡ find q xs
find-same p q [] h = refl
find-same p q (x ∷ xs) h = cc (h 0 (omega arith), find-same p q xs (λ k l. h (suc k) (omega arith)))

list_all-same : (p q : ℕ → Bool) (xs : List ℕ) → ((x : ℕ) → p x ≡ q x) → list_all p xs ≡ list_all q xs
list_all-same p q [] h = refl
list_all-same p q (x ∷ xs) h = grind arith

-- ---- the free register

-- all registers are valid exactly where none is free
record CountsValid (rs : List Register) (o : Option ℕ) : Type 0 where
  within : length (filter (λ (r : Register). r.valid) rs) ≤ length rs
  all : o ≡ None → length (filter (λ (r : Register). r.valid) rs) ≡ length rs
  some : (k : ℕ) → o ≡ Some k → length (filter (λ (r : Register). r.valid) rs) < length rs

counts_valid : (rs : List Register) → CountsValid rs (regs.free_slot rs)
unfolding regs.free_slot
counts_valid [] = grind arith
counts_valid (r ∷ rs) = grind (arith, counts_valid rs)

-- a frame that may be taken for a block of the set
pub record CanTake (ways : ℕ) (d : Frames) (set f : ℕ) : Type 0 where
  pub there : f < length d.frames
  pub in_set : f / ways ≡ set
  pub idle : (dir.frame_at d.frames f).pending ≡ false

pub chosen_can : (ways words : ℕ) (d : Frames) (set f : ℕ) → dir.IsSound ways words d → set < length d.orders
    → chosen_frame (dir.chosen ways d set) ≡ Some f → CanTake ways d set f
chosen_can ways words d set f h s e = go _ refl e
  where
    go : (o : Choice) → dir.chosen ways d set ≡ o → chosen_frame o ≡ Some f → CanTake ways d set f
    go (Free g) q k = grind (arith, chosen-free ways words d set g h s q)
    go (Victim g) q k = grind (arith, chosen-victim ways words d set g h q)
    go AllPending q k = cc

-- all ways of the set are pending exactly where no frame is chosen
pub chosen_none : (ways words : ℕ) (d : Frames) (set : ℕ) → dir.IsSound ways words d
    → is_none (chosen_frame (dir.chosen ways d set)) ≡ dir.are_pending ways d set
chosen_none ways words d set h = go _ ∙ chosen-all_pending ways words d set h
  where
    go : (o : Choice) → is_none (chosen_frame o) ≡ dir.is_all_pending o
    go (Free g) = refl
    go (Victim g) = refl
    go AllPending = refl

-- ---- which frames are pending

module _ (z : Sizes) (c : Cache) (h : IsSound z c) where
  pub pending-shown : (f : ℕ) → is_pending c f ≡ (frame_at c f).pending
  pending-shown f = grind (arith, pending_is)

  resident-shown : (f : ℕ) → is_held c.directory f ≡ true → is_resident_block c (frame_at c f).block ≡ not (frame_at c f).pending
  resident-shown f held = grind (arith, false≢true, pending_is)

  pub all_pending-shown : (block : ℕ) → list_all (is_pending c) (ways_of z block) ≡ dir.are_pending z.ways c.directory (block % z.sets)
  all_pending-shown block = grind (arith, list_all-same, pending-shown)

  pub choose-shown : (block : ℕ) → choose z c block ≡ chosen_frame (dir.chosen z.ways c.directory (block % z.sets))
  unfolding choose dir.chosen dir.free_way dir.oldest
  choose-shown block = cc (old, go (find (λ f. is_none (frame_at c f).block) _) (find (λ f. not (frame_at c f).pending) _))
    where
      set : ℕ
      set = block % z.sets

      old : find (λ f. is_resident_block c (frame_at c f).block) (dir.order_of c.directory (block % z.sets))
          ≡ find (λ f. not (frame_at c f).pending) (dir.order_of c.directory (block % z.sets))
      old = find-same (λ f. is_resident_block c (frame_at c f).block) (λ f. not (frame_at c f).pending) _
          (λ k l. resident-shown _ (order_held _ _ _ _ h.directory k 0 l).0)

      go : (o p : Option ℕ) → option_or o p ≡ chosen_frame (dir.choice_from o p)
      go (Some f) p = refl
      go None (Some f) = refl
      go None None = refl

  -- no frame is chosen where all ways are pending
  pub choose_none : (block : ℕ) → is_none (choose z c block) ≡ list_all (is_pending c) (ways_of z block)
  choose_none block = cc (
    choose-shown block,
    chosen_none z.ways z.block_words c.directory (block % z.sets) h.directory,
    all_pending-shown block,
  )

  -- and one that is chosen is there, of the set, and not pending
  pub chosen_there : (block f : ℕ) → choose z c block ≡ Some f → CanTake z.ways c.directory (block % z.sets) f
  chosen_there block f e =
      let there : block % z.sets < length c.directory.orders = omega (arith, mod-lt block h.some_sets, h.sets) in
      chosen_can _ _ _ _ f h.directory there (sym (choose-shown block) ∙ e)

-- ---- the causes of a miss

-- the first cause, by the four tests
abbrev pub by_tests : Bool → Bool → Bool → Bool → Option Cause
by_tests a b c e = first_cause ((a, NoRegister) ∷ (b, SetPending) ∷ (c, QueueFull) ∷ (e, BankFull) ∷ [])

-- where there is no cause, the last two don't hold
last_two : (c e : Bool) → by_tests false false c e ≡ None → (c ≡ false) × (e ≡ false)
last_two true e h = grind arith
last_two false e h = grind arith

-- ---- the four tests, by the parts

pub register-test : (c : Cache) (n : ℕ) → length c.registers ≡ n → (length (filter (λ (r : Register). r.valid) c.registers) == n)
    ≡ is_none (regs.free_slot c.registers)
register-test c n e = grind (arith, eq-eqb, counts_valid)

-- ---- What a miss may take, and why it may not.

module _ (z : Sizes) (c : Cache) (h : IsSound z c) (room : ℕ → ℕ) (block : ℕ) where
  -- the frame that a miss takes
  abbrev pub to_take : Option ℕ
  to_take = chosen_frame (dir.chosen z.ways c.directory (set_of c.directory block))

  set_is : set_of c.directory block ≡ block % z.sets
  set_is = grind arith

  pub frame_chosen : choose z c block ≡ to_take
  frame_chosen = grind (arith, choose-shown, set_is)

  -- why a miss fails, by the register and the frame that there are for it
  pub causes_are : (s f : Option ℕ) (a b : Bool) → regs.free_slot c.registers ≡ s → to_take ≡ f → lacks_places z c f ≡ a
      → lacks_room z room block ≡ b → first_cause (miss_causes z room c block) ≡ by_tests (is_none s) (is_none f) a b
  causes_are s f a b e k l m = cc (
    register-test c z.regs h.registers.registers_there,
    e,
    all_pending-shown z c h block,
    chosen_none z.ways z.block_words c.directory (block % z.sets) h.directory,
    set_is,
    k,
    frame_chosen,
    l,
    m,
  )

-- what a miss may take is there, by the parts
pub record Takes (z : Sizes) (c : Cache) (room : ℕ → ℕ) (block frame slot : ℕ) : Type 0 where
  pub there : frame < length c.directory.frames
  pub of_set : frame / z.ways ≡ set_of c.directory block
  pub idle : (frame_at c frame).pending ≡ false
  pub register : slot < length c.registers
  pub free : (register_at c slot).valid ≡ false
  pub queue : length c.queue + length (owed_words z.block_words c.directory frame) ≤ z.write_queue
  pub banks : lacks_room z room block ≡ false

pub takes_from : (z : Sizes) (c : Cache) → IsSound z c → (room : ℕ → ℕ) (block frame slot : ℕ) → MayTake z room c block frame slot
    → Takes z c room block frame slot
takes_from z c h room block frame slot m =
    let chosen = sym (choose-shown z c h block) ∙ m.chosen in
    let same = ap (λ n. block % n) h.sets in
    let taken : chosen_frame (dir.chosen z.ways c.directory (set_of c.directory block)) ≡ Some frame = cc in
    let none = last_two _ _ (sym (causes_are z c h room block _ _ _ _ m.free taken refl refl) ∙ m.no_cause) in
    let can = chosen_there z c h block frame m.chosen in
    let found = free_slot-found _ slot m.free in
    let fits : length (owed_words z.block_words c.directory frame) ≤ z.write_queue - length c.queue = ltb-false _ _ none.0 in
    let within = h.queue_sound.within in
    record {
      there = can.there;
      of_set = can.in_set ∙ sym same;
      idle = can.idle;
      register = found.0;
      free = found.1;
      queue = omega arith;
      banks = none.1;
    }

-- ---- The words that a frame owes to memory are in memory.

-- each is one of the block's words
pub dirty_in_memory : (block at n : ℕ) (cells : List Cell) → at + length cells ≤ n
    → All (λ (q : Queued). q.at < n) (dirty_from block at cells)
dirty_in_memory block at n [] h = grind arith
dirty_in_memory block at n (c ∷ cells) h = grind (arith, dirty_in_memory block (at + 1) n cells)

-- ---- A block loses its frame.

-- ---- the register of the block

obsolete-field : (r : Register) (i : ℕ) → regs.field_of (made_obsolete r) i ≡ without_code (regs.field_of r i)
unfolding made_obsolete
obsolete-field r i = get_or-map without_code r.fields i regs.clear_field

valid_kept : (r : Register) → (made_obsolete r).valid ≡ r.valid
unfolding made_obsolete
valid_kept r = refl

count_kept : (r : Register) → length (made_obsolete r).fields ≡ length r.fields
unfolding made_obsolete
count_kept r = length-map r.fields without_code

SameMarks-obsolete : (r : Register) → SameMarks r (made_obsolete r)
SameMarks-obsolete r = grind (arith, valid_kept, count_kept, obsolete-field)

loads-map : (p : ℕ → Bool) (fs : List Field) → sum_by (loads_of_field p) (map without_code fs) ≡ sum_by (loads_of_field p) fs
loads-map p [] = refl
loads-map p (f ∷ fs) =
    let a = sum_by-cons (loads_of_field p) (without_code f) (map without_code fs) in
    let b = sum_by-cons (loads_of_field p) f fs in
    let r = loads-map p fs in
    omega arith

loads-obsolete : (p : ℕ → Bool) (r : Register) → loads_of p (made_obsolete r) ≡ loads_of p r
unfolding made_obsolete
loads-obsolete p r = loads-map p r.fields

not_live : (r : Register) → is_live (made_obsolete r) ≡ false
unfolding made_obsolete
not_live r = grind arith

-- ---- what still holds

module _ (z : Sizes) (c : Cache) (h : IsSound z c) (block f : ℕ) (holds : frame_of c block ≡ Some f) where
  abbrev fs' : List Frame
  fs' = set c.directory.frames f empty_frame

  -- the registers then
  abbrev gone : List Register
  gone = obsoleted c.registers (live_for c block)

  pub f_holds : (frame_at c f).block ≡ Some block
  f_holds = (frame_of-some _ block f holds).1

  f_there : f < length c.directory.frames
  f_there = (frame_of-some _ block f holds).0

  -- the block's dirty words
  abbrev dirty : List Queued
  dirty = dirty_from block (block * z.block_words) (frame_at c f).cells

  -- what lives now lived before, for another block
  lived : (s : ℕ) → is_live (regs.register_at gone s) ≡ true → Since (register_at c s) (regs.register_at gone s) ×
      ((register_at c s).block ≡ block → ⊥)
  lived s = grind (arith, none_live, live_for-some, cases_eq, get_or-set_same, false≢true, not_live, get_or-set_other)

  -- what lived for another block lives on
  lives_on : (s : ℕ) → is_live (register_at c s) ≡ true → ((register_at c s).block ≡ block → ⊥) → regs.register_at gone s ≡ register_at c s
  lives_on s l n = grind (arith, live_for-some, get_or-set_other)

  -- a frame of another block is another one
  other_frame : (s : ℕ) → is_live (register_at c s) ≡ true → ((register_at c s).block ≡ block → ⊥) → (register_at c s).frame ≡ f → ⊥
  other_frame s l n e = grind (arith, frame_of-some, same_Some, f_holds)

  unmoved : (g : ℕ) → (g ≡ f → ⊥) → dir.frame_at fs' g ≡ frame_at c g
  unmoved g n = get_or-set_other _ f g empty_frame empty_frame n

  still_there : (g b : ℕ) → (dir.frame_at fs' g).block ≡ Some b → (frame_at c g).block ≡ Some b
  still_there g b e = grind (arith, cases_eq, get_or-set_same, f_there, none-some, unmoved)

  tied_after : Tied fs' gone
  tied_after = record {
    frames = λ s l. (
        let w = lived s l in
        let x = h.tied.frames s w.0.live in
        let same = unmoved (register_at c s).frame (other_frame s w.0.live w.1) in
        let found = frame_of-is fs' (register_at c s).block (register_at c s).frame
        (λ a b k p r. h.directory.alone a b k (still_there a k p) (still_there b k r)) (cc (same, (frame_of-some _ _ _ x.holds).1)) in
        record {
          holds = cc (w.0.block, found, w.0.frame);
          cells = cc (w.0.frame, same, x.cells, w.0.count);
          pending = cc (w.0.frame, same, x.pending);
        });
    pending = λ g t. (
        let p = pending_elsewhere _ f g empty_frame refl t in
        let w = h.tied.pending g p.1 in
        let on = lives_on w.slot w.live (λ b. grind (arith, p.0, w.frame, h.tied.frames w.slot w.live)) in
        record { slot = w.slot; live = cc (on, w.live); frame = cc (on, w.frame) });
  }

  marks_after : (s : ℕ) → SameMarks (register_at c s) (regs.register_at gone s)
  marks_after s = grind (arith, related-set SameMarks SameMarks-self, live_for-some, SameMarks-self, SameMarks-obsolete)

  owes_after : OwesSound z c.ready gone
  owes_after = go _ refl
    where
      go : (o : Option ℕ) → live_for c block ≡ o → OwesSound z c.ready (obsoleted c.registers o)
      go None e = h.owes
      go (Some t) e = owes-same z _ _ t _ (live_for-some _ block t e).0 (λ p. loads-obsolete p _) h.owes

  registers_after : whole.IsSound z.block_words z.regs gone
  registers_after = go _ refl
    where
      go : (o : Option ℕ) → live_for c block ≡ o → whole.IsSound z.block_words z.regs (obsoleted c.registers o)
      go None e = h.registers
      go (Some t) e = let p = live_for-some _ block t e in obsolete-kept _ _ _ t h.registers p.0 p.1

  pub IsSound-given_up : length c.queue + length dirty ≤ z.write_queue
      → IsSound z (record c { directory = dir.released z.ways c.directory f; registers = gone; queue = c.queue ++ dirty })
  unfolding dir.released
  IsSound-given_up room = record {
    some_words = h.some_words;
    whole_blocks = h.whole_blocks;
    some_sets = h.some_sets;
    directory = whole-released _ _ _ f h.directory (ap is_some f_holds);
    sets = length-set _ _ _ ∙ h.sets;
    in_memory = λ g b e. h.in_memory g b (still_there g b e);
    registers = registers_after;
    stack_sound = StackSound-same _ _ _ marks_after h.stack_sound;
    tied = tied_after;
    queue_sound = record {
      within = omega (arith, length-append c.queue dirty);
      addresses = (
          All-append (λ e. e.at < z.words) _ dirty h.queue_sound.addresses (dirty_in_memory block _ _ (frame_at c f).cells
          (omega (arith, h.in_memory f block f_holds, h.directory.cells f block f_holds))));
    };
    owes = owes_after;
  }

  -- ---- what the unit shows then

  pub words-shown : dirty_words z c (Some f) ≡ dirty
  words-shown = grind (arith, f_holds)

  pub given_up-shown : (record c { directory = dir.released z.ways c.directory f; registers = gone; queue = c.queue ++ dirty })
      ≡ evicted z c block f
  unfolding evicted released
  given_up-shown = grind (arith, words-shown)

-- ---- A block that no frame holds.

pub absent_frame : (c : Cache) (block : ℕ) → is_present c block ≡ false → frame_of c block ≡ None
absent_frame c block e = grind arith

-- a live register's block is in a frame
pub no_live : (fs : List Frame) (rs : List Register) (block : ℕ) → Tied fs rs → dir.frame_of fs block ≡ None → regs.live_for rs block ≡ None
no_live fs rs block h absent = live_for-none rs block (λ s live e. (cc (absent, (h.frames s live).holds)))

-- ---- A frame that was given up may take a block.

pub given_may_install : (ways words : ℕ) (d : Frames) (f block : ℕ) → dir.IsSound ways words d → dir.frame_of d.frames block ≡ None
    → f < length d.frames → f / ways ≡ set_of d block → MayInstall ways (given_up ways d f) f block
given_may_install ways words d f block whole absent there of_set =
    grind (arith, released-frames, released-here, released-sets, released-absent)
