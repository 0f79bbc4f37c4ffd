-- A miss brings its block in: what the parts show and hold then.
use Rattle.std.proofs.Common.{◌≡◌, ℕ, suc, zero, ◌+◌, ◌<◌, ◌≤◌, Bool, true, false, cond, [], ◌∷◌, ◌++◌, length, refl, sym, ap, ◌∙◌, arith}
use Rattle.std.proofs.Common.{length-append, is_some, drop, ◌/◌, ◌⊎◌, inl, inr, List, eq-eqb, map, set, Some, get_or, ◌*◌, None, length-set}
use Rattle.std.specs.List.{range_with_len, sum_by, All, flat_map}
use Rattle.std.proofs.lemmas.Bool.{false≢true, cases_eq}
use Rattle.std.proofs.lemmas.List.Elements.{All-append}
use Rattle.std.proofs.lemmas.List.FromFn.{length-map-range_with_len}
use Rattle.std.proofs.lemmas.List.{set-get_or, set-set, get_or-set_same, get_or-set_other, length-replicate}
use Rattle.cache_law.specs.declared.Sizes.{Sizes}
use Rattle.cache_law.specs.State.{empty_frame, is_present, free_slot, Cache, frame_at, frame_of, register_at, Frames, Frame, Register}
use Rattle.cache_law.specs.State.{is_live}
use Rattle.cache_law.specs.Causes.{choose, owed_words}
use Rattle.cache_directory.specs.Frames.{without, times_in}
use Rattle.cache_law.specs.Steps.{released, given_up, frames_with, installed, fetched}
use Rattle.cache_law.specs.Begun.{begun_frame, begun_field, begun_register}
use Rattle.std.proofs.lemmas.Option.{same_Some}
use Rattle.write_queue.specs.declared.Queued.{Queued}
use Rattle.miss_registers.specs.Whole as whole
use Rattle.cache_law.specs.Sound.{HasFrame, FilledBy, loads_of_field, StackSound, Tied, QueueSound, OwesSound, IsSound}
use Rattle.cache_law.proofs.Choosing.{dirty_in_memory, given_may_install, no_live}
use Rattle.cache_directory.proofs.Whole.{whole-released, whole-installed, whole-kept}
use Rattle.cache_directory.proofs.Misses.{installed-here}
use Rattle.miss_registers.proofs.Whole.{allocated-kept}
use Rattle.miss_registers.specs.declared.TheConstants.{MAX_WAITING}
use Rattle.flat_model.proofs.Numbers.{number_from}
use Rattle.cache_law.proofs.Lists.{none_in_frames, place_of-only, frame_of-some}
use Rattle.cache_law.proofs.Keeps.{owes-same}
use Rattle.cache_law.specs.declared.Reply.{Reply}
use Rattle.cache_directory.specs.Frames as dir
use Rattle.miss_registers.specs.Registers as regs

-- ---- What the parts show once a miss has brought its block in.

pub without_absent : (order : List ℕ) (f : ℕ) → times_in order f ≡ 0 → without order f ≡ order
without_absent [] f e = refl
without_absent (g ∷ order) f e = grind (arith, without_absent order f)

-- ---- the frame that is given up

-- a frame that holds nothing is in no order
free_absent : (ways words : ℕ) (d : Frames) (f s : ℕ) → dir.IsSound ways words d → dir.is_held d f ≡ false
    → times_in (dir.order_of d s) f ≡ 0
free_absent ways words d f s whole free = grind arith

pub given_orders : (ways words : ℕ) (d : Frames) (f : ℕ) → dir.IsSound ways words d
    → (given_up ways d f).orders ≡ set d.orders (f / ways) (without (dir.order_of d (f / ways)) f)
unfolding dir.released
given_orders ways words d f whole = grind (arith, d.orders, without_absent, free_absent, set-get_or)

pub given_frames : (ways : ℕ) (d : Frames) (f : ℕ) (x : Frame) → set (given_up ways d f).frames f x ≡ set d.frames f x
unfolding dir.released
given_frames ways d f x = grind (arith, d.frames, set-set)

-- ---- the whole miss

-- what the calls make of the frames
pub frames_made : (ways words : ℕ) (d : Frames) (q : List Queued) (f block : ℕ) → dir.IsSound ways words d
    → dir.with_frame (dir.installed ways words (given_up ways d f) f block) f (begun_frame words q block)
    ≡ frames_with ways words (dir.released ways d f) q f block
unfolding dir.released dir.installed
frames_made ways words d q f block whole =
    let begun = begun_frame words q block in
    cc (
      set-set (given_up ways d f).frames f (dir.fresh_frame words block) begun,
      given_frames ways d f begun,
      set-set d.frames f empty_frame begun,
      given_orders ways words d f whole,
    )

-- the parts then
abbrev pub missed_cache : Sizes → Cache → ℕ → ℕ → ℕ → Cache
missed_cache z c block f slot =
    let queue = c.queue ++ owed_words z.block_words c.directory f in
    record c {
      directory = frames_with z.ways z.block_words (dir.released z.ways c.directory f) queue f block;
      registers = set c.registers slot (begun_register z.block_words queue block f);
      queue = queue;
    }

-- they show what the step says
pub fetched-shown : (z : Sizes) (c : Cache) (block f slot : ℕ) → is_present c block ≡ false → choose z c block ≡ Some f
    → free_slot c ≡ Some slot → (missed_cache z c block f slot) ≡ fetched z c block
unfolding fetched installed released
fetched-shown z c block f slot absent frame free = grind arith

-- ---- A miss keeps what holds of the parts.

-- ---- the queue

owed_in : (z : Sizes) (d : Frames) (f : ℕ) → dir.IsSound z.ways z.block_words d
    → ((g block : ℕ) → (dir.frame_at d.frames g).block ≡ Some block → block * z.block_words + z.block_words ≤ z.words)
    → All (λ (e : Queued). e.at < z.words) (owed_words z.block_words d f)
owed_in z d f whole within = grind (arith, d.frames, z.block_words, whole.cells, dirty_in_memory)

-- what a frame gives up is queued
pub QueueSound-given : (z : Sizes) (d : Frames) (f : ℕ) (q : List Queued) → dir.IsSound z.ways z.block_words d
    → ((g block : ℕ) → (dir.frame_at d.frames g).block ≡ Some block → block * z.block_words + z.block_words ≤ z.words)
    → length q + length (owed_words z.block_words d f) ≤ z.write_queue → QueueSound z q → QueueSound z (q ++ owed_words z.block_words d f)
QueueSound-given z d f q whole within room h =
    record {
      within = omega (arith, length-append q (owed_words z.block_words d f));
      addresses = All-append (λ e. e.at < z.words) q _ h.addresses (owed_in z d f whole within);
    }

-- ---- the frames

-- what the frames are after the miss: one is the block's
missed_is : (ways words : ℕ) (d : Frames) (q : List Queued) (f block : ℕ)
    → (frames_with ways words (dir.released ways d f) q f block).frames ≡ set d.frames f (begun_frame words q block)
unfolding dir.released
missed_is ways words d q f block = set-set d.frames f empty_frame _

missed_orders : (ways words : ℕ) (d : Frames) (q : List Queued) (f block : ℕ)
    → length (frames_with ways words (dir.released ways d f) q f block).orders ≡ length d.orders
unfolding dir.released
missed_orders ways words d q f block = length-set _ _ _ ∙ length-set d.orders _ _

-- the frame of a block is the only one that holds it
found_alone : (fs : List Frame) (block f : ℕ) → (dir.frame_at fs f).block ≡ Some block
    → ((g : ℕ) → (dir.frame_at fs g).block ≡ Some block → g ≡ f) → dir.frame_of fs block ≡ Some f
unfolding dir.frame_of
found_alone fs block f e only = grind (arith, place_of-only, eq-eqb, number_from)

-- the directory stays sound: the frame is given up, takes the block, and then its words
sound-given : (ways words : ℕ) (d : Frames) (f : ℕ) → dir.IsSound ways words d → dir.IsSound ways words (given_up ways d f)
sound-given ways words d f h = go _ refl
  where
    go : (b : Bool) → dir.is_held d f ≡ b → dir.IsSound ways words (cond b (dir.released ways d f) d)
    go true e = whole-released ways words d f h e
    go false e = h

sound-begun : (ways words : ℕ) (d : Frames) (q : List Queued) (f block : ℕ) → dir.IsSound ways words d → f < length d.frames
    → f / ways ≡ dir.set_of d block → dir.frame_of d.frames block ≡ None
    → dir.IsSound ways words (dir.with_frame (dir.installed ways words (given_up ways d f) f block) f (begun_frame words q block))
unfolding dir.installed dir.fresh_frame
sound-begun ways words d q f block h there of_set absent =
    let may = given_may_install ways words d f block h absent there of_set in
    let given = given_up ways d f in
    let installed = whole-installed ways words given f block (sound-given ways words d f h) may.there may.free may.of_set may.absent in
    let here = installed-here ways words given f block may.there in
    whole-kept ways words _ f (begun_frame words q block) installed (ap (λ x. is_some x.block) here) (ap (λ x. x.block) (sym here))
    (length-map-range_with_len _ _ _ ∙ sym (ap (λ x. length x.cells) here ∙ length-replicate words dir.zero_cell))

-- ---- frames and registers

not_in_stack : (q : List Queued) (xs : List ℕ) (i : ℕ) → (get_or (map (begun_field q) xs) i regs.clear_field).in_stack ≡ false
not_in_stack q [] i = refl
not_in_stack q (x ∷ xs) zero = refl
not_in_stack q (x ∷ xs) (suc i) = not_in_stack q xs i

no_loads : (p : ℕ → Bool) (q : List Queued) (xs : List ℕ) → sum_by (loads_of_field p) (map (begun_field q) xs) ≡ 0
no_loads p q [] = refl
no_loads p q (x ∷ xs) = let e = no_loads p q xs in omega arith

-- the register waits for each word, for which no load waits
begun_is : (q : List Queued) (xs : List ℕ) (P : regs.Field → Type 0) → P regs.clear_field → ((at : ℕ) → P (begun_field q at)) → (i : ℕ)
    → P (get_or (map (begun_field q) xs) i regs.clear_field)
begun_is q [] P none each i = none
begun_is q (x ∷ xs) P none each zero = each x
begun_is q (x ∷ xs) P none each (suc i) = begun_is q xs P none each i

begun_missing : (q : List Queued) (a n : ℕ) → 1 ≤ n → regs.is_done (map (begun_field q) (range_with_len a n)) ≡ false
begun_missing q a zero l = absurd (omega arith)
begun_missing q a (suc n) l = refl

begun-whole : (words : ℕ) (q : List Queued) (block f : ℕ) → 1 ≤ words → whole.IsWholeRegister words (begun_register words q block f)
begun-whole words q block f some =
    let ats = range_with_len (block * words) words in
    record {
      free = λ e. absurd (false≢true (sym e));
      fields_there = λ v. length-map-range_with_len _ _ _;
      missing = λ v. begun_missing q _ words some;
      codes = λ o. absurd (false≢true o);
      done = begun_is q ats (λ x. x.processed ≡ true → x ≡ regs.finished_field) (λ e. absurd (false≢true e))
          (λ at e. absurd (false≢true e));
      few_loads = begun_is q ats (λ x. length x.waiting ≤ MAX_WAITING) (omega arith) (λ at. omega arith);
    }

no_tags : (q : List Queued) (xs : List ℕ) → flat_map regs.tags_of_field (map (begun_field q) xs) ≡ []
no_tags q [] = refl
no_tags q (x ∷ xs) = no_tags q xs

begun-tags : (words : ℕ) (q : List Queued) (block f : ℕ) → regs.tags_of (begun_register words q block f) ≡ []
begun-tags words q block f = no_tags q (range_with_len (block * words) words)

module _ (z : Sizes) (c : Cache) (h : IsSound z c) (block f slot : ℕ) (q' : List Queued) (in_range : f < length c.directory.frames)
    (idle : (frame_at c f).pending ≡ false) (absent : frame_of c block ≡ None) (there : slot < length c.registers)
    (free : (register_at c slot).valid ≡ false) where
  abbrev fs : List Frame
  fs = set c.directory.frames f (begun_frame z.block_words q' block)

  abbrev rs : List Register
  rs = set c.registers slot (begun_register z.block_words q' block f)

  here : dir.frame_at fs f ≡ begun_frame z.block_words q' block
  here = get_or-set_same _ f _ empty_frame in_range

  elsewhere : (g : ℕ) → (g ≡ f → ⊥) → dir.frame_at fs g ≡ frame_at c g
  elsewhere g n = get_or-set_other _ f g _ empty_frame n

  slot_new : regs.register_at rs slot ≡ begun_register z.block_words q' block f
  slot_new = get_or-set_same _ slot _ regs.free_register there

  slot_other : (s : ℕ) → (s ≡ slot → ⊥) → regs.register_at rs s ≡ register_at c s
  slot_other s n = get_or-set_other _ slot s _ regs.free_register n

  -- a live register isn't the one that was free
  live_other : (s : ℕ) → is_live (register_at c s) ≡ true → s ≡ slot → ⊥
  live_other s live e = grind arith

  missed_in_memory : block * z.block_words + z.block_words ≤ z.words → (g b : ℕ) → (dir.frame_at fs g).block ≡ Some b
      → b * z.block_words + z.block_words ≤ z.words
  missed_in_memory small g b e = grind (arith, cases_eq, same_Some, here, elsewhere)

  -- the new block is where it was put
  new_found : dir.frame_of fs block ≡ Some f
  new_found = grind (arith, found_alone, here, cases_eq, none_in_frames c, elsewhere)

  -- the other blocks of registers stay where they were
  old_found : (b g : ℕ) → frame_of c b ≡ Some g → (g ≡ f → ⊥) → dir.frame_of fs b ≡ Some g
  old_found b g e n = found_alone fs b g (cc (elsewhere g n, held)) only
    where
      held : (frame_at c g).block ≡ Some b
      held = (frame_of-some _ b g e).1

      only : (j : ℕ) → (dir.frame_at fs j).block ≡ Some b → j ≡ g
      only j k = grind (arith, cases_eq j f, here, elsewhere j, h.directory.alone j g b, held)

  old_frame : (s : ℕ) → is_live (register_at c s) ≡ true → (register_at c s).frame ≡ f → ⊥
  old_frame s live e = grind arith

  missed_tied : Tied fs rs
  missed_tied = record { frames = λ s live. frames s live (cases_eq s slot); pending = λ g p. pending g p (cases_eq g f) }
    where
      new_frame : HasFrame fs (begun_register z.block_words q' block f)
      new_frame = record {
        holds = new_found;
        cells = ap (λ x. length x.cells) here ∙ length-map-range_with_len _ _ _ ∙ sym (length-map-range_with_len _ _ _);
        pending = ap (λ x. x.pending) here;
      }

      frames : (s : ℕ) → is_live (regs.register_at rs s) ≡ true → (s ≡ slot) ⊎ (s ≡ slot → ⊥) → HasFrame fs (regs.register_at rs s)
      frames s live (inl e) = rw (e, slot_new) new_frame
      frames s live (inr n) =
          let was : is_live (register_at c s) ≡ true = cc (slot_other s n, live) in
          let r = register_at c s in
          grind (arith, slot_other s n, h.tied.frames s was, old_found r.block r.frame, elsewhere r.frame, old_frame s was)

      pending : (g : ℕ) → (dir.frame_at fs g).pending ≡ true → (g ≡ f) ⊎ (g ≡ f → ⊥) → FilledBy rs g
      pending g p (inl e) = record { slot = slot; live = ap is_live slot_new; frame = cc (slot_new, e) }
      pending g p (inr n) =
          let old = h.tied.pending g (cc (elsewhere g n, p)) in
          let same = slot_other old.slot (live_other old.slot old.live) in
          record { slot = old.slot; live = cc (same, old.live); frame = cc (same, old.frame) }

  missed_stack : StackSound rs c.stack
  missed_stack = grind (arith, cases_eq, false≢true, slot_other, slot_new, not_in_stack)

  missed_owes : OwesSound z c.ready rs
  missed_owes =
      owes-same z _ _ slot _ there (λ p. (cc (no_loads p q' (range_with_len _ z.block_words), (h.registers.each slot).free free))) h.owes

  missed_registers : whole.IsSound z.block_words z.regs rs
  missed_registers = allocated-kept _ _ _ slot _ h.registers there ((h.registers.each slot).free free)
      (no_live c.directory.frames c.registers block h.tied absent) (begun-whole z.block_words q' block f h.some_words)
      (begun-tags z.block_words q' block f)

  missed_sound : (orders : List (List ℕ)) → length orders ≡ z.sets → block * z.block_words + z.block_words ≤ z.words → QueueSound z q'
      → dir.IsSound z.ways z.block_words (record { frames = fs; orders = orders })
      → IsSound z (record c { directory = record { frames = fs; orders = orders }; registers = rs; queue = q' })
  missed_sound orders n small q wd = record {
    some_words = h.some_words;
    whole_blocks = h.whole_blocks;
    some_sets = h.some_sets;
    directory = wd;
    sets = n;
    in_memory = missed_in_memory small;
    registers = missed_registers;
    stack_sound = missed_stack;
    tied = missed_tied;
    queue_sound = q;
    owes = missed_owes;
  }

-- the whole miss
pub IsSound-missed : (z : Sizes) (c : Cache) (block f slot : ℕ) → IsSound z c → f < length c.directory.frames
    → f / z.ways ≡ dir.set_of c.directory block → (frame_at c f).pending ≡ false → frame_of c block ≡ None → slot < length c.registers
    → (register_at c slot).valid ≡ false
    → block * z.block_words + z.block_words ≤ z.words → length c.queue + length (owed_words z.block_words c.directory f) ≤ z.write_queue
    → IsSound z (missed_cache z c block f slot)
IsSound-missed z c block f slot h in_range of_set idle absent there free small room =
    let q' = c.queue ++ owed_words z.block_words c.directory f in
    let frames = missed_is z.ways z.block_words c.directory q' f block in
    let orders = missed_orders z.ways z.block_words c.directory q' f block in
    let queue = QueueSound-given z _ f _ h.directory h.in_memory room h.queue_sound in
    let made = frames_made z.ways z.block_words c.directory q' f block h.directory in
    let whole = sound-begun z.ways z.block_words c.directory q' f block h.directory in_range of_set absent in
    rw frames (missed_sound z c h block f slot q' in_range idle absent there free _ (orders ∙ h.sets) small queue (rw frames at (rw made
    at whole)))

-- ---- What a step says of a unit that is given by its parts.

-- ---- a reply is taken

-- other replies
pub IsSound-ready : (z : Sizes) (c : Cache) (ready : List Reply) → OwesSound z ready c.registers → IsSound z c
    → IsSound z (record c { ready = ready })
IsSound-ready z c ready o h = grind arith

-- the write queue without its front
pub IsSound-drained : (z : Sizes) (c : Cache) → IsSound z c → IsSound z (record c { queue = drop 1 c.queue })
IsSound-drained z c h = record {
  some_words = h.some_words;
  whole_blocks = h.whole_blocks;
  some_sets = h.some_sets;
  directory = h.directory;
  sets = h.sets;
  in_memory = h.in_memory;
  registers = h.registers;
  stack_sound = h.stack_sound;
  tied = h.tied;
  queue_sound = less c.queue h.queue_sound;
  owes = h.owes;
}
  where
    less : (queue : List Queued) → QueueSound z queue → QueueSound z (drop 1 queue)
    less [] k = k
    less (q ∷ rest) k = record { within = omega (arith, k.within); addresses = λ n d m. k.addresses (suc n) d (omega arith) }
