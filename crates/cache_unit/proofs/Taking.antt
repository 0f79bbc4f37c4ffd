-- What a miss takes, and what an eviction owes, as the calls ask for them.
use Rattle.std.proofs.Common.{◌≡◌, ℕ, ◌+◌, ◌-◌, ◌*◌, ◌<◌, ◌≤◌, true, false, List, length, Some, ◌∙◌, arith, le-ltb, ltb-false, length-set}
use Rattle.std.specs.List.{list_any, range_with_len}
use Rattle.std.proofs.lemmas.Bool.Decides.{nat_tests}
use Rattle.flat_model.specs.declared.limits.TheConstants.{MAX_MEMORY}
use Rattle.write_queue.specs.declared.Queued.{Queued}
use Rattle.cache_directory.specs.Frames as dir
use Rattle.miss_registers.specs.Registers as regs
use Rattle.cache_law.specs.declared.Sizes.{Sizes}
use Rattle.cache_law.specs.State.{Cache, Frames, frame_at, frame_of, is_present, free_slot}
use Rattle.cache_law.specs.Causes.{dirty_from, lacks_places, owed_words}
use Rattle.cache_law.specs.Miss.{MayTake, chosen_frame}
use Rattle.cache_law.specs.Sound.{IsSound}
use Rattle.cache_law.specs.Steps.{fetches, given_up}
use Rattle.cache_law.proofs.Choosing.{causes_are, f_holds, frame_chosen, words-shown}
use Rattle.cache_law.proofs.Lists.{frame_of-some}
use Rattle.cache_law.specs.Reads.{is_short, block_reads}

-- ---- A miss.

pub find_places : (z : Sizes) (c : Cache) → IsSound z c → (room : ℕ → ℕ) (block s f : ℕ) → regs.free_slot c.registers ≡ Some s
    → chosen_frame (dir.chosen z.ways c.directory (dir.set_of c.directory block)) ≡ Some f
    → length (owed_words z.block_words c.directory f) ≤ z.write_queue - length c.queue
    → list_any (is_short room (block * z.block_words) z.block_words z.banks) (range_with_len 0 z.banks) ≡ false
    → MayTake z room c block f s
find_places z c h room block s f e k l m = record {
  no_cause = causes_are z c h room block _ _ _ _ e k (le-ltb _ _ l) m;
  chosen = frame_chosen z c h room block ∙ k;
  free = e;
}

-- the reads that the step sends
pub fetches-shown : (z : Sizes) (c : Cache) (block slot : ℕ) → is_present c block ≡ false → free_slot c ≡ Some slot
    → block_reads slot (block * z.block_words) z.block_words z.banks z.block_words ≡ fetches z c block
unfolding fetches
fetches-shown z c block slot absent free = cc (free, absent)

pub installed_frames : (ways words : ℕ) (d : Frames) (f block : ℕ) → length (dir.installed ways words d f block).frames ≡ length d.frames
unfolding dir.installed
installed_frames ways words d f block = length-set _ f _

-- ---- A block loses its frame.

module _ (z : Sizes) (c : Cache) (h : IsSound z c) (block f : ℕ) (holds : frame_of c block ≡ Some f) where
  -- the block's dirty words
  abbrev dirty : List Queued
  dirty = dirty_from block (block * z.block_words) (frame_at c f).cells

  -- what the frame owes are these, and without it the frame is released
  pub owes_block : owed_words z.block_words c.directory f ≡ dirty
  owes_block = grind (arith, f_holds z c h block f holds)

  pub is_released : given_up z.ways c.directory f ≡ dir.released z.ways c.directory f
  is_released = grind (arith, f_holds z c h block f holds)

  pub can_give_up : z.words ≤ MAX_MEMORY → lacks_places z c (Some f) ≡ false → (f < length c.directory.frames) ×
      ((b : ℕ) → (frame_at c f).block ≡ Some b → b * z.block_words + z.block_words < 4294967296) ×
      (length c.queue + length dirty ≤ z.write_queue)
  can_give_up little e = grind (arith, ltb-false, words-shown z c h block f holds, frame_of-some)

  pub lacks-true : (n room : ℕ) → n ≡ length dirty → room ≡ z.write_queue - length c.queue → room < n → lacks_places z c (Some f) ≡ true
  lacks-true n room e r l = grind (arith, words-shown z c h block f holds, nat_tests)

  pub lacks-false : (n room : ℕ) → n ≡ length dirty → room ≡ z.write_queue - length c.queue → n ≤ room → lacks_places z c (Some f) ≡ false
  lacks-false n room e r l = grind (arith, words-shown z c h block f holds, le-ltb)
