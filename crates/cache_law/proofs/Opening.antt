-- A unit that holds nothing is sound.
use Rattle.std.proofs.Common.{◌≡◌, ℕ, ◌*◌, ◌%◌, Bool, arith, ◌<◌, List, [], replicate}
use Rattle.std.proofs.lemmas.Bool.{false≢true}
use Rattle.cache_law.specs.declared.Sizes.{Sizes}
use Rattle.cache_law.specs.Sound.{owing, IsSound}
use Rattle.std.proofs.lemmas.List.{length-replicate}
use Rattle.std.proofs.lemmas.List.Folds.{sum_by-replicate}
use Rattle.miss_registers.proofs.Tags.{replicate-each}
use Rattle.miss_registers.proofs.Whole.{new-kept}
use Rattle.std.proofs.lemmas.Option.{none-some}
use Rattle.cache_law.specs.State.{opening_cache}
use Rattle.cache_directory.specs.Frames as dir
use Rattle.miss_registers.specs.Registers as regs

abbrev free_file : ℕ → List regs.Register
free_file n = replicate n regs.free_register

no_loads : (p : ℕ → Bool) (n : ℕ) → owing p [] (free_file n) ≡ 0
no_loads p n = grind (arith, sum_by-replicate)

-- no frame holds a block
all_empty-sound : (ways words sets : ℕ) → dir.IsSound ways words (dir.all_empty ways sets)
all_empty-sound ways words sets =
    let frames = λ (f : ℕ). replicate-each (sets * ways) f dir.empty_frame in
    let order : List ℕ = [] in
    record {
      frames_there = cc (length-replicate (sets * ways) dir.empty_frame, length-replicate sets order);
      cells = λ f b e. absurd (none-some b (cc (frames f, e)));
      empty = λ f e. frames f;
      in_set = λ f b e. absurd (none-some b (cc (frames f, e)));
      alone = λ f g b e. absurd (none-some b (cc (frames f, e)));
      ordered = λ s f. (cc (frames f, replicate-each sets s order));
    }

pub IsSound-opening : (z : Sizes) → 0 < z.block_words → z.words % z.block_words ≡ 0 → 0 < z.sets → IsSound z (opening_cache z)
IsSound-opening z some_words whole_blocks some_sets =
    let d = all_empty-sound z.ways z.block_words z.sets in
    let w = new-kept z.block_words z.regs in
    grind (arith, replicate-each, length-replicate, false≢true, no_loads, z.regs)
