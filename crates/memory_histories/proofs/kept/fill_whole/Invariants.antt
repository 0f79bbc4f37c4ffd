use Rattle.std.proofs.Common.{◌≡◌, ◌-◌, ◌*◌, map, length, take, drop, replicate}
use Rattle.std.specs.List.{range_with_len}
use Rattle.memory_histories.specs.Sets.{no_bytes}
use Rattle.memory_histories.specs.Kept.{first_set_at}
use Rattle.memory_histories.specs.Parts.{parts_bytes}
use Rattle.memory_histories.proofs.kept.fill_whole.Given as goal

-- the sets so far are as they are to be, and those that are left have no byte
abbrev pub invariant-loop-k : goal.invariant-loop-k
invariant-loop-k l = record {
  so_far : take l.k l.sets ≡ map (first_set_at l.memory.0.now l.memory.1 (parts_bytes l.answered)) (range_with_len (8 * l.unit) l.k);
  left : drop l.k l.sets ≡ replicate (8 - l.k) no_bytes;
  many : length l.sets ≡ 8;
}
