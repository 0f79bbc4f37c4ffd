use Rattle.std.proofs.Common.{◌≡◌, ◌==◌, if◌then◌else◌, map, length, slice_get, take, None}
use Rattle.std.specs.Int.{bit_at}
use Rattle.std.specs.List.{range_with_len}
use Rattle.memory_histories.proofs.parts.write_whole.Given as goal

-- the lanes so far are written
abbrev pub invariant-loop-k : goal.invariant-loop-k
invariant-loop-k l = record {
  so_far : take l.k l.lanes ≡ map (λ k. if bit_at l.enables k == 1 then slice_get l.bytes k else None) (range_with_len 0 l.k);
  many : length l.lanes ≡ 8;
}
