use Rattle.std.proofs.Common.{◌≡◌, replicate}
use Rattle.cache_directory.specs.Frames.{empty_frame}
use Rattle.cache_directory.proofs.table.empty_ways.Given as goal

abbrev pub invariant-loop : goal.invariant-loop
invariant-loop l = l.ways.items ≡ replicate l.counter empty_frame
