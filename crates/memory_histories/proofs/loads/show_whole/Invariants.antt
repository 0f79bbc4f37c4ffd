use Rattle.std.proofs.Common.{◌≡◌, length}
use Rattle.memory_histories.specs.Loads.{shown_lanes}
use Rattle.memory_histories.proofs.ShownSets.{shown_from}
use Rattle.memory_histories.proofs.loads.show_whole.Given as goal

-- the sets so far are as they are to be, and those that are left are to be changed
abbrev pub invariant-loop-k : goal.invariant-loop-k
invariant-loop-k l = record {
  sets : shown_from l.k l.lanes l.sets ≡ shown_lanes l.lanes l.initial.sets;
  many : length l.sets ≡ length l.initial.sets;
}
