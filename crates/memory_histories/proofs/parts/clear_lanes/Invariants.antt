use Rattle.std.proofs.Common.{◌≡◌}
use Rattle.memory_histories.specs.Parts.{cleared_lanes}
use Rattle.memory_histories.proofs.Cleared.{cleared_from}
use Rattle.memory_histories.proofs.parts.clear_lanes.Given as goal

-- what is written over so far, and what is left
abbrev pub invariant-loop-k : goal.invariant-loop-k
invariant-loop-k l = cleared_from l.k l.over l.lanes ≡ cleared_lanes l.over l.initial.lanes
