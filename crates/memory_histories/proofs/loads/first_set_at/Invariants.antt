use Rattle.std.proofs.Common.{◌≡◌, drop}
use Rattle.memory_histories.specs.Loads.{first_set_at}
use Rattle.memory_histories.proofs.loads.first_set_at.Given as goal

-- what is left says what the whole does
abbrev pub invariant-loop-load : goal.invariant-loop-load
invariant-loop-load l = first_set_at l.number l.address (drop l.load-index l.loads) ≡ first_set_at l.number l.address l.loads
