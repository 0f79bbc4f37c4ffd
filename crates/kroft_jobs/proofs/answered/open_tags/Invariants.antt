use Rattle.std.proofs.Common.{◌≡◌}
use Rattle.flat_model.specs.Memory.{shown}
use Rattle.kroft_jobs.specs.Answering.{owed_below}
use Rattle.kroft_jobs.proofs.answered.open_tags.Given as goal

abbrev pub invariant-loop-number : goal.invariant-loop-number
invariant-loop-number l = l.tags.items ≡ owed_below (shown l.memory) l.number
