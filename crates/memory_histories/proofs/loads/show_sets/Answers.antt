use Rattle.std.proofs.Common.{arith}
use Rattle.memory_histories.proofs.ShownSets.{shown_here, shown_beyond}
use Rattle.memory_histories.proofs.loads.show_sets.Goals as goal

pub returns-then-part-first : goal.returns-then-part-first
returns-then-part-first c = grind (arith, shown_here)

pub returns-else-part-first : goal.returns-else-part-first
returns-else-part-first c = grind (arith, shown_beyond)
