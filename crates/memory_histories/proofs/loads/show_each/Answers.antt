use Rattle.std.proofs.Common.{arith}
use Rattle.memory_histories.proofs.ShownSets.{all_beside}
use Rattle.memory_histories.proofs.loads.show_each.Goals as goal

pub returns : goal.returns
returns c = grind (arith, all_beside)
