use Rattle.std.proofs.Common.{arith}
use Rattle.memory_histories.proofs.Opened.{find_first}
use Rattle.memory_histories.proofs.loads.open_set.Goals as goal

pub returns : goal.returns
returns c = grind (arith, find_first)
