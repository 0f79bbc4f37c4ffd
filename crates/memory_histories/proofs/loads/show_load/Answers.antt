use Rattle.std.proofs.Common.{arith}
use Rattle.memory_histories.proofs.Opened.{shown_load}
use Rattle.memory_histories.proofs.loads.show_load.Goals as goal

pub returns : goal.returns
returns c = grind (arith, shown_load)
