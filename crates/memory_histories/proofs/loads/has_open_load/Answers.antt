use Rattle.std.proofs.Common.{arith}
use Rattle.memory_histories.proofs.Opened.{any_open_load}
use Rattle.memory_histories.proofs.loads.has_open_load.Goals as goal

pub returns : goal.returns
returns c = grind (arith, any_open_load)
