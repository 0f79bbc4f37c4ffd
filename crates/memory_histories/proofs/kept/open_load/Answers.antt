use Rattle.memory_histories.proofs.Lists.{map-map}
use Rattle.std.proofs.Common.{arith}
use Rattle.memory_histories.proofs.kept.open_load.Goals as goal

pub returns : goal.returns
returns c = grind (arith, map-map)
