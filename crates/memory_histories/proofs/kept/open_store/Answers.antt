use Rattle.memory_histories.proofs.Pieces.{filter_open}
use Rattle.std.proofs.Common.{arith}
use Rattle.memory_histories.proofs.kept.open_store.Goals as goal

pub returns : goal.returns
returns c = grind (arith, filter_open)
