use Rattle.std.proofs.Common.{arith}
use Rattle.memory_histories.proofs.Pieces.{any_open}
use Rattle.memory_histories.proofs.parts.has_open.Goals as goal

pub returns : goal.returns
returns c = grind (arith, any_open)
