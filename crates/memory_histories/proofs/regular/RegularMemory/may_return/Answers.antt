use Rattle.std.proofs.Common.{arith}
use Rattle.memory_histories.proofs.Stands.{set_law}
use Rattle.memory_histories.proofs.regular.RegularMemory.may_return.Goals as goal

pub returns : goal.returns
returns c = grind (arith, set_law)
