use Rattle.std.proofs.Common.{arith}
use Rattle.memory_histories.proofs.Stands.{fault_same}
use Rattle.memory_histories.proofs.regular.RegularMemory.fault.Goals as goal

pub returns : goal.returns
returns c = grind (arith, fault_same)
