use Rattle.std.proofs.Common.{arith}
use Rattle.memory_histories.specs.Shown.{kept}
use Rattle.memory_histories.proofs.regular.RegularMemory.take_store_request.Goals as goal

pub returns-clause-ok : goal.returns-clause-ok
unfolding kept
returns-clause-ok c = grind arith
