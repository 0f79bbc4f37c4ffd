use Rattle.std.proofs.Common.{arith, append-nil}
use Rattle.memory_histories.specs.Shown.{kept}
use Rattle.memory_histories.proofs.Opened.{loads-append}
use Rattle.memory_histories.proofs.regular.RegularMemory.request_load.Goals as goal

pub returns-clause-ok : goal.returns-clause-ok
unfolding kept
returns-clause-ok c = grind (arith, loads-append, append-nil)
