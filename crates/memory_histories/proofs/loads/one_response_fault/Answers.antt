use Rattle.memory_histories.proofs.Opened.{length-set_bytes}
use Rattle.std.proofs.Common.{arith}
use Rattle.memory_histories.proofs.loads.one_response_fault.Goals as goal

pub returns : goal.returns
returns c = grind (arith, length-set_bytes)
