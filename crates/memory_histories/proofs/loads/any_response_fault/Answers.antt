use Rattle.std.proofs.Common.{arith}
use Rattle.memory_histories.proofs.Opened.{count_bytes}
use Rattle.memory_histories.proofs.loads.any_response_fault.Goals as goal

pub returns : goal.returns
returns c = grind (arith, count_bytes)
