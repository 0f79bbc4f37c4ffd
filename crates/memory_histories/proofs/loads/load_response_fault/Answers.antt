use Rattle.std.proofs.Common.{append-nil, drop-cons, arith}
use Rattle.memory_histories.proofs.Opened.{filter_loads}
use Rattle.memory_histories.proofs.loads.load_response_fault.Goals as goal

pub returns-in-Some : goal.returns-in-Some
returns-in-Some c = grind (arith, drop-cons, filter_loads, append-nil)
