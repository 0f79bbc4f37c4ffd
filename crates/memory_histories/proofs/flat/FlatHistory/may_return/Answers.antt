use Rattle.memory_histories.proofs.ByteSets.{has-all_bytes}
use Rattle.memory_histories.proofs.Requests.{has-only}
use Rattle.std.proofs.Common.{arith}
use Rattle.memory_histories.specs.FlatShown.{shown}
use Rattle.memory_histories.proofs.flat.FlatHistory.may_return.Goals as goal

pub returns-in-Some : goal.returns-in-Some
unfolding shown
returns-in-Some c = grind (arith, has-all_bytes, has-only)
