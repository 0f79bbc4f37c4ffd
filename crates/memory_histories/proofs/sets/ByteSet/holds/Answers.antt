use Rattle.std.proofs.Common.{arith}
use Rattle.memory_histories.specs.Sets.{has}
use Rattle.memory_histories.proofs.sets.ByteSet.holds.Goals as goal

pub returns : goal.returns
unfolding has
returns c = grind arith
