use Rattle.std.proofs.Common.{append_assoc, arith}
use Rattle.memory_histories.proofs.Loops.{range_more}
use Rattle.memory_histories.proofs.kept.add_each_first.Goals as goal

pub loop-k-preserved : goal.loop-k-preserved
loop-k-preserved c = record {
  items = grind (arith, append_assoc, range_more);
  len = omega arith;
  room = omega arith;
  capacity = grind arith;
}
