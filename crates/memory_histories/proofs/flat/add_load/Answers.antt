use Rattle.std.proofs.Common.{append_assoc, arith}
use Rattle.memory_histories.proofs.FlatBytes.{owed_bytes-more}
use Rattle.memory_histories.proofs.flat.add_load.Goals as goal

pub loop-k-preserved : goal.loop-k-preserved
loop-k-preserved c = record { items = grind (arith, append_assoc, owed_bytes-more); room = omega arith }
