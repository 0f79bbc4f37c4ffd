use Rattle.std.proofs.lemmas.List.{drop_more}
use Rattle.std.proofs.Common.{append_assoc, arith}
use Rattle.memory_histories.proofs.windows.add_store.Goals as goal

pub loop-k-preserved : goal.loop-k-preserved
loop-k-preserved c = record { items = grind (arith, append_assoc, drop_more c.args.bytes.now c.loop-k.k 0); room = grind arith }
