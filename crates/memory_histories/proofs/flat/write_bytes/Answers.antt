use Rattle.std.proofs.lemmas.List.{drop_more}
use Rattle.std.proofs.Common.{arith}
use Rattle.memory_histories.specs.declared.reasons.Owed.TheVariants as owed
use Rattle.memory_histories.proofs.flat.write_bytes.Goals as goal

pub loop-k-preserved : goal.loop-k-preserved
loop-k-preserved c = record { bytes = grind (arith, drop_more c.args.bytes.now c.loop-k.k 0); room = grind arith }
