use Rattle.std.proofs.Common.{arith}
use Rattle.atomic_histories.proofs.Loops.{changed_more}
use Rattle.atomic_histories.proofs.kept.end_stores.Goals as goal

pub loop-pair-preserved : goal.loop-pair-preserved
loop-pair-preserved c = grind (arith, c.loop-pair.pairs, c.loop-pair.pair-index, c.pair-item.result, changed_more, c.loop-pair.invariant)
