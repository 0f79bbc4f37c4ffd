use Rattle.std.proofs.Common.{◌≡◌, length, rules}
use Rattle.atomic_histories.proofs.Moving.{pairs_more}
use Rattle.atomic_histories.proofs.moves.mark_pairs.Goals as goal

pub loop-pair-preserved : goal.loop-pair-preserved
loop-pair-preserved c =
    let p = c.pair-item in
    let went = c.mark.ensures in
    let long : length _ ≡ length c.loop-pair.used = search rules in
    pairs_more c.loop-pair.used _ _ p.result c.loop-pair.pair-index _
    c.loop-pair-test.true p.is long went.stay went.marked c.loop-pair.invariant
