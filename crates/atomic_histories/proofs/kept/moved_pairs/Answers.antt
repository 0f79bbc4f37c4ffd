use Rattle.std.proofs.Common.{◌<◌, length, ap, ◌∙◌, arith}
use Rattle.atomic_histories.specs.Shown.{shown}
use Rattle.atomic_histories.proofs.Loops.{moved_pair, copied_pair, made_more, are_in_more}
use Rattle.atomic_histories.proofs.kept.moved_pairs.Goals as goal

pub loop-pair-preserved : goal.loop-pair-preserved
loop-pair-preserved c =
    let m = c.args.moved.now in
    let pairs = c.args.pairs.now in
    let i = c.loop-pair.pair-index in
    let pair = c.pair-item.result in
    let same = c.in_ok-same.same in
    let below : i < length pairs = omega (arith, c.loop-pair-test.true) in
    let to = c.in_ok-same.ensures.past ∙ c.place.ensures in
    record {
      shown = λ ss. made_more _ (λ p. shown ss (moved_pair m p)) pairs i pair same c.loop-pair.copied.items _
          _ below c.in_ok-push.ensures.items
          (copied_pair ss same (moved_pair m pair) c.in_ok-same.ensures.word c.in_ok-same.ensures.stores to
          ∙ ap (λ p. shown ss (moved_pair m p)) c.pair-item.is) (c.loop-pair.invariant.shown ss);
      are_in = λ ss h. are_in_more ss c.loop-pair.copied.items _ same _ c.in_ok-push.ensures.items
          to (c.loop-pair.invariant.are_in ss h) (h pair.past);
    }
