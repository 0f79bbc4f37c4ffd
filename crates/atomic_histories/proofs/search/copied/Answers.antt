use Rattle.std.proofs.Common.{◌<◌, length, ◌∙◌, arith}
use Rattle.atomic_histories.proofs.Loops.{copied_more, copied_shown, copied_all}
use Rattle.atomic_histories.proofs.search.copied.Goals as goal

pub loop-pair-preserved : goal.loop-pair-preserved
loop-pair-preserved c =
    let ps = c.args.pairs.now in
    let p = c.pair-item in
    let copy = c.in_ok-copy.copy in
    let i = c.loop-pair.pair-index in
    let same = c.loop-pair.same.items in
    let below : i < length ps = omega arith in
    let more = c.in_ok-push.ensures.items in
    record {
      shown = λ ss. copied_shown ss same ps p.result copy _ i below p.is more c.in_ok-copy.ensures.word
          c.in_ok-copy.ensures.stores c.in_ok-copy.ensures.past ∙ c.loop-pair.invariant.shown ss;
      are_in = λ ss a. copied_more ss same ps p.result copy _ i below p.is more c.in_ok-copy.ensures.past
          (c.loop-pair.invariant.are_in ss a);
    }

pub returns-clause-are_in : goal.returns-clause-are_in
returns-clause-are_in c = λ ss a.
    copied_all ss c.loop-pair.same.items _ c.loop-pair.pair-index (omega arith) (c.loop-pair.invariant.are_in ss a)
