use Rattle.std.proofs.Common.{◌<◌, length, filter, sym, subst, arith}
use Rattle.atomic_histories.specs.Followed.{pair_missed, with_hope, word_aim}
use Rattle.atomic_histories.specs.Parts.{IsPart}
use Rattle.atomic_histories.proofs.Lists.{each_nth}
use Rattle.atomic_histories.proofs.Parts.{part_more, missed_step}
use Rattle.atomic_histories.proofs.answers.pairs_missed.Goals as goal

pub loop-pair-preserved : goal.loop-pair-preserved
loop-pair-preserved c =
    let unit = c.args.unit in
    let bytes = c.args.bytes.now in
    let load = c.args.load.now in
    let split = c.args.split.now in
    let pairs = c.args.pairs.now in
    let i = c.loop-pair.pair-index in
    let pair = c.pair-item.result in
    let f = pair_missed unit bytes load in
    let aim = word_aim unit load.address bytes in
    let below : i < length pairs = omega (arith, c.loop-pair-test.true) in
    record {
      shown = λ ss parts.
          let part =
          subst (IsPart unit bytes load ss split) (sym c.pair-item.is)
          (each_nth (IsPart unit bytes load ss split) pairs i pair below parts) in
          part_more (λ es. with_hope aim _) (λ e. filter aim.hope _) (missed_step aim f) ss pairs i pair
          _
          _ _
          _ below c.pair-item.is (c.in_ok-add_part.ensures.shown ss)
          (c.past_missed-past.ensures.pair ss part) (c.loop-pair.invariant.shown ss parts);
      are_in = λ ss parts.
          let part =
          subst (IsPart unit bytes load ss split) (sym c.pair-item.is)
          (each_nth (IsPart unit bytes load ss split) pairs i pair below parts) in
          c.in_ok-add_part.ensures.are_in ss (c.loop-pair.invariant.are_in ss parts) (c.past_missed-past.ensures.is_in ss part);
    }
