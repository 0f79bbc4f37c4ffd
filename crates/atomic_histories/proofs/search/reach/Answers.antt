use Rattle.std.proofs.Common.{◌<◌, length, ◌∙◌, ap, arith}
use Rattle.atomic_histories.specs.Followed.{next_of, never}
use Rattle.atomic_histories.specs.Shown.{shown_all}
use Rattle.atomic_histories.proofs.Frames.{grows_more, in_grown, pair_grown}
use Rattle.atomic_histories.proofs.Loops.{fold_more, in_at}
use Rattle.atomic_histories.proofs.search.reach.Goals as goal

pub add_effects-requires-clause-pair : goal.add_effects-requires-clause-pair
add_effects-requires-clause-pair c =
    in_grown _ c.loop-pair.stretches.items c.loop-pair.invariant.grows c.pair-item.result.past
    (in_at c.args.stretches.now.items c.args.pairs.now c.pair-item.result c.loop-pair.pair-index (omega arith) c.pair-item.is c.requires)

pub loop-pair-preserved : goal.loop-pair-preserved
loop-pair-preserved c =
    let loads = c.args.asked.loads.now in
    let moment = c.args.asked.moment in
    let ss = c.args.stretches.now.items in
    let ts = c.loop-pair.stretches.items in
    let us = c.add_effects.new.stretches.items in
    let pairs = c.args.pairs.now in
    let pair = c.pair-item in
    let i = c.loop-pair.pair-index in
    let went = c.in_ok-add_effects.ensures in
    let below : i < length pairs = omega arith in
    let next = shown_all ts c.loop-pair.next.pairs.items in
    let same = pair_grown ss ts c.loop-pair.invariant.grows pair.result (in_at ss pairs pair.result i below pair.is c.requires) in
    record {
      next = fold_more _ ss pairs pair.result i next _
          _ below pair.is
          (went.pairs ∙ ap (next_of loads moment never next) same) c.loop-pair.invariant.next;
      next_in = went.are_in;
      grows = grows_more ss ts us c.loop-pair.invariant.grows went.grows;
      followed = went.followed;
    }
