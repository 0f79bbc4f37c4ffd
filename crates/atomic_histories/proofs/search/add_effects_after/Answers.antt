use Rattle.std.proofs.Common.{◌<◌, [], false, length, filter, arith}
use Rattle.atomic_histories.specs.declared.unit.OpenStore.{OpenStore}
use Rattle.atomic_histories.specs.Followed.{with_pairs, effects_from}
use Rattle.atomic_histories.specs.Shown.{past_at, pasts, shown, shown_all, aim_of}
use Rattle.atomic_histories.proofs.Frames.{grows_more, in_grown, past_grown}
use Rattle.atomic_histories.proofs.Loops.{effects_more}
use Rattle.atomic_histories.proofs.search.add_effects_after.Goals as goal

pub loop-i-preserved : goal.loop-i-preserved
loop-i-preserved c =
    let ss = c.args.stretches.now.items in
    let ts = c.loop-i.stretches.items in
    let us = c.add_effect.new.stretches.items in
    let e = shown ss c.args.pair.now in
    let past = past_at _ c.args.past in
    let hope = (aim_of c.args.wanted).hope in
    let stores = c.args.pair.now.stores.items in
    let i = c.loop-i.i in
    let none : OpenStore = record { number = 0; bytes = []; is_done = false } in
    let below : i < length stores = omega arith in
    let went = c.in_ok-add_effect.ensures in
    record {
      whole = effects_more hope past (past_at (pasts ts) c.args.past) e stores i none (shown_all ts c.loop-i.next.pairs.items)
          (shown_all us c.add_effect.new.next.pairs.items)
          (with_pairs (shown_all ss c.args.next.now.pairs.items) (filter hope (effects_from past e [] stores))) below
          (past_grown ss ts c.loop-i.invariant.grows c.args.past c.requires.past) (went.pairs none) c.loop-i.invariant.whole;
      pairs = went.are_in;
      past = in_grown ts us went.grows c.args.past c.loop-i.invariant.past;
      grows = grows_more ss ts us c.loop-i.invariant.grows went.grows;
      followed = went.followed;
    }
