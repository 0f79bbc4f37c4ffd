use Rattle.std.proofs.Common.{length, drop, fold, ◌∙◌, ap}
use Rattle.std.proofs.lemmas.Iterator.Adapters.{YieldsList-from_vec}
use Rattle.std.proofs.lemmas.Iterator.Consumers.{YieldsList-turn}
use Rattle.std.proofs.lemmas.List.{length_push}
use Rattle.atomic_histories.specs.Followed.{out_of, next_of, out_after}
use Rattle.atomic_histories.specs.Shown.{shown_all, aim_of}
use Rattle.atomic_histories.proofs.Frames.{grows_more, pair_grown}
use Rattle.atomic_histories.proofs.Loops.{fold_more, in_at}
use Rattle.atomic_histories.proofs.search.round.Goals as goal

pub loop-pair-preserved : goal.loop-pair-preserved
loop-pair-preserved c =
    let wanted = aim_of _ in
    let loads = c.args.asked.loads.now in
    let moment = c.args.asked.moment in
    let ss = c.args.stretches.now.items in
    let ts = c.loop-pair.stretches.items in
    let us = c.follow.new.stretches.items in
    let pairs = c.args.pairs.items in
    let pair = c.in-Some.pair in
    let i = length c.loop-pair.yielded in
    let list = YieldsList-from_vec {s = c.into_iter-pair-iterator.result} pairs (cc) (cc) in
    let t = YieldsList-turn list c.loop-pair.yielded c.loop-pair.pair-iterator c.loop-pair.yielded_by _ c.next.new.self
    c.in-Some.pair c.in-Some.is c.next.ensures.steps in
    let below = t.0 in
    let is = t.1 in
    let behind = length_push c.loop-pair.yielded pair in
    let went = c.in_ok-follow.ensures in
    let out = shown_all ts c.loop-pair.out.pairs.items in
    let next = shown_all ts c.loop-pair.next.pairs.items in
    let out_then = shown_all us _ in
    let next_then = shown_all us _ in
    let same = pair_grown ss ts c.loop-pair.invariant.grows pair (in_at ss pairs pair i below is c.requires.pairs) in
    record {
      out = ap (λ n. out_after wanted.goal out_then (shown_all ss (drop n pairs))) behind
          ∙ fold_more _ ss pairs pair i out out_then
          _ below is
          (went.out ∙ ap (out_of wanted.goal out) same) c.loop-pair.invariant.out;
      next = ap (λ n. fold (next_of loads moment wanted) next_then (shown_all ss (drop n pairs))) behind
          ∙ fold_more _ ss pairs pair i next next_then
          _ below is
          (went.next ∙ ap (next_of loads moment wanted next) same) c.loop-pair.invariant.next;
      out_in = went.out_in;
      next_in = went.next_in;
      grows = grows_more ss ts us c.loop-pair.invariant.grows went.grows;
      out_followed = went.out_followed;
      next_followed = went.next_followed;
    }
