use Rattle.std.proofs.Common.{◌-◌, ◌<◌, ◌||◌, sym, ap₂, ◌∙◌, arith}
use Rattle.atomic_histories.specs.Followed.{are_too_many, is_over}
use Rattle.atomic_histories.specs.Shown.{shown_all, aim_of}
use Rattle.atomic_histories.proofs.Frames.{grows_more}
use Rattle.atomic_histories.proofs.Loops.{over_go}
use Rattle.atomic_histories.proofs.search.search.Goals as goal

pub loop-left-preserved : goal.loop-left-preserved
loop-left-preserved c =
    let wanted = aim_of _ in
    let loads = c.args.asked.loads.now in
    let moment = c.args.asked.moment in
    let limit = c.args.limit in
    let left = c.loop-left.left in
    let ss = c.args.stretches.now.items in
    let ts = c.loop-left.stretches.items in
    let us = c.round-in-loop-left.new.stretches.items in
    let found = shown_all ts c.loop-left.out.pairs.items in
    let frontier = shown_all ts c.loop-left.frontier.items in
    let went = c.in_ok-frontier-2.ensures in
    let some : 0 < left = omega arith in
    let out = went.out in
    let next = went.next in
    let few =
    sym (c.if-are_too_many.ensures ts
    ∙ ap₂ (λ ps qs. are_too_many limit (shown_all ts ps) || are_too_many limit (shown_all ts qs)) c.as_slice-in-loop-left.ensures.value
    c.as_slice-in-loop-left-2.ensures.value) in
    record {
      found = grind arith;
      over = ap₂ (is_over limit loads moment (left - 1) wanted) out next
          ∙ sym (over_go limit loads moment left wanted found frontier few some) ∙ c.loop-left.invariant.over;
      out_in = went.out_in;
      frontier_in = went.next_in;
      grows = grows_more ss ts us c.loop-left.invariant.grows went.grows;
      followed = went.followed;
    }
