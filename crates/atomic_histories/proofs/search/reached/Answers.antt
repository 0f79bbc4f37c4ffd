use Rattle.std.proofs.Common.{◌-◌, ◌<◌, ◌++◌, drop, length, length-append, sym, ap, ap₂, subst, ◌∙◌, arith}
use Rattle.std.proofs.lemmas.Bool.{lt-ltb, le-ltb}
use Rattle.atomic_histories.specs.Followed.{next_after, never}
use Rattle.atomic_histories.specs.May.{reached_in, is_reach_over}
use Rattle.atomic_histories.specs.Shown.{shown_all, IsIn, AreIn}
use Rattle.atomic_histories.proofs.Frames.{grows_same, grows_more, are_in_grown}
use Rattle.atomic_histories.proofs.Lists.{each_append}
use Rattle.atomic_histories.proofs.Loops.{length_shown, slice_from, behind_all, reach_stop, reach_go, reached_more}
use Rattle.atomic_histories.proofs.search.reached.Goals as goal

pub loop-left-init : goal.loop-left-init
loop-left-init c =
    let loads = c.args.asked.loads.now in
    let moment = c.args.asked.moment in
    let ss = c.args.stretches.now.items in
    let same = c.in_ok-all.ensures.shown ss in
    let left = c.rounds-left.ensures ss in
    record {
      reached = grind arith;
      over = ap₂ (λ es n. is_reach_over c.args.limit loads moment n es) same left;
      are_in = c.in_ok-all.ensures.are_in ss c.requires;
      grows = grows_same ss;
      most = omega arith;
    }

pub returns-then-limit-len-clause-stop : goal.returns-then-limit-len-clause-stop
returns-then-limit-len-clause-stop c =
    let loads = c.args.asked.loads.now in
    let moment = c.args.asked.moment in
    let limit = c.args.limit in
    let left = c.loop-left.left in
    let ts = c.loop-left.stretches.items in
    let us = c.reach.new.stretches.items in
    let from = drop c.loop-left.from c.loop-left.all.items in
    let found = c.in_ok-next.next.items in
    let some : 0 < left = omega arith in
    let next =
    c.in_ok-next.ensures.next ∙ ap (λ ps. next_after loads moment never (shown_all ts ps))
    (slice_from c.deref.result.now c.loop-left.all.items c.loop-left.from c.deref.ensures.value) in
    let many =
    lt-ltb limit _ (omega (arith, length_shown us found, c.in_ok-next.next.ok)) in
    sym c.loop-left.invariant.over ∙ reach_stop limit loads moment left _ _ next many some

pub loop-left-preserved : goal.loop-left-preserved
loop-left-preserved c =
    let loads = c.args.asked.loads.now in
    let moment = c.args.asked.moment in
    let limit = c.args.limit in
    let left = c.loop-left.left in
    let ss = c.args.stretches.now.items in
    let ts = c.loop-left.stretches.items in
    let us = c.reach.new.stretches.items in
    let all = c.loop-left.all.items in
    let from = drop c.loop-left.from all in
    let found = c.in_ok-next.next.items in
    let both = c.append.new.self.items in
    let went = c.in_ok-next.ensures in
    let kept = c.loop-left.invariant in
    let some : 0 < left = omega arith in
    let next =
    went.next ∙ ap (λ ps. next_after loads moment never (shown_all ts ps))
    (slice_from c.deref.result.now all c.loop-left.from c.deref.ensures.value) in
    let few =
    le-ltb limit _ (omega (arith, length_shown us found, c.in_ok-next.next.ok)) in
    let more = c.in_ok-append.ensures.items in
    let count = c.len-from.ensures ∙ c.loop-left.all.ok.0 in
    let behind = ap₂ drop count more ∙ behind_all all found in
    record {
      reached = ap (λ n. shown_all us both ++ reached_in loads moment (left - 1) (shown_all us (drop n both))) count
          ∙ reached_more loads moment left ts us went.grows all from found both
          _
          kept.are_in more some next kept.reached;
      over = ap (λ ps. is_reach_over limit loads moment (left - 1) (shown_all us ps)) behind
          ∙ sym (reach_go limit loads moment left (shown_all ts from) (shown_all us found) next few some) ∙ kept.over;
      are_in =
          subst (AreIn us) (sym more)
          (each_append (λ p. IsIn us p.past) all found (are_in_grown ts us went.grows all kept.are_in) went.are_in);
      grows = grows_more ss ts us kept.grows went.grows;
      most = omega (arith, count, ap length more, length-append all found);
    }
