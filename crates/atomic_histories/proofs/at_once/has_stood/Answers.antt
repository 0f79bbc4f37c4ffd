use Rattle.std.proofs.Common.{◌≡◌, take, sym, ◌∙◌, arith}
use Rattle.atomic_histories.specs.Pasts.{after}
use Rattle.atomic_histories.specs.Followed.{is_answer}
use Rattle.atomic_histories.specs.Shown.{past_at, pasts}
use Rattle.atomic_histories.proofs.AtOnce.{stood_at, got_here, missed_here, missed_later}
use Rattle.atomic_histories.proofs.at_once.has_stood.Goals.{After-is_answer}
use Rattle.atomic_histories.proofs.at_once.has_stood.Goals as goal

-- the word that is looked at stands on the past
here : (c : After-is_answer) → past_at (pasts (take c.loop-before.end c.args.stretches.now)) c.loop-before.before
    ≡ after c.in-Overwritten.word c.in-Overwritten.moment
    (past_at (pasts (take c.in-Behind.i c.args.stretches.now)) c.in-Overwritten.earlier)
here c = grind (arith, stood_at, c.loop-before.end, c.in-Behind.i, c.loop-before.invariant.within, c.in-Overwritten.is)

pub returns-then-is_answer-clause-got : goal.returns-then-is_answer-clause-got
returns-then-is_answer-clause-got c = λ t. c.loop-before.invariant.got
    (got_here (is_answer c.args.place c.args.load.now.address c.args.load.now.since c.args.bytes.now) _ _ _ _
    (here (goal.at.returns-then-is_answer-clause-got c).After-is_answer)
    (sym c.is_answer.ensures ∙ c.if-is_answer.true))

pub returns-then-is_answer-clause-missed : goal.returns-then-is_answer-clause-missed
returns-then-is_answer-clause-missed c = λ t. c.loop-before.invariant.missed
    (missed_here (is_answer c.args.place c.args.load.now.address c.args.load.now.since c.args.bytes.now) _ _ _ _
    (here (goal.at.returns-then-is_answer-clause-missed c).After-is_answer)
    (sym c.is_answer.ensures ∙ c.if-is_answer.true))

pub loop-before-preserved : goal.loop-before-preserved
loop-before-preserved c =
    let kept = c.loop-before.invariant in
    let is = is_answer c.args.place _ _ _ in
    let there = here (goal.at.loop-before-preserved c).After-is_answer in
    let not_ = sym c.is_answer.ensures ∙ c.if-is_answer.false in
    record {
      got = grind arith;
      missed = λ m. kept.missed (missed_later is _ _ _ _ there not_ m);
      within = omega (arith, kept.within, c.if-i-end.false);
    }
