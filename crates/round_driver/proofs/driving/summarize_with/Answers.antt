use Rattle.std.proofs.Common.{sym, ap, ◌∙◌, arith}
use Rattle.round_driver.specs.Rounds.{is_over}
use Rattle.round_driver.specs.Tables.{nothing, counted_all}
use Rattle.round_driver.proofs.Runs.{none, whole_over, run_next, fold_next, counted_then}
use Rattle.round_driver.proofs.Ends.{requests_end}
use Rattle.round_driver.proofs.driving.summarize_with.Goals as goal

pub loop-turn-init : goal.loop-turn-init
loop-turn-init c = grind (arith, c.in_ok-counter.ensures.nothing, none)

pub returns-then-is_over : goal.returns-then-is_over
returns-then-is_over c =
    let whole = whole_over _ _ _ c.loop-turn.invariant.run c.most_rounds-turn-end.ensures.value c.loop-turn-test.true c.is_over.ensures
    c.if-is_over.true in
    record {
      table = grind (arith, whole);
      machine = ap (λ r. r.state) whole;
      over = requests_end _ _ _ c.keeps_whole.ensures;
      early = λ h. sym (ap is_over whole) ∙ sym c.is_over.ensures ∙ c.if-is_over.true;
      unchanged = tt;
    }

pub returns-clause-early : goal.returns-clause-early
returns-clause-early c = grind arith

pub loop-turn-preserved : goal.loop-turn-preserved
loop-turn-preserved c =
    let here = c.loop-turn.invariant.run in
    let going = sym c.is_over.ensures ∙ c.if-is_over.false in
    let made = c.round-left.ensures.run in
    record {
      run = run_next _ _ here made going;
      counts = fold_next _ _ here made going counted_all counted_then nothing c.loop-turn.invariant.counts
          (c.count_all.ensures.counts ∙ ap (counted_all _) c.as_slice.ensures.value);
      sizes = grind arith;
      time = grind arith;
      next = grind arith;
      total = grind arith;
      waited = grind arith;
      tags = grind arith;
    }

pub returns-clause-over : goal.returns-clause-over
returns-clause-over c = requests_end _ _ _ c.keeps_whole.ensures
