use Rattle.std.proofs.Common.{length, sym, ap, ◌∙◌, arith}
use Rattle.round_driver.specs.Machines.{used_registers}
use Rattle.round_driver.specs.Rounds.{is_over, start_of, rounds_until_over}
use Rattle.round_driver.specs.Tables.{nothing, counted_all}
use Rattle.round_driver.specs.Details.{counted_all as told_all, nothing_told, with_end, owed_of}
use Rattle.round_driver.specs.Outcomes.{nothing_recorded, with_notes}
use Rattle.round_driver.proofs.Runs.{none, whole_over, spent_early, run_next, fold_next, counted_then}
use Rattle.round_driver.proofs.Ends.{requests_end}
use Rattle.round_driver.proofs.Recorded.{all_recorded, recorded_then}
use Rattle.round_driver.proofs.Counted.{nothing_is_told, nothing_has_ended, no_ends_yet, counted_then as told_then, ends_next}
use Rattle.round_driver.proofs.detailing.detail_with.Goals as goal

pub loop-turn-init : goal.loop-turn-init
loop-turn-init c =
    let fresh = c.in_ok-counter.ensures.nothing in
    let untold = c.in_ok-told.ensures in
    let unended = c.in_ok-ends.ensures in
    let unrecorded = c.in_ok-outcomes.ensures in
    record {
      run = grind (arith, none);
      counts = grind (arith, none, fresh);
      told = grind (arith, none, untold);
      ends = grind (arith, no_ends_yet, unended);
      outcomes = grind (arith, none, unrecorded);
      recorded = grind (arith, none, all_recorded, unrecorded);
      sizes = grind arith;
      time = grind arith;
      next = grind arith;
      total = grind (arith, fresh);
      waited = grind (arith, fresh);
      tags = grind arith;
      few_told = grind (arith, untold, nothing_is_told);
      few_rounds = grind (arith, untold);
      few_ends = grind (arith, unended, nothing_has_ended);
    }

pub returns-then-is_over : goal.returns-then-is_over
returns-then-is_over c =
    let whole = whole_over _ _ _ c.loop-turn.invariant.run c.most_rounds-turn-end.ensures.value c.loop-turn-test.true c.is_over.ensures
    c.if-is_over.true in
    record {
      details = grind (arith, whole);
      machine = ap (λ r. r.state) whole;
      over = requests_end _ _ _ c.keeps_whole.ensures;
      early = λ h. sym (ap is_over whole) ∙ sym c.is_over.ensures ∙ c.if-is_over.true;
      unchanged = tt;
    }

pub returns-clause-machine : goal.returns-clause-machine
returns-clause-machine c = grind arith

pub returns-clause-early : goal.returns-clause-early
returns-clause-early c =
    spent_early _ _ _ c.loop-turn.invariant.run c.most_rounds-turn-end.ensures.value
    (omega (arith, c.loop-turn-test.false, c.loop-turn.auto._turn-end)) c.loop-turn.invariant.time

pub loop-turn-preserved : goal.loop-turn-preserved
loop-turn-preserved c =
    let here = c.loop-turn.invariant.run in
    let going = sym c.is_over.ensures ∙ c.if-is_over.false in
    let made = c.round-left.ensures.run in
    let run = run_next _ _ here made going in
    let z = c.numbers_of-numbers.result in
    let told = fold_next _ _ here made going (told_all z) (told_then z) (nothing_told z) c.loop-turn.invariant.told
    (c.count_all-in-loop-turn.ensures.counts ∙ ap (told_all z c.loop-turn.told) c.as_slice-in-loop-turn.ensures.value) in
    let in_use = c.used_registers-in-loop-turn.ensures ∙ ap (λ r. used_registers r.state) run in
    let room = length c.args.requests.now in
    let outcomes = fold_next _ _ here made going with_notes recorded_then (nothing_recorded room) c.loop-turn.invariant.outcomes
    (c.record_all.ensures ∙ ap (with_notes c.loop-turn.outcomes) c.as_slice-in-loop-turn-2.ensures.value) in
    record {
      run = run;
      counts = fold_next _ _ here made going counted_all counted_then nothing c.loop-turn.invariant.counts
          (c.count_all.ensures.counts ∙ ap (counted_all _) c.as_slice.ensures.value);
      told = told;
      ends = c.count.ensures.value ∙ (λ i. with_end (c.loop-turn.invariant.ends i) (in_use i) (owed_of (told i)))
          ∙ sym (ends_next c.loop-turn._turn z _);
      outcomes = outcomes;
      recorded = ap (λ x. x.ended) outcomes ∙ all_recorded room (rounds_until_over _ (start_of _ _ c.args.requests.now)).told;
      sizes = grind arith;
      time = grind arith;
      next = grind arith;
      total = grind arith;
      waited = grind arith;
      tags = grind arith;
      few_told = grind arith;
      few_rounds = grind arith;
      few_ends = grind arith;
    }

pub returns-clause-over : goal.returns-clause-over
returns-clause-over c = requests_end _ _ _ c.keeps_whole.ensures
