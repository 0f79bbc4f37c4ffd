use Rattle.std.proofs.Common.{◌≡◌, ◌+◌, ◌-◌, sym, ap, ◌∙◌, arith}
use Rattle.std.specs.Prelude.{slice_get, ◌&&◌, ◌==◌}
use Rattle.round_driver.specs.declared.stepping.TheConstants.{MOST_ROUNDS}
use Rattle.round_driver.specs.Rounds.{is_empty}
use Rattle.round_driver.specs.Stepping.{Stepped}
use Rattle.result_figures.specs.Turns.{sight_of}
use Rattle.kroft_jobs.specs.Following.{followed}
use Rattle.kroft_jobs.proofs.Followed.{goes_on, over_here, none_left, one_more, takes_one}
use Rattle.kroft_jobs.proofs.following.follow.Goals as goal

pub returns-then-is_over : goal.returns-then-is_over
returns-then-is_over c =
    let over =
    ap (λ w. is_empty c.loop-turn.left.now && (w == 0)) (sym c.weight.ensures.value) ∙ (sym c.is_over.ensures ∙ c.if-is_over.true) in
    over_here MOST_ROUNDS c.loop-turn._turn _ _ _ c.loop-turn.invariant.told c.loop-turn-test.true over
    ∙ ap (λ s. followed c.args.timing s c.args.requests.now) c.in_ok-machine.ensures.machine

pub loop-turn-preserved : goal.loop-turn-preserved
loop-turn-preserved c =
    let going =
    ap (λ w. is_empty c.loop-turn.left.now && (w == 0)) (sym c.weight.ensures.value) ∙ (sym c.is_over.ensures ∙ c.if-is_over.false) in
    let more = goes_on MOST_ROUNDS c.loop-turn._turn _ _ _ c.loop-turn.invariant.told c.loop-turn-test.true going in
    let first : c.copied.result ≡ slice_get c.loop-turn.left.now 0 = grind arith in
    let here : Stepped = record { state = c.loop-turn.machine; rounds = c.loop-turn.rounds; left = c.loop-turn.left.now } in
    record {
      told = more ∙ one_more (MOST_ROUNDS - (c.loop-turn._turn + 1)) here (sight_of c.loop-turn.seen) (sight_of c.see.new.self)
          c.make-report.new.machine c.make-report.new.self c.left_behind-left.result.now c.copied.result c.make-report.result
          c.count.result first c.make-report.ensures.machine c.make-report.ensures.rounds c.make-report.ensures.report
          c.left_behind-left.ensures c.count.ensures.count c.in_ok-see.ensures;
      time = ap (λ r. r.schedule.round) c.make-report.ensures.rounds
          ∙ (takes_one c.loop-turn.machine c.loop-turn.rounds c.copied.result ∙ ap (λ n. n + 1) c.loop-turn.invariant.time);
    }

pub returns : goal.returns
returns c =
    none_left MOST_ROUNDS c.loop-turn._turn _ _ _ c.loop-turn.invariant.told (grind arith)
    ∙ ap (λ s. followed c.args.timing s c.args.requests.now) c.in_ok-machine.ensures.machine
