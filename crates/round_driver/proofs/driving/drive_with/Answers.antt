use Rattle.std.proofs.Common.{◌≡◌, ◌+◌, sym, ap, subst, ◌∙◌, arith}
use Rattle.trace_text.specs.Streams.{Moves, Stopped}
use Rattle.trace_text.proofs.Serving.{moved_none}
use Rattle.round_driver.specs.Rounds.{is_over}
use Rattle.round_driver.specs.Written.{run_text}
use Rattle.round_driver.proofs.Runs.{none, whole_over, run_next, text_next, lines_refused, lines_lack_memory}
use Rattle.round_driver.proofs.Ends.{requests_end}
use Rattle.round_driver.proofs.driving.drive_with.Goals as goal

pub loop-turn-init : goal.loop-turn-init
loop-turn-init g c = grind (arith, none, moved_none)

pub returns-then-is_over : goal.returns-then-is_over
returns-then-is_over g c =
    let whole = whole_over _ _ _ c.loop-turn.invariant.run c.most_rounds-turn-end.ensures.value c.loop-turn-test.true c.is_over.ensures
    c.if-is_over.true in
    record {
      ok = ap (λ r. r.schedule.round + 1) whole;
      machine = ap (λ r. r.state) whole;
      over = requests_end _ _ _ c.keeps_whole.ensures;
      early = λ h. sym (ap is_over whole) ∙ sym c.is_over.ensures ∙ c.if-is_over.true;
      written = subst (λ r. Moves g.W.Sink.took c.args.writer.now (run_text r.told) c.loop-turn.writer) whole c.loop-turn.invariant.written;
      fault = tt;
    }

pub returns-in-Err-clause-fault : goal.returns-in-Err-clause-fault
returns-in-Err-clause-fault g c =
    let bytes : c.as_bytes.result.now ≡ run_text c.round-left.new.notes.items = grind arith in
    lines_refused _ _ c.loop-turn.invariant.run c.round-left.ensures.run (sym c.is_over.ensures ∙ c.if-is_over.false)
    c.loop-turn.invariant.written
    (subst (λ t. Stopped g.W.Sink.took g.W.Sink.refused c.loop-turn.writer t c.write_whole.new.writer) bytes c.in-Err.ensures.err)

pub returns-in_err-text-clause-fault : goal.returns-in_err-text-clause-fault
returns-in_err-text-clause-fault g c =
    lines_lack_memory _ _ c.loop-turn.invariant.run c.round-left.ensures.run (sym c.is_over.ensures ∙ c.if-is_over.false) _ _
    c.loop-turn.invariant.written c.from_residual.ensures.1

pub returns-clause-early : goal.returns-clause-early
returns-clause-early g c = grind arith

pub loop-turn-preserved : goal.loop-turn-preserved
loop-turn-preserved g c =
    let here = c.loop-turn.invariant.run in
    let going = sym c.is_over.ensures ∙ c.if-is_over.false in
    let made = c.round-left.ensures.run in
    let bytes : c.as_bytes.result.now ≡ run_text c.round-left.new.notes.items = grind arith in
    let text = subst (λ t. Moves g.W.Sink.took c.loop-turn.writer t c.write_whole.new.writer) bytes c.in-Ok.ensures.ok in
    record {
      run = run_next _ _ here made going;
      written = text_next _ _ here made going c.loop-turn.invariant.written text;
      sizes = grind arith;
      time = grind arith;
      next = grind arith;
    }

pub returns-clause-over : goal.returns-clause-over
returns-clause-over g c = requests_end _ _ _ c.keeps_whole.ensures
