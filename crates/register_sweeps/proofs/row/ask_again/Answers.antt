use Rattle.std.proofs.Common.{◌<◌, ◌≤◌, refl, sym, ◌∙◌, arith}
use Rattle.register_sweeps.specs.Sweep.{course, pump_and_wait}
use Rattle.register_sweeps.proofs.Turns.{turn_ends, turn_goes_on, no_turn_left}
use Rattle.register_sweeps.proofs.row.ask_again.Goals as goal

pub returns-then-is_ended-clause-course : goal.returns-then-is_ended-clause-course
returns-then-is_ended-clause-course c =
    let here = course c.loop-turn.machine c.loop-turn.row in
    let turn : c.loop-turn._turn < c.most_turns-turn-end.result = c.loop-turn-test.true in
    let ends = sym c.turn-asked.ensures.ends ∙ sym c.is_ended.ensures ∙ c.if-is_ended.true in
    let ended = turn_ends c.most_turns-turn-end.result c.loop-turn._turn c.args.event here (pump_and_wait here) _ refl
    c.turn-asked.ensures.course turn ends in
    let same = c.most_turns-turn-end.ensures.same (course c.args.machine.now c.args.row.now) refl in
    sym ended ∙ sym c.loop-turn.invariant.course ∙ same

pub loop-turn-preserved : goal.loop-turn-preserved
loop-turn-preserved c = record {
  course = grind (arith, turn_goes_on);
  total = grind arith;
  lacks = c.turn-asked.ensures.lacks;
}

pub returns-clause-course : goal.returns-clause-course
returns-clause-course c =
    let here = course c.loop-turn.machine c.loop-turn.row in
    let over : c.most_turns-turn-end.result ≤ c.loop-turn._turn = omega (arith, c.loop-turn-test.false) in
    let same = c.most_turns-turn-end.ensures.same (course c.args.machine.now c.args.row.now) refl in
    sym (no_turn_left c.most_turns-turn-end.result c.loop-turn._turn c.args.event here over) ∙ sym c.loop-turn.invariant.course ∙ same
