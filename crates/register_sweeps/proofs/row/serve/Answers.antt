use Rattle.std.proofs.Common.{sym, ap, ◌∙◌, arith}
use Rattle.round_driver.proofs.Moves.{whole_after}
use Rattle.register_sweeps.specs.Sweep.{course, ends}
use Rattle.register_sweeps.proofs.Turns.{again_sizes}
use Rattle.register_sweeps.proofs.EnoughTurns.{whole_after_turns, still_waits}
use Rattle.register_sweeps.proofs.row.serve.Goals as goal

pub ask_again-requires-clause-whole : goal.ask_again-requires-clause-whole
ask_again-requires-clause-whole c = grind (arith, whole_after)

pub ask_again-requires-clause-waits : goal.ask_again-requires-clause-waits
ask_again-requires-clause-waits c = λ request.
    let waits = sym c.ask-asked.ensures.ends ∙ sym c.is_ended.ensures ∙ c.if-not-is_ended.true in
    let still = still_waits c.args.event (course c.args.machine.now c.args.row.now) request waits in
    ap (ends c.args.event) c.ask-asked.ensures.course ∙ still

pub returns-then-not-is_ended-clause-whole : goal.returns-then-not-is_ended-clause-whole
returns-then-not-is_ended-clause-whole c = grind (arith, whole_after, whole_after_turns)

pub returns-else-not-is_ended-clause-whole : goal.returns-else-not-is_ended-clause-whole
returns-else-not-is_ended-clause-whole c = grind (arith, whole_after)

pub returns-then-not-is_ended-clause-sizes : goal.returns-then-not-is_ended-clause-sizes
returns-then-not-is_ended-clause-sizes c = grind (arith, again_sizes)
