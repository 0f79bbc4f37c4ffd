use Rattle.std.proofs.Common.{◌≡◌, true, sym, subst, ◌∙◌}
use Rattle.machine_core.specs.AnyMachine.{answered, after_event}
use Rattle.register_sweeps.specs.Lacking.{lacks_room}
use Rattle.register_sweeps.proofs.Lacking.{asked_lacks}
use Rattle.register_sweeps.proofs.row.ask.Goals as goal

pub returns-then-is_refused_room-clause-lacks : goal.returns-then-is_refused_room-clause-lacks
unfolding answered after_event
returns-then-is_refused_room-clause-lacks c = λ _.
    let refused = sym c.is_refused_room.ensures ∙ c.if-is_refused_room.true in
    let lacks = asked_lacks c.args.machine.now c.args.row.now c.args.event c.apply-answer.result (sym c.apply-answer.ensures.answer)
    refused in
    subst (λ s. lacks_room s c.args.event ≡ true) (sym c.apply-answer.ensures.machine) lacks
