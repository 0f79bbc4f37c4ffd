use Rattle.std.proofs.Common.{ap, ap₂, ◌∙◌}
use Rattle.register_sweeps.specs.Sweep.{course, with_pumped}
use Rattle.register_sweeps.proofs.Turns.{left_by_pump, told_by_pump}
use Rattle.register_sweeps.proofs.row.pump_once.Goals as goal

pub returns-clause-course : goal.returns-clause-course
returns-clause-course c =
    let left = c.pump-told.ensures.machine ∙ left_by_pump c.args.machine.now in
    let told = c.pump-told.ensures.event ∙ told_by_pump c.args.machine.now in
    ap₂ course left (c.count_pump.ensures.row ∙ ap (with_pumped c.args.row.now) told)
