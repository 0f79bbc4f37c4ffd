use Rattle.std.proofs.Common.{sym, subst}
use Rattle.register_sweeps.specs.Sweep.{machine_over}
use Rattle.kroft_jobs.specs.Lengths.{IsMeasured}
use Rattle.kroft_jobs.proofs.Measured.{whole_measured, front_measured}
use Rattle.kroft_jobs.proofs.drive.measure_run.Goals as goal

pub returns-in-Ok-clause-measured : goal.returns-in-Ok-clause-measured
returns-in-Ok-clause-measured c =
    let s = machine_over c.args.image.now c.args.sizes.now in
    let first = c.new-measure in
    let known = whole_measured c.args.timing s c.args.requests.now first.result c.drive_all.new.output c.in-Ok.rounds
    first.ensures.lines first.ensures.text c.in-Ok.ensures in
    subst (IsMeasured c.args.timing s c.args.requests.now) (sym c.length.ensures) known

pub returns-in-Err-Write-clause-measured : goal.returns-in-Err-Write-clause-measured
returns-in-Err-Write-clause-measured c =
    let s = machine_over c.args.image.now c.args.sizes.now in
    front_measured c.args.timing s c.args.requests.now c.new-measure.result c.drive_all.new.output c.in-Err-Write.field-0
    c.new-measure.ensures.lines c.in-Err-Write.field-0-is c.in-Err-Write.ensures
