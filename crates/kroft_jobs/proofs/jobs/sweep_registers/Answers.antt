use Rattle.std.proofs.Common.{Err, refl, ap, ◌∙◌, arith}
use Rattle.kroft_jobs.specs.Jobs.{swept}
use Rattle.kroft_jobs.proofs.Sweeping.{unswept}
use Rattle.kroft_jobs.proofs.jobs.sweep_registers.Goals as goal

pub returns-in_err-rows-clause-fault : goal.returns-in_err-rows-clause-fault
returns-in_err-rows-clause-fault g c =
    let read = c.in_ok-requests.ensures.read in
    let told = c.from_residual-in_err-rows in
    let made = c.as_slice-2.ensures.value ∙ c.in_ok-machines.ensures in
    unswept g.I.Source.gave g.I.Source.failed (swept c.args.sizes.now c.args.registers.now) c.args.input.now c.read_requests.new.reader
    read.0 read.1 c.as_slice-2.result.now made c.in_err-rows.field-0.0
    (λ limit. c.in_err-rows.ensures.begins refl (omega arith) (ap Err limit)) c.in_err-rows.ensures.fault told.result told.ensures.1
