use Rattle.std.proofs.Common.{subst}
use Rattle.register_sweeps.specs.Sweep.{machine_over}
use Rattle.kroft_jobs.specs.Lengths.{IsMeasured}
use Rattle.kroft_jobs.proofs.Measured.{kept_driven}
use Rattle.kroft_jobs.proofs.drive.tell_and_drive.Goals as goal

pub returns-in-Kept : goal.returns-in-Kept
returns-in-Kept g c =
    let s = machine_over c.args.image.now c.args.sizes.now in
    let kept = c.in-Kept in
    let put = c.put_run in
    let measured = subst (IsMeasured c.args.timing s c.args.requests.now) kept.is c.in_ok-text.ensures.measured in
    kept_driven c.args.timing s c.args.requests.now g.O.Sink.took g.O.Sink.refused c.args.output.now put.new.output
    g.E.Sink.took g.E.Sink.refused g.E.Sink.unflushed c.args.errors.now kept.text c.as_slice.result.now kept.rounds measured
    c.as_slice.ensures.value put.result put.ensures.ok put.ensures.rounds put.ensures.err put.ensures.fault
