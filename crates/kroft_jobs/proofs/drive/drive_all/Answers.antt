use Rattle.std.proofs.Common.{subst}
use Rattle.register_sweeps.specs.Machine.{MachineState}
use Rattle.kroft_jobs.specs.Driving.{IsDriven}
use Rattle.kroft_jobs.proofs.Measured.{run_driven}
use Rattle.kroft_jobs.proofs.drive.drive_all.Goals as goal

pub returns : goal.returns
returns g c =
    let output = c.args.output.now in
    let made = c.drive_with in
    let of : MachineState → Type 0 = λ m. IsDriven g.O.Sink.took g.O.Sink.refused c.args.timing m c.args.requests.now output
    made.new.writer made.result in
    let driven = run_driven c.args.timing c.in-Ok.machine c.args.requests.now g.O.Sink.took g.O.Sink.refused output made.new.writer
    c.requires.all c.keeps_whole.ensures made.new.machine made.result made.ensures.ok made.ensures.over made.ensures.written
    made.ensures.fault in
    subst of c.in-Ok.ensures.machine driven
