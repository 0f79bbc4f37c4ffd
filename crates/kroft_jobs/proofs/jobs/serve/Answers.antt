use Rattle.std.proofs.Common.{refl, subst}
use Rattle.register_sweeps.specs.Machine.{MachineState}
use Rattle.trace_text.specs.Serving.{Ends}
use Rattle.register_sweeps.specs.Sweep.{machine_over}
use Rattle.kroft_jobs.proofs.jobs.serve.Goals as goal

pub returns : goal.returns
returns g c =
    let of : MachineState → Type 0 = λ m. Ends g.I.Source.gave g.I.Source.failed g.O.Sink.took g.O.Sink.refused g.O.Sink.unflushed
    c.args.input.now c.serve_text.new.reader c.args.output.now c.serve_text.new.writer m c.serve_text.new.machine c.serve_text.result in
    (c.serve_text.new.machine, subst of c.in-Ok.ensures.machine c.serve_text.ensures)

pub returns-in_default : goal.returns-in_default
returns-in_default g c = (machine_over c.args.image.now c.args.sizes.now, (refl, refl, refl))
