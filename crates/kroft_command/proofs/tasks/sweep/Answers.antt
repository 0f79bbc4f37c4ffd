use Rattle.std.proofs.Common.{ℕ, List, subst}
use Rattle.kroft_jobs.specs.Words.{Timing}
use Rattle.kroft_command.specs.Program.{Sweeps}
use Rattle.kroft_command.specs.Tool.{timings_in}
use Rattle.kroft_command.proofs.tasks.sweep.Goals as goal

pub sweep_by-requires-clause-timely : goal.sweep_by-requires-clause-timely
sweep_by-requires-clause-timely g c κs outlives = c.as_slice.ensures.timely c.requires

pub returns-clause-ends : goal.returns-clause-ends
returns-clause-ends g c =
    let done = c.sweep_by in
    let rows = c.as_slice-registers in
    let of : List Timing → List ℕ → Type 0 = λ ts rs. Sweeps g.I.Source.gave g.I.Source.failed g.O.Sink.took g.O.Sink.refused
    g.O.Sink.unflushed g.E.Sink.took g.E.Sink.refused g.E.Sink.unflushed ts c.args.form c.args.sizes.now rs
    c.args.errors.now done.new.errors c.args.input.now done.new.input c.args.output.now done.new.output done.result in
    let timed = subst (λ ts. of ts rows.result.now) c.as_slice.ensures.given done.ensures.ends in
    subst (of (timings_in c.args.timings.now)) rows.ensures timed
