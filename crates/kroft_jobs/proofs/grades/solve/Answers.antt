use Rattle.std.proofs.Common.{◌∙◌, ap}
use Rattle.register_sweeps.specs.Sweep.{machine_over}
use Rattle.trace_sheets.specs.Solutions.{solved}
use Rattle.kroft_jobs.proofs.Sheets.{solution_put}
use Rattle.kroft_jobs.proofs.grades.solve.Goals as goal

pub returns : goal.returns
returns g c =
    let source = g.I.Source in
    let sink = g.O.Sink in
    let solution = c.in_ok-solution.ensures in
    solution_put source.gave source.failed sink.took sink.refused sink.unflushed (machine_over c.args.image.now c.args.sizes.now)
    c.args.input.now c.solve_sheet.new.reader c.args.output.now c.put_text.new.output solution.0 c.as_slice.result.now solution.1
    (c.as_slice.ensures.value ∙ solution.2.text ∙ ap (λ m. solved m solution.0) c.in_ok-machine.ensures.machine)
    c.put_text.result c.put_text.ensures.ok c.put_text.ensures.err c.put_text.ensures.fault
