use Rattle.std.proofs.Common.{ap, ◌∙◌, map, inl}
use Rattle.result_figures.specs.Sweeps.{told, sweep_marks}
use Rattle.kroft_command.specs.Program.{swept_rows}
use Rattle.kroft_command.proofs.figures.draw_sweep.Goals as goal

pub returns-clause-ends : goal.returns-clause-ends
returns-clause-ends g c =
    let read = c.in_ok-rows.ensures.rows in
    let lines = ap (map told) c.as_slice-2.ensures.value ∙ c.in_ok-lines.ensures ∙ ap (map swept_rows) c.as_slice.ensures.value in
    let marks = c.in_ok-marks.ensures ∙ ap (sweep_marks c.args.sizes.now c.args.scale c.args.timings.now) lines in
    inl (c.in_ok-marks.marks.items, (read.0, c.in_ok-rows.rows.items, read.1, read.2, marks), c.put_figure.ensures.ends)
