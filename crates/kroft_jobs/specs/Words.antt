-- The types that jobs and the program speak of, in one place.

-- of the machine, and of runs in rounds
pub use Rattle.register_sweeps.specs.Words.{Sizes}
pub use Rattle.flat_model.specs.declared.Event.{Event}
pub use Rattle.flat_model.specs.declared.image.Image.{Image}
pub use Rattle.round_driver.specs.declared.details.Details.{Details}
pub use Rattle.round_driver.specs.declared.driving.TheConstants.{MOST_LATENCY}
pub use Rattle.round_driver.specs.declared.table.Table.{Table}
pub use Rattle.round_driver.specs.declared.timing.Timing.{Timing}
pub use Rattle.register_sweeps.specs.declared.rounds.RoundsRow.{RoundsRow}
pub use Rattle.register_sweeps.specs.declared.sweeps.SweepFault.{SweepFault}
-- of texts and files
pub use Rattle.trace_text.specs.declared.check.CheckEnd.{CheckEnd}
pub use Rattle.trace_text.specs.declared.fault.TheConstants.{MAX_LINE, MAX_LINES, MAX_PAIR}
pub use Rattle.trace_text.specs.declared.fault.TraceFault.{TraceFault}
pub use Rattle.trace_text.specs.declared.lines.LineFault.{LineFault}
pub use Rattle.trace_text.specs.declared.serve.Counts.{Counts}
pub use Rattle.access_logs.specs.declared.access.Access.{Access}
pub use Rattle.access_logs.specs.declared.fault.LogFault.{LogFault}
pub use Rattle.access_logs.specs.declared.pages.TheConstants.{PAGE_WORDS}
pub use Rattle.access_logs.specs.declared.reading.AccessGroup.{AccessGroup}
pub use Rattle.access_logs.specs.declared.writing.TheConstants.{MAX_WORDS}
pub use Rattle.shape_files.specs.declared.machine_file.MachineFault.{MachineFault}
pub use Rattle.shape_files.specs.declared.shape_file.ShapeFault.{ShapeFault}
pub use Rattle.shape_files.specs.declared.shape_file.ToolShape.{ToolShape}
pub use Rattle.run_reasons.specs.declared.explain.Explanation.{Explanation}
-- of what is written
pub use Rattle.named_fields.specs.declared.format.Format.{Format}
pub use Rattle.named_fields.specs.declared.format.VerdictFormat.{VerdictFormat}
pub use Rattle.run_pictures.specs.declared.drawing.Form.{Form}
pub use Rattle.run_pictures.specs.declared.show.ShowFault.{ShowFault}
pub use Rattle.trace_sheets.specs.declared.handed.Question.{Question}
pub use Rattle.trace_sheets.specs.declared.score.Marking.{Marking}
pub use Rattle.trace_sheets.specs.declared.score.Score.{Score}
pub use Rattle.result_formats.specs.declared.accesses.AccessCounts.{AccessCounts}
