use Rattle.std.proofs.Common.{[], ◌∙◌, ap, sym}
use Rattle.trace_sheets.specs.Sheets.{is_prediction}
use Rattle.trace_sheets.proofs.Lines.{left_out}
use Rattle.trace_sheets.proofs.sheet.reads_nothing.Goals as goal

pub returns-in-Event : goal.returns-in-Event
returns-in-Event c = sym (ap (λ l. is_prediction l []) c.in-Event.is ∙ left_out c.in-Event.field-0)
