use Rattle.std.proofs.Common.{◌∙◌, Some, Ok, Err, ap, sym}
use Rattle.trace_sheets.specs.Sheets.{front_of, is_prediction}
use Rattle.trace_sheets.proofs.Lines.{line_unanswered}
use Rattle.trace_sheets.proofs.sheet.left_out.Goals as goal

pub returns-in-Err-clause-fault : goal.returns-in-Err-clause-fault
returns-in-Err-clause-fault c = (
  line_unanswered c.args.text.now (Err c.in-Err.fault) c.requires.some c.requires.arrow c.requires.ends
      (c.in-Err.ensures.line ∙ ap front_of c.requires.begun),
  c.in-Err.ensures.fault,
)

pub returns-in-Ok-clause-ok : goal.returns-in-Ok-clause-ok
returns-in-Ok-clause-ok c = (
  line_unanswered c.args.text.now (Ok c.in-Ok.line) c.requires.some c.requires.arrow c.requires.ends
      (c.in-Ok.ensures.line ∙ ap front_of c.requires.begun)
      ∙ ap (λ s. Ok (Some (c.in-Ok.line, Some s))) (sym c.as_slice.ensures),
  c.reads_nothing.ensures ∙ ap (is_prediction c.in-Ok.line) (sym c.as_slice.ensures),
)
