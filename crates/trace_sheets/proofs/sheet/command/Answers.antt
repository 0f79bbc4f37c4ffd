use Rattle.std.proofs.Common.{Ok, Err}
use Rattle.trace_sheets.proofs.Lines.{line_alone}
use Rattle.trace_sheets.proofs.sheet.command.Goals as goal

pub returns-in-Ok-clause-ok : goal.returns-in-Ok-clause-ok
returns-in-Ok-clause-ok c =
    line_alone c.args.text.now (Ok c.in-Ok.line) c.requires.some c.requires.arrow c.requires.whole c.in-Ok.ensures.line

pub returns-in-Err-clause-fault : goal.returns-in-Err-clause-fault
returns-in-Err-clause-fault c = (
  line_alone c.args.text.now (Err c.in-Err.fault) c.requires.some c.requires.arrow c.requires.whole c.in-Err.ensures.line,
  c.in-Err.ensures.fault,
)
