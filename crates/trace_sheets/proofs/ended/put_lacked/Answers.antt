use Rattle.std.proofs.Common.{◌∙◌, ap, sym}
use Rattle.trace_sheets.specs.Ends.{lacked}
use Rattle.trace_sheets.proofs.Along.{first_set}
use Rattle.trace_sheets.proofs.ended.put_lacked.Goals as goal

pub returns-in-Within-clause-put : goal.returns-in-Within-clause-put
returns-in-Within-clause-put c = first_set c.args.buf.now 10 c.requires ∙ ap lacked (sym c.in-Within.is)
