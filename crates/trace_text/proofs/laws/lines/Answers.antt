use Rattle.trace_text.proofs.Written.{line_is, line_back}
use Rattle.trace_text.proofs.laws.lines.Goals as goal

pub returns-clause-read : goal.returns-clause-read
returns-clause-read c = line_is

pub returns-clause-written : goal.returns-clause-written
returns-clause-written c = line_back
