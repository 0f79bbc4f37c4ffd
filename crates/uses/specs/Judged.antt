-- What flat memory says of a line of a recorded run, and what it then is.
use Rattle.std.specs.Prelude.{Option, Some, None, Result, Ok, Err}
use Rattle.std.specs.Option.{unwrap_or}
use Rattle.machine_core.specs.Words.{Answer}
use Rattle.flat_model.specs.Flat.{Flat, flat_step}
use Rattle.trace_text.specs.declared.lines.Line.{Line}
use Rattle.trace_text.specs.declared.lines.Line.TheVariants as line
use Rattle.trace_text.specs.declared.lines.LineFault.{LineFault}
use Rattle.trace_text.specs.declared.pairs.Pair.{Pair}
use Rattle.uses.specs.declared.judge.Verdict.{Verdict}
use Rattle.uses.specs.declared.judge.Verdict.TheVariants.{Explained, Wrong, Passed, Faulty}

abbrev pub step_verdict : Option Flat → Verdict
step_verdict (Some s) = Explained
step_verdict None = Wrong

abbrev pub pair_verdict : Line → Option Answer → Flat → Verdict
pair_verdict (line.Event event) (Some answer) s = step_verdict (flat_step s event answer)
pair_verdict line answer s = Passed

-- what is said of a line
abbrev pub verdict_of : Result Pair LineFault → Flat → Verdict
verdict_of (Ok pair) s = pair_verdict pair.line pair.answer s
verdict_of (Err fault) s = Faulty fault

abbrev pub pair_after : Line → Option Answer → Flat → Flat
pair_after (line.Event event) (Some answer) s = unwrap_or (flat_step s event answer) s
pair_after line answer s = s

-- the memory after a line
abbrev pub memory_after : Result Pair LineFault → Flat → Flat
memory_after (Ok pair) s = pair_after pair.line pair.answer s
memory_after (Err fault) s = s
