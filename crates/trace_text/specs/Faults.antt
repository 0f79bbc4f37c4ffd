-- What is told of a fault.
use Rattle.std.specs.Prelude.{List, ℕ, ◌++◌, codes, decimal}
use Rattle.trace_text.specs.declared.lines.LineFault.{LineFault}
use Rattle.trace_text.specs.declared.lines.LineFault.TheVariants.{Unknown, Field, TooLong, NotEnded}
use Rattle.trace_text.specs.declared.fault.TraceFault.{TraceFault}
use Rattle.trace_text.specs.declared.fault.TraceFault.TheVariants.{Line, Read, Write, OutOfMemory, TooManyLines}

-- why a line can't be read
abbrev pub line_fault_text : LineFault → List ℕ
line_fault_text Unknown = codes "unknown command"
line_fault_text Field = codes "bad field"
line_fault_text TooLong = codes "line too long"
line_fault_text NotEnded = codes "line not ended"

-- why a trace wasn't read or served to its end
abbrev pub trace_fault_text : TraceFault → List ℕ
trace_fault_text (Line number fault) = codes "line " ++ (decimal number ++ (codes ": " ++ line_fault_text fault))
trace_fault_text Read = codes "read failed"
trace_fault_text Write = codes "write failed"
trace_fault_text OutOfMemory = codes "out of memory"
trace_fault_text TooManyLines = codes "too many lines"
