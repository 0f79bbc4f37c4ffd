use Rattle.std.proofs.Common.{◌≡◌, ◌++◌, map, take}
use Rattle.trace_sheets.specs.Forms.{shown_byte}
use Rattle.trace_sheets.proofs.grade.push_shown.Given as goal

abbrev pub invariant-loop-byte : goal.invariant-loop-byte
invariant-loop-byte l = l.report.items ≡ l.initial.report.items ++ map shown_byte (take l.byte-index l.text)
