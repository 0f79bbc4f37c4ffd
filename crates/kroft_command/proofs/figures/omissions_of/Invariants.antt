use Rattle.std.proofs.Common.{◌≡◌, take}
use Rattle.std.specs.String.{string_bytes}
use Rattle.result_figures.specs.Marks.{omissions_text}
use Rattle.kroft_command.proofs.figures.omissions_of.Given as goal

abbrev pub invariant-loop-mark : goal.invariant-loop-mark
invariant-loop-mark l = string_bytes l.text ≡ omissions_text (take l.mark-index l.marks)
