use Rattle.std.proofs.Common.{◌≡◌, map, take}
use Rattle.result_figures.specs.Sweeps.{told}
use Rattle.kroft_command.specs.Program.{swept_rows}
use Rattle.kroft_command.proofs.figures.lines_of_figure.Given as goal

abbrev pub invariant-loop-one : goal.invariant-loop-one
invariant-loop-one l = map told l.lines.items ≡ map swept_rows (take l.one-index l.swept)
