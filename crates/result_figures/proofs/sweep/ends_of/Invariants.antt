use Rattle.std.proofs.Common.{◌≡◌, drop, map}
use Rattle.result_figures.specs.Sweeps.{no_rows, with_lines, told}
use Rattle.result_figures.proofs.sweep.ends_of.Given as goal

abbrev pub invariant-loop-line : goal.invariant-loop-line
invariant-loop-line l = with_lines no_rows (map told l.lines) ≡ with_lines l.all (map told (drop l.line-index l.lines))
