use Rattle.std.proofs.Common.{◌≡◌, ◌++◌, take, map}
use Rattle.std.specs.List.{flat_map}
use Rattle.result_figures.specs.Sweeps.{line_marks, told}
use Rattle.result_figures.proofs.sweep.push_lines.Given as goal

abbrev pub invariant-loop-line : goal.invariant-loop-line
invariant-loop-line l = l.marks.items ≡ l.initial.marks.items ++ flat_map line_marks (map told (take l.line-index l.lines))
