use Rattle.std.proofs.Common.{◌≡◌, ◌++◌, take, map}
use Rattle.result_figures.specs.Sweeps.{column}
use Rattle.result_figures.proofs.sweep.push_columns.Given as goal

abbrev pub invariant-loop-row : goal.invariant-loop-row
invariant-loop-row l = l.marks.items ≡ l.initial.marks.items ++ map column (take l.row-index l.rows)
