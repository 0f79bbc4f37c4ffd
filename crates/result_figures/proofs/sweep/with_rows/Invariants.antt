use Rattle.std.proofs.Common.{◌≡◌, drop}
use Rattle.result_figures.specs.Sweeps.{with_rows}
use Rattle.result_figures.proofs.sweep.with_rows.Given as goal

abbrev pub invariant-loop-row : goal.invariant-loop-row
invariant-loop-row l = with_rows l.fn.ends l.rows ≡ with_rows l.all (drop l.row-index l.rows)
