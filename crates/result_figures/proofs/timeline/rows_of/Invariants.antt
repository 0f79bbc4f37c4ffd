use Rattle.std.proofs.Common.{◌≡◌, take, map}
use Rattle.result_figures.specs.Timelines.{all_marks, told}
use Rattle.result_figures.proofs.timeline.rows_of.Given as goal

abbrev pub invariant-loop-run : goal.invariant-loop-run
invariant-loop-run l = l.rows.items ≡ all_marks (map told (take l.run-index l.runs))
