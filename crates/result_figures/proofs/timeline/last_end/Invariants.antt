use Rattle.std.proofs.Common.{◌≡◌, drop}
use Rattle.result_figures.specs.Timelines.{last_end}
use Rattle.result_figures.proofs.timeline.last_end.Given as goal

abbrev pub invariant-loop-mark : goal.invariant-loop-mark
invariant-loop-mark l = last_end 0 l.marks ≡ last_end l.last (drop l.mark-index l.marks)
