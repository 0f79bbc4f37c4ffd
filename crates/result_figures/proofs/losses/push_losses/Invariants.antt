use Rattle.std.proofs.Common.{◌≡◌, ◌++◌, take}
use Rattle.result_figures.specs.Losses.{losses_marks}
use Rattle.result_figures.proofs.losses.push_losses.Given as goal

abbrev pub invariant-loop-loss : goal.invariant-loop-loss
invariant-loop-loss l = l.marks.items ≡ l.initial.marks.items ++ losses_marks (take l.loss-index l.all)
