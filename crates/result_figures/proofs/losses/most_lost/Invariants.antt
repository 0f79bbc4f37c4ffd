use Rattle.std.proofs.Common.{◌≡◌, drop}
use Rattle.result_figures.specs.Losses.{most_lost}
use Rattle.result_figures.proofs.losses.most_lost.Given as goal

abbrev pub invariant-loop-loss : goal.invariant-loop-loss
invariant-loop-loss l = most_lost 0 l.all ≡ most_lost l.most (drop l.loss-index l.all)
