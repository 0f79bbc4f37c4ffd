use Rattle.std.proofs.Common.{◌≡◌, drop}
use Rattle.result_figures.specs.Scales.{step_among}
use Rattle.result_figures.proofs.scale.step_among.Given as goal

-- no power of ten so far has such a step
abbrev pub invariant-loop-ten : goal.invariant-loop-ten
invariant-loop-ten l = step_among l.tens l.most l.steps ≡ step_among (drop l.ten-index l.tens) l.most l.steps
