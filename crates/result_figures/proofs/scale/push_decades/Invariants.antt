use Rattle.std.proofs.Common.{◌≡◌, ◌++◌, take}
use Rattle.result_figures.specs.Scales.{decades}
use Rattle.result_figures.proofs.scale.push_decades.Given as goal

abbrev pub invariant-loop-ten : goal.invariant-loop-ten
invariant-loop-ten l = l.marks.items ≡ l.initial.marks.items ++ decades l.ends.0 l.ends.1 (take l.ten-index l.tens)
