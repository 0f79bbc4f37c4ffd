use Rattle.std.proofs.Common.{◌≡◌, ◌++◌, take}
use Rattle.result_figures.specs.Scales.{multiples}
use Rattle.result_figures.proofs.scale.push_multiples.Given as goal

abbrev pub invariant-loop-count : goal.invariant-loop-count
invariant-loop-count l = l.marks.items ≡ l.initial.marks.items ++ multiples l.step l.most (take l.count-index l.counts)
