use Rattle.std.proofs.Common.{◌≡◌, ◌++◌, take, map}
use Rattle.result_figures.specs.Sweeps.{times}
use Rattle.result_figures.proofs.sweep.push_times.Given as goal

abbrev pub invariant-loop-timing : goal.invariant-loop-timing
invariant-loop-timing l = l.marks.items ≡ l.initial.marks.items ++ map times (take l.timing-index l.timings)
