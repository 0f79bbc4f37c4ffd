use Rattle.std.proofs.Common.{◌≡◌, ◌++◌, take}
use Rattle.result_figures.specs.Timelines.{lives_marks}
use Rattle.result_figures.specs.Turns.{sight_of}
use Rattle.result_figures.proofs.timeline.push_lives.Given as goal

abbrev pub invariant-loop-life : goal.invariant-loop-life
invariant-loop-life l = l.marks.items ≡ l.initial.marks.items ++ lives_marks (sight_of l.seen) (take l.life-index l.lives)
