use Rattle.std.proofs.Common.{◌≡◌, ◌++◌, drop}
use Rattle.result_figures.specs.Lives.{lives_of, lives_from}
use Rattle.result_figures.proofs.lives.lives_of.Given as goal

abbrev pub invariant-loop-note : goal.invariant-loop-note
invariant-loop-note l = lives_of l.notes ≡ l.all.items ++ lives_from l.refused (drop l.note-index l.notes)
