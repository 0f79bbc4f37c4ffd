use Rattle.std.proofs.Common.{◌≡◌, drop}
use Rattle.result_figures.specs.Lives.{returned_to}
use Rattle.result_figures.proofs.lives.returned_to.Given as goal

abbrev pub invariant-loop-note : goal.invariant-loop-note
invariant-loop-note l = returned_to l.life l.notes ≡ returned_to l.life (drop l.note-index l.notes)
