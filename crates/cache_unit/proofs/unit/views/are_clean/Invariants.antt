use Rattle.std.proofs.Common.{◌≡◌, true, not, take}
use Rattle.std.specs.List.{list_all}
use Rattle.flat_model.specs.Words.{has_any}
use Rattle.cache_unit.proofs.unit.views.are_clean.Given as goal

abbrev pub invariant-loop-frame : goal.invariant-loop-frame
invariant-loop-frame l = list_all (λ f. list_all (λ cell. not (has_any cell.dirty)) f.cells) (take l.frame l.directory.frames) ≡ true
