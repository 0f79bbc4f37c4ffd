use Rattle.std.proofs.Common.{◌≡◌, ◌++◌, take}
use Rattle.std.specs.List.{flat_map}
use Rattle.std.specs.String.{string_bytes}
use Rattle.run_pictures.specs.Screens.{line_text}
use Rattle.run_pictures.proofs.screens.push_picture.Given as goal

-- the lines so far
abbrev pub invariant-loop-cell : goal.invariant-loop-cell
invariant-loop-cell l = string_bytes l.screen ≡ string_bytes l.initial.screen
    ++ flat_map (line_text l.is_whole l.owners.items) (take l.cell-index l.cells)
