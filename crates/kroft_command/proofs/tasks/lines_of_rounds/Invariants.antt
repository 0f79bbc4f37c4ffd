use Rattle.std.proofs.Common.{◌≡◌, take}
use Rattle.std.specs.List.{flat_map}
use Rattle.std.specs.String.{string_bytes}
use Rattle.result_formats.specs.Counts.{rounds_in}
use Rattle.kroft_command.specs.Tool.{line}
use Rattle.kroft_command.proofs.tasks.lines_of_rounds.Given as goal

abbrev pub invariant-loop-row : goal.invariant-loop-row
invariant-loop-row l = string_bytes l.text ≡ flat_map (λ row. line (rounds_in l.format row)) (take l.row-index l.rows)
