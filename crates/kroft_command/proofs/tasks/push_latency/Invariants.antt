use Rattle.std.proofs.Common.{◌≡◌, ◌++◌, take}
use Rattle.std.specs.List.{flat_map}
use Rattle.std.specs.String.{string_bytes}
use Rattle.result_formats.specs.Counts.{latency_in}
use Rattle.kroft_command.specs.Tool.{line}
use Rattle.kroft_command.proofs.tasks.push_latency.Given as goal

abbrev pub invariant-loop-row : goal.invariant-loop-row
invariant-loop-row l =
    let lines = flat_map (λ row. line (latency_in l.format l.latency row)) (take l.row-index l.rows) in
    string_bytes l.text ≡ string_bytes l.initial.text ++ lines
