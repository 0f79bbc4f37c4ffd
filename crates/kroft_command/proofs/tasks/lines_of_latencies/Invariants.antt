use Rattle.std.proofs.Common.{◌≡◌, map, take}
use Rattle.std.specs.List.{flat_map}
use Rattle.std.specs.String.{string_bytes}
use Rattle.kroft_command.specs.Program.{latency_lines, swept_rows}
use Rattle.kroft_command.proofs.tasks.lines_of_latencies.Given as goal

abbrev pub invariant-loop-one : goal.invariant-loop-one
invariant-loop-one l = string_bytes l.text ≡ flat_map (latency_lines l.format) (map swept_rows (take l.one-index l.swept))
