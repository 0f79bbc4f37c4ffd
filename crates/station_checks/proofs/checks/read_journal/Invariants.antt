use Rattle.std.proofs.Common.{◌≡◌, take}
use Rattle.station_parts.specs.Words.{held_of}
use Rattle.station_checks.proofs.checks.read_journal.Given as goal

abbrev pub invariant-loop-place : goal.invariant-loop-place
invariant-loop-place l = l.entries.items ≡ take l.place (held_of l.cache)
