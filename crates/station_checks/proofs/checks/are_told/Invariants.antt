use Rattle.std.proofs.Common.{◌≡◌, ℕ, ◌<◌}
use Rattle.station_journal.specs.Parts.{told_of}
use Rattle.station_parts.specs.Runs.{list_in}
use Rattle.station_checks.proofs.checks.are_told.Given as goal

abbrev pub invariant-loop-port : goal.invariant-loop-port
invariant-loop-port l = (p : ℕ) → p < l.port → list_in l.lists p ≡ told_of p l.journal
