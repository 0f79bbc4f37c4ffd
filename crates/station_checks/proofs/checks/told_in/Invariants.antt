use Rattle.std.proofs.Common.{◌≡◌, take}
use Rattle.station_journal.specs.Parts.{told_of}
use Rattle.station_checks.proofs.checks.told_in.Given as goal

abbrev pub invariant-loop-entry : goal.invariant-loop-entry
invariant-loop-entry l = l.told.items ≡ told_of l.port (take l.entry-index l.journal)
