use Rattle.std.proofs.Common.{◌≡◌, take}
use Rattle.station_journal.specs.Journal.{events_of, answers_of}
use Rattle.station_checks.proofs.checks.pairs_in.Given as goal

abbrev pub invariant-loop-entry : goal.invariant-loop-entry
invariant-loop-entry l =
    record {
      events : l.events.items ≡ events_of (take l.entry-index l.journal);
      answers : l.answers.items ≡ answers_of (take l.entry-index l.journal);
    }
