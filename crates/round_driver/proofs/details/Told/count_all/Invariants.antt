use Rattle.std.proofs.Common.{◌≡◌, ◌+◌, ◌*◌, ◌^◌, ◌≤◌, drop}
use Rattle.round_driver.specs.Details.{counted_all, told_total, told_rounds}
use Rattle.round_driver.proofs.details.Told.count_all.Given as goal

-- the notes that are left count what all of them do
abbrev pub invariant-loop-note : goal.invariant-loop-note
invariant-loop-note l =
    record {
      counts : counted_all l.numbers l.initial.self l.notes ≡ counted_all l.numbers l.self (drop l.note-index l.notes);
      total : told_total l.self ≤ told_total l.initial.self + 4 * l.note-index;
      rounds : told_rounds l.self ≤ told_rounds l.initial.self + 2 ^ 65 * l.note-index;
    }
