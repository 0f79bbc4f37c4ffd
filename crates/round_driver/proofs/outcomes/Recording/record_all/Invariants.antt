use Rattle.std.proofs.Common.{◌≡◌, drop}
use Rattle.round_driver.specs.Outcomes.{with_notes}
use Rattle.round_driver.proofs.outcomes.Recording.record_all.Given as goal

-- the notes that are left record what all of them do
abbrev pub invariant-loop-note : goal.invariant-loop-note
invariant-loop-note l = with_notes l.initial.self l.notes ≡ with_notes l.self (drop l.note-index l.notes)
