-- What became of each request of a run.
use Rattle.std.specs.Prelude.{ℕ, ◌&&◌, if◌then◌else◌, nat_lt, List, [], ◌∷◌, ◌++◌, length, Option, Some, None}
use Rattle.machine_core.specs.Words.{Answer, Accepted, Lookup}
use Rattle.machine_core.specs.Words as lookup
use Rattle.round_driver.specs.Rounds.{is_end}
use Rattle.round_driver.specs.Walks.{is_request}
use Rattle.round_driver.specs.Recordings.{Recorded}
use Rattle.round_driver.specs.declared.note.Note.{Note}
use Rattle.round_driver.specs.declared.outcomes.Outcome.{Outcome}
use Rattle.round_driver.specs.declared.outcomes.Outcome.TheVariants.{Hit, Join, Miss, Evicted, Denied}

-- what became of a request, by the answer that ended it and by what it found
abbrev pub outcome_by : Answer → Option Lookup → Outcome
outcome_by Accepted (Some lookup.Hit) = Hit
outcome_by Accepted (Some lookup.Join) = Join
outcome_by Accepted (Some lookup.Miss) = Miss
outcome_by Accepted None = Evicted
outcome_by answer found = Denied

-- what became of the requests that were accepted or denied, in this order
abbrev pub outcomes_of : List Note → List Outcome
outcomes_of [] = []
outcomes_of (n ∷ ns) =
    if is_request n.event && is_end n.answer then outcome_by n.answer n.found ∷ outcomes_of ns else outcomes_of ns

-- ---- while a run goes on

abbrev pub nothing_recorded : ℕ → Recorded
nothing_recorded room = record { ended = []; room = room }

abbrev pub with_outcome : Recorded → Outcome → Recorded
with_outcome r o = record r { ended = if nat_lt (length r.ended) r.room then r.ended ++ o ∷ [] else r.ended }

unfoldable pub with_note : Recorded → Note → Recorded
with_note r n = if is_request n.event && is_end n.answer then with_outcome r (outcome_by n.answer n.found) else r

abbrev pub with_notes : Recorded → List Note → Recorded
with_notes r [] = r
with_notes r (n ∷ ns) = with_notes (with_note r n) ns
