-- Rounds that C has made one at a time in the machine behind a handle.
use Rattle.std.specs.Prelude.{ℕ, nat_lt, Bool, true, if◌then◌else◌, List, [], ◌∷◌, Option, Some, None, is_some, slice_get}
use Rattle.std.specs.Option.{option_map, option_and_then}
use Rattle.machine_core.specs.Words.{Event, Answer, Accepted, Moved, Value, Nothing, Refused, Lookup}
use Rattle.flat_model.specs.Causes.{ends_request}
use Rattle.machine_core.specs.Machine.{MachineState}
use Rattle.round_driver.specs.declared.driving.TheConstants.{MOST_LATENCY}
use Rattle.round_driver.specs.declared.note.Note.{Note}
use Rattle.round_driver.specs.declared.stepping.TheConstants.{MOST_ROUNDS}
use Rattle.round_driver.specs.declared.stepping.RoundReport.{RoundReport}
use Rattle.round_driver.specs.Rounds.{Run}
use Rattle.round_driver.specs.Stepping.{RoundsState, first_round, one_round, after_one, report_of, table_so_far}
use Rattle.flat_judge.specs.declared.rows.EventRow.{EventRow}
use Rattle.flat_judge.specs.Rows.{answer_row}
use Rattle.machine_handles.specs.declared.rounds.CountsRow.{CountsRow}
use Rattle.machine_handles.specs.declared.rounds.RoundsFault.{RoundsFault}
use Rattle.machine_handles.specs.declared.rounds.RoundsFault.TheVariants.{Closed, NoRounds, BadLatency, TooMany, NoRequest}
use Rattle.machine_handles.specs.declared.stepping.RoundRow.{RoundRow}
use Rattle.machine_handles.specs.Behind.{Standing, standing_with, alone}
use Rattle.machine_handles.specs.Parts.{lookup_number}
use Rattle.machine_handles.specs.Rounds.{is_request_row, request_of, timing, counts_row, rounds_number}

-- ---- rounds are begun and ended

-- why none are begun: none, where only memory can be wanting
abbrev pub begin_fault : Option Standing → ℕ → Option RoundsFault
begin_fault None latency = Some Closed
begin_fault (Some b) latency = if nat_lt MOST_LATENCY latency then Some BadLatency else None

-- no round was made yet, whatever was begun before
abbrev pub begun : ℕ → ℕ → Option Standing → Option Standing
begun latency busy b = option_map (λ b. standing_with (Some (first_round (timing latency busy))) b.state) b

abbrev pub ended : Option Standing → Option Standing
ended b = option_map (λ b. alone b.state) b

-- ---- a round

-- the request that is offered: the first of these rows
abbrev pub request_in : List EventRow → Option Event
request_in rows = option_map request_of (slice_get rows 0)

abbrev pub is_offer : List EventRow → Bool
is_offer [] = true
is_offer (row ∷ rows) = is_request_row row

-- why no round is made
abbrev pub fault_in : Option RoundsState → List EventRow → Option RoundsFault
fault_in None rows = Some NoRounds
fault_in (Some r) rows =
    if is_offer rows then (if nat_lt r.schedule.round MOST_ROUNDS then None else Some TooMany) else Some NoRequest

abbrev pub round_fault : Option Standing → List EventRow → Option RoundsFault
round_fault None rows = Some Closed
round_fault (Some b) rows = fault_in b.rounds rows

-- the round that is made, and what stands behind the handle then
abbrev pub made_in : Option RoundsState → MachineState → List EventRow → Option Run
made_in None s rows = None
made_in (Some r) s rows = Some (one_round s r (request_in rows))

abbrev pub made : Option Standing → List EventRow → Option Run
made b rows = option_and_then (λ b. made_in b.rounds b.state rows) b

abbrev pub after_round_in : Option RoundsState → MachineState → List EventRow → Standing
after_round_in None s rows = alone s
after_round_in (Some r) s rows =
    let made = one_round s r (request_in rows) in
    record { state = made.state; rounds = Some (after_one r made) }

abbrev pub after_round : Option Standing → List EventRow → Option Standing
after_round b rows = option_map (λ b. after_round_in b.rounds b.state rows) b

-- ---- what C is told of a round

-- what became of the request: none was offered, it was accepted, it has to be offered again, or it is denied
abbrev pub outcome_of : Answer → ℕ
outcome_of Accepted = 1
outcome_of Moved = 0
outcome_of (Value tag word) = 0
outcome_of Nothing = 0
outcome_of (Refused cause) = if ends_request cause then 3 else 2

-- the answer of an event, or nothing
abbrev pub answer_of : Option Note → Answer
answer_of None = Nothing
answer_of (Some n) = n.answer

abbrev pub found_in : Option Note → Option Lookup
found_in None = None
found_in (Some n) = n.found

abbrev pub found_number : Option Lookup → ℕ
found_number None = 3
found_number (Some lookup) = lookup_number lookup

abbrev pub row_of : ℕ → RoundReport → RoundRow
row_of round report =
    let told = answer_row (answer_of report.asked) in
    let value = answer_row (answer_of report.answered) in
    record {
      round = round;
      outcome = outcome_of (answer_of report.asked);
      cause = told.cause;
      found = found_number (found_in report.asked);
      answered = if is_some report.answered then 1 else 0;
      tag = value.tag;
      word = value.word;
    }

abbrev pub round_row : List EventRow → Run → RoundRow
round_row rows made = row_of made.schedule.round (report_of (request_in rows) made)

-- ---- the counts

abbrev pub counts_in : Option Standing → Option CountsRow
counts_in b = option_and_then (λ b. option_map (λ r. counts_row (table_so_far r)) b.rounds) b

-- why there are no rounds to tell of or to end
abbrev pub absent_in : Option RoundsState → Option RoundsFault
absent_in None = Some NoRounds
absent_in (Some r) = None

abbrev pub absent : Option Standing → Option RoundsFault
absent None = Some Closed
absent (Some b) = absent_in b.rounds

-- C is told of a fault by its number, and of none by 0
abbrev pub fault_status : Option RoundsFault → ℕ
fault_status None = 0
fault_status (Some fault) = rounds_number fault
