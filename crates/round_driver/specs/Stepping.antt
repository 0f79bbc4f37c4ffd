-- Rounds that are made one at a time, beside a machine.
use Rattle.std.specs.Prelude.{◌≡◌, ◌≤◌, ℕ, ◌*◌, ◌^◌, Bool, true, false, List, [], ◌∷◌, length, drop, Option, Some}
use Rattle.std.specs.Prelude.{None, slice_get, ◌-◌}
use Rattle.std.specs.List.{find, filter, list_all}
use Rattle.flat_model.specs.declared.limits.TheConstants.{MAX_BANKS}
use Rattle.machine_core.specs.Words.{Event, Answer, Accepted, Moved, Value, Nothing, Refused}
use Rattle.machine_core.specs.Pump.{until}
use Rattle.machine_core.specs.Machine.{MachineState}
use Rattle.round_driver.specs.declared.note.Note.{Note}
use Rattle.round_driver.specs.declared.round.TheConstants.{MOST_NOTES}
use Rattle.round_driver.specs.declared.schedule.Schedule.{Schedule}
use Rattle.round_driver.specs.declared.stepping.TheConstants.{MOST_ROUNDS}
use Rattle.round_driver.specs.declared.stepping.RoundReport.{RoundReport}
use Rattle.round_driver.specs.declared.table.TheConstants.{TAGS}
use Rattle.round_driver.specs.declared.table.Counter.{Counter}
use Rattle.round_driver.specs.declared.table.Table.{Table}
use Rattle.round_driver.specs.declared.timing.Timing.{Timing}
use Rattle.round_driver.specs.Rounds.{Run, run_of, opening, after_round, is_over_at, rounds_until_over, start_of}
use Rattle.round_driver.specs.Walks.{is_request}
use Rattle.round_driver.specs.Tables.{Counting, counted_all, nothing, with_rounds, total}

-- ---- what stands beside the machine

-- where the rounds stand in time, and what was counted of them
pub record RoundsState : Type 0 where
  pub schedule : Schedule
  pub counting : Counting

-- no round was made
abbrev pub first_round : Timing → RoundsState
first_round timing = record { schedule = opening timing; counting = nothing }

-- How much was counted of so many rounds, at most.
pub record IsWithin (schedule : Schedule) (counter : Counter) : Type 0 where
  pub next : schedule.next ≤ MAX_BANKS
  pub rounds : schedule.round ≤ MOST_ROUNDS
  pub counted : total counter.table ≤ 2 * MOST_NOTES * schedule.round
  pub waited : counter.table.waited ≤ MOST_NOTES * 2 ^ 64 * schedule.round
  pub tags : TAGS ≤ length counter.since.items

-- the counts of the rounds that were made
abbrev pub table_so_far : RoundsState → Table
table_so_far r = with_rounds r.counting r.schedule.round

-- ---- one round

-- at most one request, as the requests of a run
abbrev pub offered : Option Event → List Event
offered None = []
offered (Some event) = event ∷ []

-- A round in which this request is offered: the round of a run that has no other request. What is told of it is the
-- run's `told`, and the request has ended if none is left.
abbrev pub one_round : MachineState → RoundsState → Option Event → Run
one_round s r request = after_round (run_of s r.schedule (offered request) [])

abbrev pub after_one : RoundsState → Run → RoundsState
after_one r made = record { schedule = made.schedule; counting = counted_all r.counting made.told }

-- what is told of the request that was offered: the last of the round
abbrev pub asked_in : Option Event → List Note → Option Note
asked_in None notes = None
asked_in (Some event) notes = slice_get notes (length notes - 1)

abbrev pub is_value : Answer → Bool
is_value Accepted = false
is_value Moved = false
is_value (Value tag word) = true
is_value Nothing = false
is_value (Refused cause) = false

-- what is told of the load that was answered
abbrev pub answered_in : List Note → Option Note
answered_in notes = find (λ n. is_value n.answer) notes

abbrev pub report_of : Option Event → Run → RoundReport
report_of request made = record { asked = asked_in request made.told; answered = answered_in made.told }

-- A round answers at most one load, unless the request is another event. So the report tells all that were.
abbrev pub answers : List Note → List Note
answers notes = filter (λ n. is_value n.answer) notes

abbrev pub AnswersOneLoad : MachineState → RoundsState → Option Event → Type 0
AnswersOneLoad s r request = list_all is_request (offered request) ≡ true → length (answers (one_round s r request).told) ≤ 1

-- ---- many

-- A machine with its rounds, and the requests that are left. The first one is offered in each round, and the next one
-- follows once it has ended.
pub record Stepped : Type 0 where
  pub state : MachineState
  pub rounds : RoundsState
  pub left : List Event

abbrev pub without_ended : List Event → List Event → List Event
without_ended left (event ∷ rest) = left
without_ended left [] = drop 1 left

abbrev pub step : Stepped → Stepped
step c =
    let made = one_round c.state c.rounds (slice_get c.left 0) in
    record { state = made.state; rounds = after_one c.rounds made; left = without_ended c.left made.left }

-- rounds until the requests are used up and nothing is on its way, n at most
unfoldable pub steps_until_over : ℕ → Stepped → Stepped
steps_until_over n c = until (λ c. is_over_at c.state c.left) step n c

abbrev pub start_of_steps : Timing → MachineState → List Event → Stepped
start_of_steps timing s requests = record { state = s; rounds = first_round timing; left = requests }

-- a run as one of rounds that were made one at a time
abbrev pub steps_of : Run → Stepped
steps_of r = record { state = r.state; rounds = record { schedule = r.schedule; counting = counted_all nothing r.told }; left = r.left }

-- Requests that are offered one round at a time give the run that they give as a list, and its counts.
abbrev pub IsSameRun : Timing → MachineState → List Event → ℕ → Type 0
IsSameRun timing s requests n =
    steps_until_over n (start_of_steps timing s requests) ≡ steps_of (rounds_until_over n (start_of timing s requests))
