-- Rounds over a machine: what is made in each, and what is told of it.
use Rattle.std.specs.Prelude.{◌≡◌, ◌<◌, ℕ, zero, suc, ◌+◌, ◌-◌, ◌*◌, Bool, true, false, not, ◌&&◌, if◌then◌else◌, nat_lt, ◌==◌, List, []}
use Rattle.std.specs.Prelude.{◌∷◌, ◌++◌, length, replicate, Option, Some, None, slice_get, slice_set, slice_index_or, drop}
use Rattle.std.specs.Option.{option_or}
use Rattle.flat_model.specs.declared.limits.TheConstants.{MAX_BANKS}
use Rattle.machine_core.specs.Words.{Event, Load, Store, Prefetch, Drain, Serve, Arrive, Process, Take, Answer, Accepted, Moved, Value}
use Rattle.machine_core.specs.Words.{Nothing, Refused, Lookup, Sizes, Miss}
use Rattle.flat_model.specs.Causes.{ends_request}
use Rattle.machine_core.specs.Law.{most_weight}
use Rattle.machine_core.specs.Pump.{until}
use Rattle.machine_core.specs.Machine.{MachineState}
use Rattle.machine_core.specs.AnyMachine.{answered, after_event, weight_of}
use Rattle.round_driver.specs.Machines.{command_count, has_answer, has_stack_room, found_at, used_registers}
use Rattle.trace_text.specs.Codes.{most_lines}
use Rattle.round_driver.specs.declared.note.Note.{Note}
use Rattle.round_driver.specs.declared.schedule.Schedule.{Schedule}
use Rattle.round_driver.specs.declared.timing.Timing.{Timing}
use Rattle.round_driver.specs.Timings.{is_pipelined}

-- ---- where a run stands

-- the machine, the schedule, and what was told in this round
pub record Course : Type 0 where
  pub state : MachineState
  pub schedule : Schedule
  pub notes : List Note

abbrev pub course : MachineState → Schedule → List Note → Course
course s p notes = record { state = s; schedule = p; notes = notes }

-- before the first round: no bank has begun a command
abbrev pub opening : Timing → Schedule
opening timing = record { timing = timing; round = 0; begun = replicate MAX_BANKS []; next = 0 }

-- ---- one event

-- whether an answer says that something was done
abbrev pub is_done : Answer → Bool
is_done Accepted = true
is_done Moved = true
is_done (Value tag word) = true
is_done Nothing = false
is_done (Refused cause) = false

-- what is told of an event that is no request
abbrev pub note_of : Course → Event → Note
note_of c event = record { round = c.schedule.round; event = event; answer = answered c.state event; found = None; registers = 0 }

-- an event is made, and told if it did something
unfoldable pub attempt : Event → Course → Course
attempt event c =
    course (after_event c.state event) c.schedule (if is_done (answered c.state event) then c.notes ++ note_of c event ∷ [] else c.notes)

-- ---- the banks

-- the rounds in which a bank began the commands that it hasn't served, the first one first
abbrev pub begun_at : Schedule → ℕ → List ℕ
begun_at p b = slice_index_or p.begun b []

abbrev pub with_begun : Schedule → ℕ → List ℕ → Schedule
with_begun p b begun = record p { begun = slice_set p.begun b begun }

abbrev pub first_begun : Schedule → ℕ → Option ℕ
first_begun p b = slice_get (begun_at p b) 0

abbrev pub last_begun : Schedule → ℕ → Option ℕ
last_begun p b = slice_get (begun_at p b) (length (begun_at p b) - 1)

-- whether a bank that began its last command then may begin another: a pipelined bank may, if it isn't busy any more
abbrev pub is_free_since : Schedule → Option ℕ → Bool
is_free_since p None = true
is_free_since p (Some begun) = is_pipelined p.timing && not (nat_lt (p.round - begun) p.timing.busy)

-- Whether a bank may begin a command. A command that it began and has served doesn't hold it up: that was begun
-- as many rounds ago as the latency has.
abbrev pub is_free : Schedule → ℕ → Bool
is_free p b = is_free_since p (last_begun p b)

-- whether a command waits at a bank that it hasn't begun
abbrev pub has_unbegun : Schedule → MachineState → ℕ → Bool
has_unbegun p s b = nat_lt (length (begun_at p b)) (command_count s b)

abbrev pub is_due_since : Schedule → Option ℕ → Bool
is_due_since p None = false
is_due_since p (Some begun) = not (nat_lt (p.round - begun) p.timing.latency)

-- whether a bank began its first command as many rounds ago as it takes for one
abbrev pub is_due : Schedule → ℕ → Bool
is_due p b = is_due_since p (first_begun p b)

abbrev pub scheduled : Schedule → Course → Course
scheduled p c = course c.state p c.notes

-- the schedule when a bank has begun one more command, in this round
abbrev pub with_begin : Schedule → ℕ → Schedule
with_begin p b = with_begun p b (begun_at p b ++ p.round ∷ [])

-- the schedule when a bank's first command is done
abbrev pub without_first : Schedule → ℕ → Schedule
without_first p b = with_begun p b (drop 1 (begun_at p b))

-- a bank that may begin a command begins one that waits
unfoldable pub begin : ℕ → Course → Course
begin b c = if is_free c.schedule b && has_unbegun c.schedule c.state b then scheduled (with_begin c.schedule b) c else c

-- a command that was begun long enough ago is served
unfoldable pub serve_due : ℕ → Course → Course
serve_due b c = if is_due c.schedule b then attempt (Serve b) (scheduled (without_first c.schedule b) c) else c

abbrev pub bank_turn : ℕ → Course → Course
bank_turn b c = serve_due b (begin b c)

-- the turns of n banks, from this one on
unfoldable pub bank_turns : ℕ → ℕ → Course → Course
bank_turns zero b c = c
bank_turns (suc n) b c = bank_turns n (b + 1) (bank_turn b c)

-- ---- one arrival

-- the first of n banks with an answer, from this one on
unfoldable pub first_with_answer : MachineState → ℕ → ℕ → Option ℕ
first_with_answer s zero b = None
first_with_answer s (suc n) b = if has_answer s b then Some b else first_with_answer s n (b + 1)

-- the first bank with an answer, from the next one on and then from the first on
abbrev pub next_with_answer : MachineState → ℕ → Option ℕ
next_with_answer s next = option_or (first_with_answer s (s.sizes.banks - next) next) (first_with_answer s next 0)

abbrev pub arrive_from : Option ℕ → Course → Course
arrive_from None c = c
arrive_from (Some b) c = attempt (Arrive b 0) (scheduled (record c.schedule { next = b + 1 }) c)

-- its first answer arrives, if the stack has room
unfoldable pub arrive : Course → Course
arrive c = if has_stack_room c.state then arrive_from (next_with_answer c.state c.schedule.next) c else c

-- ---- one request

-- whether an answer ends a request: it was accepted, or refused for what no move changes
abbrev pub is_end : Answer → Bool
is_end Accepted = true
is_end (Refused cause) = ends_request cause
is_end answer = false

-- what a request finds, if it asks for a word
abbrev pub finding : MachineState → Event → Option Lookup
finding s (Load tag at) = found_at s at
finding s (Store at word lanes) = found_at s at
finding s (Prefetch at) = found_at s at
finding s event = None

-- the registers in use behind a miss that was accepted
abbrev pub registers_behind : Answer → Option Lookup → MachineState → ℕ
registers_behind Accepted (Some Miss) s = used_registers s
registers_behind answer lookup s = 0

-- what is told of a request
abbrev pub request_note : Course → Event → Note
request_note c event =
    record {
      round = c.schedule.round;
      event = event;
      answer = answered c.state event;
      found = finding c.state event;
      registers = registers_behind (answered c.state event) (finding c.state event) (after_event c.state event);
    }

-- a request is asked, and told whatever its answer
unfoldable pub ask : Event → Course → Course
ask event c = course (after_event c.state event) c.schedule (c.notes ++ request_note c event ∷ [])

abbrev pub ends : Event → Course → Bool
ends event c = is_end (answered c.state event)

-- ---- a round

-- what a round moves before it asks: each bank, one arrival, the stack's first word, the first reply, the queue's front
unfoldable pub moves : Course → Course
moves c =
    attempt Drain (attempt (Take 0) (attempt (Process 0) (arrive (bank_turns c.state.sizes.banks 0 c))))

-- a run: the machine, the schedule, the requests that are left, and what was told
pub record Run : Type 0 where
  pub state : MachineState
  pub schedule : Schedule
  pub left : List Event
  pub told : List Note

abbrev pub run_of : MachineState → Schedule → List Event → List Note → Run
run_of s p left told = record { state = s; schedule = p; left = left; told = told }

-- behind a round, in which one request was asked, if one is left
abbrev pub asked : List Note → List Event → Course → Run
asked told [] c = record { state = c.state; schedule = c.schedule; left = []; told = told ++ c.notes }
asked told (event ∷ rest) c =
    record {
      state = (ask event c).state;
      schedule = c.schedule;
      left = if ends event c then rest else event ∷ rest;
      told = told ++ (ask event c).notes;
    }

abbrev pub next_round : Schedule → Schedule
next_round p = record p { round = p.round + 1 }

unfoldable pub after_round : Run → Run
after_round r = asked r.told r.left (moves (course r.state (next_round r.schedule) []))

abbrev pub is_empty : List Event → Bool
is_empty [] = true
is_empty (event ∷ rest) = false

-- the requests are used up, and nothing is on its way
abbrev pub is_over_at : MachineState → List Event → Bool
is_over_at s left = is_empty left && (weight_of s == 0)

abbrev pub is_over : Run → Bool
is_over r = is_over_at r.state r.left

-- rounds until it is over, n at most
unfoldable pub rounds_until_over : ℕ → Run → Run
rounds_until_over n r = until is_over after_round n r

-- before the first round
abbrev pub start_of : Timing → MachineState → List Event → Run
start_of timing s requests = record { state = s; schedule = opening timing; left = requests; told = [] }

-- as many requests as a trace has lines
abbrev pub most_requests : ℕ
most_requests = most_lines

-- more moves than there can be while nothing new is asked: each makes what is on its way lighter
abbrev pub most_moves : Sizes → ℕ
most_moves z = most_weight z + 1

-- More rounds than a run takes. What is on its way allows fewer than `most_moves` moves, and in any latency + 1 rounds
-- there is one, or a request ends. A pipelined bank takes no longer.
abbrev pub most_rounds : Sizes → ℕ → ℕ → ℕ
most_rounds z latency requests = (requests + 1) * (most_moves z * (latency + 1))

-- the whole run of these requests
abbrev pub whole_run : Timing → MachineState → List Event → Run
whole_run timing s requests = rounds_until_over (most_rounds s.sizes timing.latency (length requests)) (start_of timing s requests)

-- a run that took fewer rounds than it may is over
abbrev pub EndsInTime : Timing → MachineState → List Event → Type 0
EndsInTime timing s requests =
    (whole_run timing s requests).schedule.round < most_rounds s.sizes timing.latency (length requests)
    → is_over (whole_run timing s requests) ≡ true
