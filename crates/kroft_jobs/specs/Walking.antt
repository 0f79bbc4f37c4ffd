-- What is seen of the events of a trace or of a recorded run, each made by a machine.
use Rattle.std.specs.Prelude.{◌≡◌, ℕ, ◌+◌, ◌<◌, ◌≤◌, if◌then◌else◌, Option, Some, None, is_some, Result, Ok, Err, List, [], ◌∷◌, length}
use Rattle.machine_core.specs.Words.{Answer}
use Rattle.machine_core.specs.AnyMachine.{answered, after_event}
use Rattle.register_sweeps.specs.Machine.{MachineState}
use Rattle.round_driver.specs.Rounds.{finding}
use Rattle.round_driver.specs.Stepping.{is_value}
use Rattle.round_driver.specs.Walks.{is_request}
use Rattle.round_driver.specs.declared.note.Note.{Note}
use Rattle.round_driver.specs.declared.stepping.RoundReport.{RoundReport}
use Rattle.result_figures.specs.Turns.{Sight, sight_of, sight_behind, nothing_seen}
use Rattle.run_pictures.specs.Asked.{said_fault, all_asked, other_answer}
use Rattle.run_pictures.specs.declared.asked.Asked.{Asked}
use Rattle.run_pictures.specs.declared.drawn.TheConstants.{MOST_EVENTS}
use Rattle.run_pictures.specs.declared.show.ShowFault.TheVariants.{Trace, TooManyEvents, OutOfMemory}
use Rattle.trace_text.specs.Reading.{ReadWhole, ReadFails}
use Rattle.kroft_jobs.specs.Words.{Event, MAX_PAIR, ShowFault}
use Rattle.kroft_jobs.specs.declared.walking.WalkedRun.{WalkedRun}

-- ---- an event

-- the event of this number, as such a machine answers it
abbrev pub note_at : (turn : ℕ) → MachineState → Event → Note
note_at turn s event = record { round = turn; event = event; answer = answered s event; found = finding s event; registers = 0 }

-- what it tells, as a round would: a request that was asked, or a load's value
abbrev pub report_on : Note → RoundReport
report_on n =
    record { asked = if is_request n.event then Some n else None; answered = if is_value n.answer then Some n else None }

-- the first event of which another answer was recorded
abbrev pub first_other : Option ℕ → Note → Option Answer → Option ℕ
first_other (Some event) n recorded = Some event
first_other None n recorded = if is_some (other_answer n.answer recorded) then Some n.round else None

-- ---- all of them

pub record Walk : Type 0 where
  pub sight : Sight
  pub other : Option ℕ

abbrev pub walk_of : WalkedRun → Walk
walk_of run = record { sight = sight_of run.seen; other = run.other }

abbrev pub no_walk : Walk
no_walk = record { sight = nothing_seen; other = None }

abbrev pub walk_behind : (turn : ℕ) → MachineState → Asked → Walk → Walk
walk_behind turn s asked w =
    let n = note_at turn s asked.event in
    record {
      sight = sight_behind (after_event s asked.event) turn (report_on n) w.sight;
      other = first_other w.other n asked.recorded;
    }

-- the walk over these events, behind so many
abbrev pub walk_along : (made : ℕ) → MachineState → List Asked → Walk → Walk
walk_along made s [] w = w
walk_along made s (asked ∷ rest) w = walk_along (made + 1) (after_event s asked.event) rest (walk_behind (made + 1) s asked w)

abbrev pub walked : MachineState → List Asked → Walk
walked s all = walk_along 0 s all no_walk

-- What becomes of a trace or of a recorded run: its events are made. Or it has a fault, or too many events, or memory is missing.
abbrev pub WalksAll : {R : Type 0} (gave : R → List ℕ → R → Type 0) (failed : R → R → Type 0) → MachineState → (input input' : R)
    → Result WalkedRun ShowFault → Type 0
WalksAll gave failed s input input' (Ok run) =
    (texts : List (List ℕ)) × ReadWhole gave said_fault MAX_PAIR input input' texts × (length (all_asked texts) ≤ MOST_EVENTS)
    × (walk_of run ≡ walked s (all_asked texts))
WalksAll gave failed s input input' (Err (Trace fault)) = ReadFails gave failed said_fault MAX_PAIR input input' fault
WalksAll gave failed s input input' (Err TooManyEvents) =
    (texts : List (List ℕ)) × ReadWhole gave said_fault MAX_PAIR input input' texts × (MOST_EVENTS < length (all_asked texts))
WalksAll gave failed s input input' (Err OutOfMemory) = Unit {0}
