-- What a sweep counts, over the walk of the machine.
use Rattle.std.specs.Prelude.{⊤, ℕ, zero, suc, ◌≡◌, ◌<◌, ◌+◌, ◌-◌, Bool, if◌then◌else◌, List, [], ◌∷◌, ◌++◌, length, slice_index_or, codes}
use Rattle.std.specs.Prelude.{decimal, Option, Some, None, is_none}
use Rattle.std.specs.List.{All}
use Rattle.std.specs.Option.{option_map, option_or}
use Rattle.shape_files.specs.MachineFile.{bad_machine}
use Rattle.machine_core.specs.Words.{Sizes, Event, Answer, Accepted, Value, Refused}
use Rattle.flat_model.specs.Causes.{ends_request}
use Rattle.flat_model.specs.declared.ShapeField.{ShapeField}
use Rattle.flat_model.specs.declared.MakeFault.TheVariants as make
use Rattle.flat_model.specs.Faults.{make_fault_text}
use Rattle.flat_model.specs.Memory.{is_load}
use Rattle.flat_model.specs.Images.{memory_from}
use Rattle.flat_model.specs.declared.image.Image.{Image}
use Rattle.flat_model.specs.declared.image.Image.TheVariants.{Zeros}
use Rattle.machine_core.specs.Machine.{MachineState, opening}
use Rattle.machine_core.specs.Pump.{until}
use Rattle.machine_core.specs.AnyMachine.{answered, after_event, pump_tells, pump_leaves, weight_of}
use Rattle.round_driver.specs.Rounds.{is_end}
use Rattle.register_sweeps.specs.declared.row.Row.{Row}
use Rattle.register_sweeps.specs.declared.sweeps.SweepFault.{SweepFault}
use Rattle.register_sweeps.specs.declared.sweeps.SweepFault.TheVariants.{BadShape, TurnLimit, OutOfMemory}

-- ---- the counts

-- where a sweep stands: the machine, and what was counted so far
pub record Course : Type 0 where
  pub state : MachineState
  pub row : Row

abbrev pub course : MachineState → Row → Course
course s row = record { state = s; row = row }

-- a pump with an answer
abbrev pub with_pump : Row → Answer → Row
with_pump row (Value tag word) = record row { pumps = row.pumps + 1; values = row.values + 1 }
with_pump row answer = record row { pumps = row.pumps + 1 }

abbrev pub with_pumped : Row → Option (Event × Answer) → Row
with_pumped row None = row
with_pumped row (Some told) = with_pump row told.1

abbrev pub pump_once : Course → Course
pump_once c = course (pump_leaves c.state) (with_pumped c.row (pump_tells c.state))

abbrev pub with_end : Row → Answer → Row
with_end row Accepted = record row { accepted = row.accepted + 1 }
with_end row (Refused cause) = if ends_request cause then record row { denied = row.denied + 1 } else row
with_end row answer = row

-- a request is asked once
abbrev pub ask : Event → Course → Course
ask event c = course (after_event c.state event) (with_end c.row (answered c.state event))

abbrev pub ends : Event → Course → Bool
ends event c = is_end (answered c.state event)

abbrev pub stall : Course → Course
stall c = course c.state (record c.row { stalled = c.row.stalled + 1 })

abbrev pub pump_and_wait : Course → Course
pump_and_wait c = course (pump_once c).state (record (pump_once c).row { waited = (pump_once c).row.waited + 1 })

-- a request is asked again, after a pump each time, until it ends: n times at most
unfoldable pub ask_again : ℕ → Event → Course → Course
ask_again zero event c = c
ask_again (suc n) event c =
    if ends event (pump_and_wait c) then ask event (pump_and_wait c) else ask_again n event (ask event (pump_and_wait c))

-- as many pumps as the weight of the machine leave nothing on its way, so that the request ends by then
abbrev pub serve : Event → Course → Course
serve event c =
    if ends event c then ask event c else ask_again (weight_of (after_event c.state event)) event (stall (ask event c))

abbrev pub serve_all : List Event → Course → Course
serve_all [] c = c
serve_all (event ∷ events) c = serve_all events (serve event c)

unfoldable pub pump_times : ℕ → Course → Course
pump_times n c = until (λ c. is_none (pump_tells c.state)) pump_once n c

-- the last pumps, until there is none
abbrev pub run_dry : Course → Course
run_dry c = pump_times (weight_of c.state) c

-- ---- the row from a machine's state

abbrev pub empty_row : ℕ → Row
empty_row regs = record { regs = regs; accepted = 0; denied = 0; stalled = 0; waited = 0; pumps = 0; values = 0 }

-- the sum of the counts
abbrev pub total : Row → ℕ
total row = row.accepted + (row.denied + (row.stalled + (row.waited + (row.pumps + row.values))))

abbrev pub row_from : MachineState → ℕ → List Event → Row
row_from s regs events = (run_dry (serve_all events (course s (empty_row regs)))).row

-- ---- the row of a machine's numbers

-- a new machine of these numbers, over an image
abbrev pub machine_over : Image → Sizes → MachineState
machine_over image z = record { sizes = z; machine = opening z (memory_from image z.words) }

-- over zeros
abbrev pub new_machine : Sizes → MachineState
new_machine z = machine_over Zeros z

abbrev pub row_of : List Event → Sizes → Row
row_of events z = row_from (new_machine z) z.regs events

-- ---- what a row counts

-- 1 where a request is a load and was accepted between these two counts
abbrev pub loads_between : Event → Row → Row → ℕ
loads_between event old new = if is_load event then new.accepted - old.accepted else 0

-- how many loads among the requests are accepted
abbrev pub accepted_loads : List Event → Course → ℕ
accepted_loads [] c = 0
accepted_loads (event ∷ events) c = loads_between event c.row (serve event c).row + accepted_loads events (serve event c)

abbrev pub new_course : Sizes → Course
new_course z = course (new_machine z) (empty_row z.regs)

-- where the row of a machine ends
abbrev pub end_of : List Event → Sizes → Course
end_of events z = run_dry (serve_all events (new_course z))

-- each request is counted once, as accepted or denied, each accepted load has its value, and no pump
-- finds anything left to do
pub record CountsAll (events : List Event) (z : Sizes) (row : Row) : Type 0 where
  pub each_ends : row.accepted + row.denied ≡ length events
  pub each_is_paid : row.values ≡ accepted_loads events (new_course z)
  pub nothing_left : pump_tells (end_of events z).state ≡ None

-- each row counts all requests on its machine
abbrev pub EachCountsAll : List Event → List Sizes → List Row → Type 0
EachCountsAll events machines rows =
    (i : ℕ) (z : Sizes) (row : Row) → i < length machines → CountsAll events (slice_index_or machines i z) (slice_index_or rows i row)

-- a count behind its name
abbrev pub count_text : List ℕ → ℕ → List ℕ
count_text name n = codes " " ++ name ++ codes " " ++ decimal n

abbrev pub requests_text : Row → List ℕ
requests_text row = count_text (codes "accepted") row.accepted ++ count_text (codes "denied") row.denied
    ++ count_text (codes "stalled") row.stalled

abbrev pub work_text : Row → List ℕ
work_text row = count_text (codes "waited") row.waited ++ count_text (codes "pumps") row.pumps ++ count_text (codes "values") row.values

-- a row as the program writes it
abbrev pub row_text : Row → List ℕ
row_text row =
    codes "regs " ++ decimal row.regs ++ requests_text row ++ work_text row

-- Of shapes, or of machines, by what is out of its range in one.
module _ {S : Type 0} (bad : S → Option ShapeField) where
  -- the first with a number out of its range, counted from a place on, and that number
  abbrev pub bad_from : ℕ → List S → Option (ℕ × ShapeField)
  bad_from place [] = None
  bad_from place (s ∷ ss) = option_or (option_map (λ field. (place, field)) (bad s)) (bad_from (place + 1) ss)

  -- what each fault of a sweep says of them
  abbrev pub FaultSays : List S → SweepFault → Type 0
  FaultSays ss (BadShape place field) = bad_from 0 ss ≡ Some (place, field)
  FaultSays ss TurnLimit = bad_from 0 ss ≡ None
  FaultSays ss OutOfMemory = bad_from 0 ss ≡ None

-- no number of these machines is out of its range
abbrev pub AreGood : List Sizes → Type 0
AreGood machines = All (λ z. bad_machine z ≡ None) machines

-- a fault as it is told
abbrev pub sweep_fault_text : SweepFault → List ℕ
sweep_fault_text (BadShape place field) = codes "shape " ++ (decimal place ++ (codes ": " ++ make_fault_text (make.BadShape field)))
sweep_fault_text TurnLimit = codes "turn limit"
sweep_fault_text OutOfMemory = codes "out of memory"

-- a fault that says nothing of the shapes
abbrev pub IsStop : SweepFault → Type 0
IsStop (BadShape place field) = ⊥
IsStop fault = ⊤
