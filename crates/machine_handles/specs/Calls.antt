-- What the calls of a handle answer and leave, by the machine behind it.
use Rattle.std.specs.Prelude.{⊤, ◌≡◌, ℕ, Option, Some, None, is_some, if◌then◌else◌}
use Rattle.std.specs.Option.{option_map}
use Rattle.machine_core.specs.Words.{Word, Event, Answer}
use Rattle.flat_model.specs.Flat.{flat_step}
use Rattle.machine_core.specs.Machine.{MachineState}
use Rattle.machine_core.specs.AnyMachine.{answered, after_event, flat, pump_tells, pump_leaves}
use Rattle.round_driver.specs.Stepping.{RoundsState}
use Rattle.flat_judge.specs.declared.rows.AnswerRow.{AnswerRow}
use Rattle.flat_judge.specs.declared.rows.EventRow.{EventRow}
use Rattle.flat_judge.specs.Rows.{answer_row, event_row}
use Rattle.machine_handles.specs.Behind.{Standing, standing_with}

-- ---- an event that C asks for: how C is told, the answer's row, and the machine after it

-- where rounds are under way, and where the caller makes the events
abbrev pub event_status : Option RoundsState → Option Event → ℕ
event_status (Some r) event = 107
event_status None None = 147
event_status None (Some event) = 0

abbrev pub apply_status : Option Standing → Option Event → ℕ
apply_status None event = 100
apply_status (Some b) event = event_status b.rounds event

abbrev pub apply_row : Option MachineState → Option Event → AnswerRow → AnswerRow
apply_row (Some m) (Some event) row = answer_row (answered m event)
apply_row m event row = row

abbrev pub state_after : Option RoundsState → MachineState → Option Event → MachineState
state_after None m (Some event) = after_event m event
state_after rounds m event = m

abbrev pub applied : Option Standing → Option Event → Option Standing
applied b event = option_map (λ b. standing_with b.rounds (state_after b.rounds b.state event)) b

-- the answer that C is told is one of flat memory
abbrev pub IsFlat : Option MachineState → Option Event → Type 0
IsFlat (Some m) (Some event) = flat_step (flat m) event (answered m event) ≡ Some (flat (after_event m event))
IsFlat m event = ⊤

-- ---- the driver's event

abbrev pub pump_status_of : Option RoundsState → MachineState → ℕ
pump_status_of (Some r) m = 107
pump_status_of None m = if is_some (pump_tells m) then 0 else 1

abbrev pub pump_status : Option Standing → ℕ
pump_status None = 100
pump_status (Some b) = pump_status_of b.rounds b.state

abbrev pub state_pumped : Option RoundsState → MachineState → MachineState
state_pumped None m = pump_leaves m
state_pumped (Some r) m = m

abbrev pub pumped : Option Standing → Option Standing
pumped b = option_map (λ b. standing_with b.rounds (state_pumped b.rounds b.state)) b

-- ---- what C asks of the machine: `None` is a closed handle

-- 0, where there is a machine
abbrev pub told_status : {X : Type 0} → Option X → ℕ
told_status None = 100
told_status (Some x) = 0

-- 0, where a thing is there, and 1, where it isn't
abbrev pub found_status : {X : Type 0} → Option (Option X) → ℕ
found_status None = 100
found_status (Some None) = 1
found_status (Some (Some x)) = 0

-- it as a row, or else the row that was there
abbrev pub found_row : {X Y : Type 0} → (X → Y) → Y → Option (Option X) → Y
found_row row y (Some (Some x)) = row x
found_row row y found = y

-- what a pump tells, as rows; and a word as it is
abbrev pub pumped_event : Event × Answer → EventRow
pumped_event p = event_row p.0

abbrev pub pumped_answer : Event × Answer → AnswerRow
pumped_answer p = answer_row p.1

abbrev pub same_word : Word → Word
same_word w = w

-- a row that is shown, or else the one that was there
abbrev pub shown_row : {X : Type 0} → X → Option (Option X) → X
shown_row row shown = found_row (λ x. x) row shown
