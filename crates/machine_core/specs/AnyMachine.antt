-- What a machine answers and shows, by its state alone.
use Rattle.std.specs.Prelude.{ℕ, Bool, Option, Some, None}
use Rattle.std.specs.Option.{option_map}
use Rattle.machine_core.specs.Words.{Word, Event, Answer}
use Rattle.flat_model.specs.Flat.{Flat}
use Rattle.miss_registers.specs.declared.Owed.{Owed}
use Rattle.miss_registers.specs.declared.RegisterView.{RegisterView}
use Rattle.miss_registers.specs.declared.FieldView.{FieldView}
use Rattle.cache_law.specs.Views.{register_view, field_view, target_view}
use Rattle.machine_core.specs.Machine.{MachineState, apply, settled, flat_of}
use Rattle.machine_core.specs.Pump.{pumped, weight}
use Rattle.machine_core.specs.Whole.{bank_word_view}

-- the answer to an event
unfoldable pub answered : MachineState → Event → Answer
answered s event = (apply s.sizes s.machine event).answer

-- the machine after an event
unfoldable pub after_event : MachineState → Event → MachineState
after_event s event = record { sizes = s.sizes; machine = (apply s.sizes s.machine event).machine }

-- the flat memory that a machine stands for
unfoldable pub flat : MachineState → Flat
flat s = flat_of s.sizes s.machine

abbrev pub after_some : MachineState → Option Event → MachineState
after_some s None = s
after_some s (Some event) = after_event s event

-- a pump: what it tells, and what it leaves
unfoldable pub pump_tells : MachineState → Option (Event × Answer)
pump_tells s = option_map (λ event. record { 0 = event; 1 = answered s event }) (pumped s.sizes s.machine)

unfoldable pub pump_leaves : MachineState → MachineState
pump_leaves s = after_some s (pumped s.sizes s.machine)

unfoldable pub weight_of : MachineState → ℕ
weight_of s = weight s.machine

unfoldable pub is_settled : MachineState → Bool
is_settled s = settled s.machine

-- the word at an address of memory, as it stands in its bank
unfoldable pub bank_shown : MachineState → ℕ → Option Word
bank_shown s at = bank_word_view s.sizes s.machine at

unfoldable pub register_shown : MachineState → ℕ → Option RegisterView
register_shown s slot = register_view s.machine.cache slot

unfoldable pub field_shown : MachineState → ℕ → ℕ → Option FieldView
field_shown s slot i = field_view s.sizes s.machine.cache slot i

unfoldable pub target_shown : MachineState → ℕ → ℕ → ℕ → Option Owed
target_shown s slot i place = target_view s.machine.cache slot i place
