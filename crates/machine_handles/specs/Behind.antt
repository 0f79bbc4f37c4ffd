-- What stands behind a handle.
use Rattle.std.specs.Prelude.{Option, Some, None, if◌then◌else◌}
use Rattle.std.specs.Option.{option_map, option_and_then}
use Rattle.machine_core.specs.Machine.{MachineState}
use Rattle.round_driver.specs.Stepping.{RoundsState}
use Rattle.machine_handles.specs.Open.{nonzero}
use Rattle.machine_handles.specs.declared.handle.Handle.{Handle}
use Rattle.machine_handles.specs.declared.kept.Kept.{Kept}

-- a machine, and the rounds that were begun with it
pub record Standing : Type 0 where
  pub state : MachineState
  pub rounds : Option RoundsState

abbrev pub standing_with : Option RoundsState → MachineState → Standing
standing_with rounds s = record { state = s; rounds = rounds }

abbrev pub standing_of : Kept → Standing
standing_of k = record { state = k.machine; rounds = k.rounds }

-- a machine without rounds
abbrev pub alone : MachineState → Standing
alone s = standing_with None s

-- what stands behind a handle: nothing, where it is closed
abbrev pub standing : Handle → Option Standing
standing h = if nonzero h.open then Some (standing_of h.kept) else None

-- the machine behind a handle
abbrev pub behind : Handle → Option MachineState
behind h = option_map (λ b. b.state) (standing h)

-- the machine of which the caller makes the events: none, while rounds make them
abbrev pub idle_of : Option RoundsState → MachineState → Option MachineState
idle_of None s = Some s
idle_of (Some r) s = None

abbrev pub idle_in : Option Standing → Option MachineState
idle_in b = option_and_then (λ b. idle_of b.rounds b.state) b

abbrev pub idle : Handle → Option MachineState
idle h = idle_in (standing h)
