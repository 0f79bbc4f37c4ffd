-- What a machine that is driven shows beside its weight, by its state alone.
use Rattle.std.specs.Prelude.{ℕ, zero, suc, ◌+◌, Bool, false, if◌then◌else◌, nat_lt, length, Option, Some, None}
use Rattle.machine_core.specs.Banks.{bank_at}
use Rattle.machine_core.specs.Words.{RegisterView, Lookup}
use Rattle.machine_core.specs.Lookups.{lookup}
use Rattle.machine_core.specs.Views.{register_view}
use Rattle.machine_core.specs.Machine.{MachineState}
use Rattle.machine_core.specs.Pump.{has_items}

-- how many commands wait at a bank
unfoldable pub command_count : MachineState → ℕ → ℕ
command_count s b = length (bank_at s.machine.banks b).queue

-- whether an answer stands in a bank
unfoldable pub has_answer : MachineState → ℕ → Bool
has_answer s b = has_items (bank_at s.machine.banks b).answers

-- whether the input stack has room for a word
unfoldable pub has_stack_room : MachineState → Bool
has_stack_room s = nat_lt (length s.machine.cache.stack) s.sizes.depth

-- what a request for a word would find
unfoldable pub found_at : MachineState → ℕ → Option Lookup
found_at s at = lookup s.sizes s.machine.cache at

abbrev pub is_valid : Option RegisterView → Bool
is_valid None = false
is_valid (Some r) = r.valid

-- 1 for a register in use, else 0
unfoldable pub used_at : MachineState → ℕ → ℕ
used_at s slot = if is_valid (register_view s.machine.cache slot) then 1 else 0

-- how many of n registers are in use, from this one on
unfoldable pub used_among : MachineState → ℕ → ℕ → ℕ
used_among s zero slot = 0
used_among s (suc n) slot = used_at s slot + used_among s n (slot + 1)

-- how many registers are in use
unfoldable pub used_registers : MachineState → ℕ
used_registers s = used_among s s.sizes.regs 0
