use Rattle.std.proofs.Common.{◌≡◌, replicate}
use Rattle.miss_registers.specs.Registers.{free_register}
use Rattle.miss_registers.proofs.table.free_slots.Given as goal

abbrev pub invariant-loop : goal.invariant-loop
invariant-loop l = l.slots.items ≡ replicate l.counter free_register
