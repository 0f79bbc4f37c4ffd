use Rattle.std.proofs.Common.{◌≡◌, ◌≤◌, ◌*◌, ◌^◌, take}
use Rattle.machine_core.specs.Pump.{total, register_weight}
use Rattle.machine_core.proofs.weigh.weight_of_registers.Given as goal

abbrev pub invariant-loop-slot : goal.invariant-loop-slot
invariant-loop-slot l =
    record {
      counted : l.weight ≡ total register_weight (take l.slot l.unit.cache.registers);
      small : l.weight ≤ 2 ^ 40 * l.slot;
    }
