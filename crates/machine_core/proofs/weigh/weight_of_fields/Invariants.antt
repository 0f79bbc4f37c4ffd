use Rattle.std.proofs.Common.{◌≡◌, ◌≤◌, ◌*◌, ◌^◌, take}
use Rattle.cache_law.specs.State.{register_at}
use Rattle.machine_core.specs.Pump.{total, field_weight}
use Rattle.machine_core.proofs.weigh.weight_of_fields.Given as goal

abbrev pub invariant-loop-i : goal.invariant-loop-i
invariant-loop-i l =
    record {
      counted : l.weight ≡ total field_weight (take l.i (register_at l.unit.cache l.slot).fields);
      small : l.weight ≤ 2 ^ 32 * l.i;
    }
