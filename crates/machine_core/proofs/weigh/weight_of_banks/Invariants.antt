use Rattle.std.proofs.Common.{◌≡◌, ◌≤◌, ◌*◌, ◌^◌, take}
use Rattle.machine_core.specs.Pump.{total, bank_weight}
use Rattle.machine_core.proofs.weigh.weight_of_banks.Given as goal

abbrev pub invariant-loop-bank : goal.invariant-loop-bank
invariant-loop-bank l =
    record {
      counted : l.weight ≡ total bank_weight (take l.bank l.banks.banks);
      small : l.weight ≤ 2 ^ 40 * l.bank;
    }
