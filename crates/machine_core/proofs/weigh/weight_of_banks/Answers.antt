use Rattle.std.proofs.Common.{arith}
use Rattle.memory_banks.specs.Banks.{no_bank}
use Rattle.machine_core.specs.Pump.{bank_weight}
use Rattle.machine_core.proofs.Weighing.{total_more}
use Rattle.machine_core.proofs.weigh.weight_of_banks.Goals as goal

pub loop-bank-preserved : goal.loop-bank-preserved
loop-bank-preserved c =
    record {
      counted = total_more bank_weight _ _ no_bank _ _ (omega arith) c.loop-bank.invariant.counted c.weight_of_bank-weight.ensures.value;
      small = omega arith;
    }
