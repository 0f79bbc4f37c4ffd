use Rattle.std.proofs.Common.{ap, sym, arith}
use Rattle.cache_law.specs.declared.Sizes.{Sizes}
use Rattle.cache_law.specs.State.{free_register}
use Rattle.machine_core.specs.Pump.{register_weight}
use Rattle.machine_core.proofs.Weighing.{total_more, none_behind}
use Rattle.machine_core.proofs.weigh.weight_of_registers.Goals as goal

pub loop-slot-preserved : goal.loop-slot-preserved
loop-slot-preserved c =
    let regs = ap (λ (z : Sizes). z.regs) c.sizes.ensures in
    record {
      counted = total_more register_weight _ _ free_register _ _ (omega arith) c.loop-slot.invariant.counted
          c.weight_of_register-weight.ensures.value;
      small = omega arith;
    }

pub returns-then-owed-replies_len-lt2-clause-value : goal.returns-then-owed-replies_len-lt2-clause-value
returns-then-owed-replies_len-lt2-clause-value c =
    sym (none_behind c.args.unit.now.cache (omega (arith, c.owed.ensures.value, c.replies_len.ensures)))
