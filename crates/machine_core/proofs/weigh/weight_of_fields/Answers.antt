use Rattle.std.proofs.Common.{ap, arith}
use Rattle.cache_law.specs.declared.Sizes.{Sizes}
use Rattle.cache_law.specs.State.{register_at, clear_field}
use Rattle.machine_core.specs.Pump.{field_weight}
use Rattle.machine_core.proofs.Weighing.{total_more}
use Rattle.machine_core.proofs.weigh.weight_of_fields.Goals as goal

pub loop-i-preserved : goal.loop-i-preserved
loop-i-preserved c =
    let words = ap (λ (z : Sizes). z.block_words) c.sizes.ensures in
    record {
      counted = total_more field_weight (register_at c.args.unit.now.cache _).fields _ clear_field _ _ (omega arith)
          c.loop-i.invariant.counted c.weight_of_field-weight.ensures.value;
      small = omega arith;
    }
