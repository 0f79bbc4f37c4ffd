use Rattle.std.proofs.Common.{arith, nat_eq}
use Rattle.std.specs.HashMap.{get}
use Rattle.memory_histories.specs.Shown.{answered_in}
use Rattle.memory_histories.proofs.ShownSets.{in_unit}
use Rattle.memory_histories.proofs.kept.add_sets.Goals as goal

pub returns-then-address-length-le8 : goal.returns-then-address-length-le8
returns-then-address-length-le8 c =
    grind (
      arith,
      in_unit c.args.memory.0.now c.args.memory.1 (answered_in (get nat_eq c.args.memory.2.now)) c.unit_of.result
          c.args.address c.args.length,
    )
