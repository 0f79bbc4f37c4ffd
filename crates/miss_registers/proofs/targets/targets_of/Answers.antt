use Rattle.std.proofs.Common.{arith}
use Rattle.miss_registers.proofs.Fields.{waiting-room}
use Rattle.miss_registers.proofs.targets.targets_of.Goals as goal

pub push-requires : goal.push-requires
push-requires c =
    grind (
      arith,
      c.requires,
      c.loop-target.invariant,
      c.if-is_for.true,
      c.if-is_for.ensures,
      c.loop-target-test.true,
      c.is_for.ensures,
      waiting-room,
    )
