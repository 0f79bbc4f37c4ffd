use Rattle.std.proofs.Common.{arith}
use Rattle.round_driver.proofs.Turns.{one_register, no_register_left}
use Rattle.round_driver.proofs.machine.used_among.Goals as goal

pub loop-slot-preserved : goal.loop-slot-preserved
loop-slot-preserved c = grind (arith, one_register, c.args.machine.now, c.loop-slot.slot, c.loop-slot-test.true)

pub returns : goal.returns
returns c = grind (arith, no_register_left, c.args.machine.now, c.args.number, c.loop-slot.slot)
