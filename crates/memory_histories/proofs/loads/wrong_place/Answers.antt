use Rattle.std.proofs.Common.{length-drop, length, ◌-◌, arith}
use Rattle.memory_histories.proofs.Opened.{at_load}
use Rattle.std.proofs.lemmas.Iterator.Adapters.{position_from-zero}
use Rattle.memory_histories.proofs.loads.wrong_place.Goals as goal

pub loop-load-init : goal.loop-load-init
loop-load-init c = grind (arith, position_from-zero)

pub returns-in-Some : goal.returns-in-Some
returns-in-Some c =
    let at = at_load c.args.number c.args.loads.now c.loop-load.load-index c.load-item.result c.loop-load.rest.now
    (length c.args.bytes.now - length c.loop-load.rest.now) c.loop-load-test.true c.load-item.is in grind arith

pub loop-load-preserved : goal.loop-load-preserved
loop-load-preserved c =
    let at = at_load c.args.number c.args.loads.now c.loop-load.load-index c.load-item.result c.loop-load.rest.now
    (length c.args.bytes.now - length c.loop-load.rest.now) c.loop-load-test.true c.load-item.is in
    record { place = grind (arith, length-drop); within = grind (arith, length-drop) }
