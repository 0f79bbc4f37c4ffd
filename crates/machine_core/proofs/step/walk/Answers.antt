use Rattle.std.proofs.Common.{arith}
use Rattle.std.proofs.lemmas.List.{take_more}
use Rattle.machine_core.proofs.Whole.{walk_told, walk_unit, walk_banks}
use Rattle.machine_core.proofs.step.walk.Goals as goal

pub loop-event-preserved : goal.loop-event-preserved
loop-event-preserved c =
    let inv = c.loop-event.invariant in
    let next = take_more _ c.loop-event.event-index _ c.loop-event-test.true in
    record {
      told = walk_told _ _ _ _ _ next c.loop-event.unit c.loop-event.banks inv.unit inv.banks _ _ _ inv.told c.step-answer.ensures.answer
          c.push_reserved.ensures.items;
      count = omega arith;
      room = grind arith;
      unit = walk_unit _ _ _ _ _ next c.loop-event.unit c.loop-event.banks inv.unit inv.banks _ c.step-answer.ensures.unit;
      banks = walk_banks _ _ _ _ _ next c.loop-event.unit c.loop-event.banks inv.unit inv.banks _ c.step-answer.ensures.banks;
    }
