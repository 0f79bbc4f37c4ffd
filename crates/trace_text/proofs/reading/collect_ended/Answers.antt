use Rattle.std.proofs.Common.{arith}
use Rattle.std.proofs.lemmas.Grind.{common_steps}
use Rattle.trace_text.proofs.Readings.{collected_line, misread_said, misread_halted}
use Rattle.trace_text.proofs.reading.collect_ended.Goals as goal

pub returns-in-Fault-clause-err : goal.returns-in-Fault-clause-err
returns-in-Fault-clause-err g c =
    misread_said g.C.Collector.stopped c.in-Some.at c.in-Fault.fault c.lines.invariant.collected c.in-Some.ensures.some (omega arith)
    (grind (arith, common_steps)) (rw c.in-Fault.is at c.in-Err.ensures.miss) (omega (arith, c.lines.invariant.collected.within))

pub returns-in-Halted-clause-err : goal.returns-in-Halted-clause-err
returns-in-Halted-clause-err g c =
    misread_halted g.C.Collector.stopped c.in-Some.at c.lines.invariant.collected c.in-Some.ensures.some (omega arith)
    (grind (arith, common_steps)) (rw c.in-Halted.is at c.in-Err.ensures.miss) (omega (arith, c.lines.invariant.collected.within))

pub lines-preserved : goal.lines-preserved
lines-preserved g c = record {
  collected = collected_line c.in-Some.at _ c.lines.invariant.collected c.in-Some.ensures.some (omega arith) (grind (arith, common_steps))
      c.in-Ok.ensures.good c.in-Ok.ensures.kept (omega (arith, c.lines.invariant.collected.within)) (grind (arith, common_steps));
  same = λ start held. c.collect.ensures.same start (c.lines.invariant.same start held);
}
