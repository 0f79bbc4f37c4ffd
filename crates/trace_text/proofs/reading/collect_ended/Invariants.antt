use Rattle.std.proofs.Common.{length}
use Rattle.trace_text.specs.Collecting.{Collected}
use Rattle.trace_text.proofs.reading.collect_ended.Given as goal

abbrev pub invariant-lines : goal.invariant-lines
invariant-lines g l = record {
  collected : Collected g.C.Collector.fault_in g.C.Collector.went l.most l.limit l.fn.collector l.fn.count l.bytes l.rest l.collector
      l.count;
  same : (start : _) → g.C.Collector.holds_same start l.fn.collector → g.C.Collector.holds_same start l.collector;
}

abbrev pub decreases-lines : goal.decreases-lines
decreases-lines g l = length l.rest
