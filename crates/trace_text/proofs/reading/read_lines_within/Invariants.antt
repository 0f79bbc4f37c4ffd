use Rattle.std.proofs.Common.{◌+◌, ◌-◌, ◌*◌, ◌≤◌, take}
use Rattle.trace_text.specs.declared.fault.TheConstants.{MAX_LINE_LIMIT}
use Rattle.trace_text.specs.Collecting.{Reading}
use Rattle.trace_text.proofs.reading.read_lines_within.Given as goal

abbrev pub invariant-pieces : goal.invariant-pieces
invariant-pieces g l = record {
  reading : Reading g.R.Source.gave g.C.Collector.fault_in g.C.Collector.went l.most l.limit l.fn.reader l.fn.collector
      (take l.filled l.buffer) l.reader l.collector l.count;
  filled : l.filled ≤ l.most;
  same : g.C.Collector.holds_same l.fn.collector l.collector;
}

abbrev pub decreases-pieces : goal.decreases-pieces
decreases-pieces g l = (l.limit - l.count) * (MAX_LINE_LIMIT + 1) + (l.most - l.filled)
