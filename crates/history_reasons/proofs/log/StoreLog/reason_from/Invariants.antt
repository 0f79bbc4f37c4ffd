use Rattle.std.proofs.Common.{◌≡◌, ◌+◌, drop}
use Rattle.memory_histories.specs.Windows.{Windows}
use Rattle.history_reasons.specs.Log.{IsLogOf}
use Rattle.history_reasons.specs.Units.{reason_from}
use Rattle.history_reasons.proofs.log.StoreLog.reason_from.Given as goal

-- there is no reason so far
abbrev pub invariant-loop-k : goal.invariant-loop-k
invariant-loop-k l = (w : Windows) → IsLogOf l.self w
    → reason_from w l.number l.address l.bytes l.place ≡ reason_from w l.number l.address (drop l.k l.bytes) (l.place + l.k)
