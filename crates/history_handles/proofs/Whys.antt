-- Why an answer is wrong is told as it should be.
use Rattle.std.proofs.Common.{◌≡◌, ℕ, ◌<◌, subst, Bool, List, Option, Some}
use Rattle.memory_histories.specs.declared.events.HistoryEvent.{HistoryEvent}
use Rattle.history_reasons.specs.declared.units.FoundReason.{FoundReason}
use Rattle.history_sessions.specs.declared.faults.JudgeFault.{JudgeFault}
use Rattle.history_handles.specs.declared.rows.ReasonRow.{ReasonRow}
use Rattle.history_handles.specs.declared.handle.HistoryHandle.{HistoryHandle}
use Rattle.history_handles.specs.declared.history.OpenHistory.{OpenHistory}
use Rattle.history_handles.specs.Behind.{behind}
use Rattle.history_sessions.specs.Kept.{judge_of, IsFound}
use Rattle.history_sessions.specs.Session.{Session}
use Rattle.history_sessions.specs.Reasons.{reason_for, is_together}
use Rattle.history_handles.specs.Why.{place_of, IsRowTold, IsWhyAnswered}
use Rattle.history_handles.proofs.Telling.{the_judge}

pub is_why : (status : ℕ) (h : HistoryHandle) (m : OpenHistory) (row row' : ReasonRow) (s : Session) (number : ℕ) (bytes : List ℕ)
    (event : HistoryEvent) (found : Option JudgeFault) (together : Bool) (reason : Option FoundReason) → behind h ≡ Some m
    → IsFound (judge_of m.session) s.history event found
    → (s.seen.moment < 18446744073709551616 → together ≡ is_together s)
    → (s.seen.moment < 18446744073709551616 → reason ≡ reason_for s number bytes (place_of found))
    → IsRowTold status row row' together reason found → IsWhyAnswered status h row row' s number bytes event
is_why status h m row row' s number bytes event found together reason is law whole why told = record {
  found = found;
  together = together;
  reason = reason;
  law = subst (λ j. IsFound j s.history event found) (the_judge h m is) law;
  whole = whole;
  why = why;
  told = told;
}
