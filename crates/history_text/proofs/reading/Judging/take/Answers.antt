use Rattle.std.proofs.Common.{◌≡◌, subst, refl}
use Rattle.history_sessions.specs.Words.{HistoryEvent}
use Rattle.history_sessions.specs.declared.faults.JudgeFault.{JudgeFault}
use Rattle.history_sessions.specs.declared.session.HistorySession.{HistorySession}
use Rattle.history_sessions.specs.History.{Passes}
use Rattle.history_sessions.specs.Kept.{IsKept, judge_of, JudgeFaultIs, IsFaultOf}
use Rattle.history_sessions.specs.Session.{Session, session_after, session_refusing}
use Rattle.history_text.proofs.reading.Judging.take.Goals as goal

fault_of : (m : HistorySession) (s : Session) (e event : HistoryEvent) (f g : JudgeFault) → IsKept m s → e ≡ event → f ≡ g
    → JudgeFaultIs (judge_of m) s.history e f → IsFaultOf s.history event g
fault_of m s e event f g k is same says = (
  judge_of m,
  k.judge,
  subst (JudgeFaultIs (judge_of m) s.history event) same
      (subst (λ x. JudgeFaultIs (judge_of m) s.history x f) is says),
)

pub returns-in-Ok-clause-ok : goal.returns-in-Ok-clause-ok
returns-in-Ok-clause-ok c s k =
    let taken = c.in-Ok.ensures.ok s k in (
      subst (Passes s.history) c.event.ensures taken.0,
      subst (λ e. IsKept c.step.new.self (session_after s e)) c.event.ensures taken.1,
    )

pub returns-in_ok-refusal-in-Err-Refused-clause-stop : goal.returns-in_ok-refusal-in-Err-Refused-clause-stop
returns-in_ok-refusal-in-Err-Refused-clause-stop c s st =
    let r = c.in-Err-Refused in
    let left : IsKept c.step.new.self s =
    subst (λ f. IsKept c.step.new.self (session_refusing s f)) r.field-0-is (r.ensures.left s st.kept) in
    c.in_ok-refusal-in-Err-Refused.ensures s (record { kept = left; few = st.few })
    (fault_of _ s _ _ _ _ st.kept c.event.ensures r.field-0-is (r.ensures.fault s st.kept))

pub returns-in-Err-Undecided-clause-stop : goal.returns-in-Err-Undecided-clause-stop
returns-in-Err-Undecided-clause-stop c s st =
    let u = c.in-Err-Undecided in
    (fault_of _ s _ _ _ _ st.kept c.event.ensures u.field-0-is (u.ensures.fault s st.kept), refl)

pub returns-in-Err-TooLong-clause-stop : goal.returns-in-Err-TooLong-clause-stop
returns-in-Err-TooLong-clause-stop c s st =
    let t = c.in-Err-TooLong in
    fault_of _ s _ _ _ _ st.kept c.event.ensures t.field-0-is (t.ensures.fault s st.kept)
