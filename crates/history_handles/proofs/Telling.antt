-- A fault that is told by its number is told as it should be.
use Rattle.std.proofs.Common.{◌≡◌, ℕ, ap, ◌∙◌, subst, List}
use Rattle.std.specs.Prelude.{Bool, true, false, if◌then◌else◌, Option, Some, None, Result}
use Rattle.memory_histories.specs.declared.events.HistoryEvent.{HistoryEvent}
use Rattle.memory_histories.specs.declared.sets.ByteSet.{ByteSet}
use Rattle.history_sessions.specs.declared.faults.JudgeFault.{JudgeFault}
use Rattle.history_handles.specs.declared.handle.HistoryHandle.{HistoryHandle}
use Rattle.history_handles.specs.declared.open.OpenFault.{OpenFault}
use Rattle.history_handles.specs.Opening.{fault_or_memory, open_number, IsTold}
use Rattle.history_handles.specs.declared.history.OpenHistory.{OpenHistory}
use Rattle.history_handles.specs.Mark.{nonzero}
use Rattle.history_handles.specs.Behind.{behind, judge_behind, IsBehind}
use Rattle.history_sessions.specs.History.{Passes}
use Rattle.history_sessions.specs.Kept.{judge_of, JudgeFaultIs, IsSetFound}
use Rattle.history_sessions.specs.Session.{Session, session_after, session_refusing}
use Rattle.history_handles.specs.Status.{judge_number}
use Rattle.history_handles.specs.Calls.{IsAnswered, IsSetAnswered, IsRowTold}

pub is_told : (found : Option OpenFault) (fault : OpenFault) (number : ℕ) → fault ≡ fault_or_memory found
    → number ≡ open_number fault → IsTold number found
is_told None fault number is tells = λ other. absurd (other (tells ∙ ap open_number is))
is_told (Some found) fault number is tells = tells ∙ ap open_number is

-- the judge behind a handle is that of what is kept there
is_some_of : {X : Type 0} (t : Bool) (x y : X) → (if t then Some x else None) ≡ Some y → y ≡ x
is_some_of true x y h = cc
is_some_of false x y h = cc

pub the_judge : (h : HistoryHandle) (m : OpenHistory) → behind h ≡ Some m → judge_of m.session ≡ judge_behind h
the_judge h m is = ap (λ n. judge_of n.session) (is_some_of (nonzero h.open) h.history m is)

-- an event that was taken
pub is_taken : (status : ℕ) (before h : HistoryHandle) (s : Session) (event : HistoryEvent) → status ≡ 0 → Passes s.history event
    → IsBehind h (Some (session_after s event)) → IsAnswered status before h s event
is_taken status before h s event zero law left = record { said = None; number = zero; law = law; left = left }

-- and one that wasn't
pub is_not_taken : (status : ℕ) (before h : HistoryHandle) (m : OpenHistory) (s : Session) (event : HistoryEvent) (found : JudgeFault)
    → behind before ≡ Some m → status ≡ judge_number found → JudgeFaultIs (judge_of m.session) s.history event found
    → IsBehind h (Some (session_refusing s found)) → IsAnswered status before h s event
is_not_taken status before h m s event found is number law left = record {
  said = Some found;
  number = number;
  law = subst (λ j. JudgeFaultIs j s.history event found) (the_judge before m is) law;
  left = left;
}

pub is_set : (status : ℕ) (h : HistoryHandle) (m : OpenHistory) (row row' : List ℕ) (s : Session) (number address : ℕ)
    (found : Result (Option ByteSet) JudgeFault) → behind h ≡ Some m
    → IsSetFound (judge_of m.session) s.history number address found → IsRowTold status row row' found
    → IsSetAnswered status h row row' s number address
is_set status h m row row' s number address found is law told = record {
  found = found;
  law = subst (λ j. IsSetFound j s.history number address found) (the_judge h m is) law;
  told = told;
}
