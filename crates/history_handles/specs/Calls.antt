-- What the calls of a handle answer and leave, by the session behind it: `None` is a closed handle.
use Rattle.std.specs.Prelude.{ℕ, ◌≡◌, ◌⊎◌, ◌==◌, Bool, true, false, if◌then◌else◌, List, [], length, Option, Some, None, Result, Ok, Err}
use Rattle.std.specs.Prelude.{slice_get}
use Rattle.std.specs.Option.{option_map}
use Rattle.memory_histories.specs.declared.events.HistoryEvent.{HistoryEvent}
use Rattle.memory_histories.specs.declared.sets.ByteSet.{ByteSet}
use Rattle.memory_histories.specs.Sets.{has}
use Rattle.history_reasons.specs.declared.open.OpenOperation.{OpenOperation}
use Rattle.history_sessions.specs.declared.faults.JudgeFault.{JudgeFault}
use Rattle.history_sessions.specs.declared.judge.Judge.{Judge}
use Rattle.history_sessions.specs.Events.{plain}
use Rattle.history_sessions.specs.History.{History, Passes, has_units}
use Rattle.history_sessions.specs.Kept.{JudgeFaultIs, IsSetFound}
use Rattle.history_sessions.specs.Session.{Session, session_after, session_refusing, session_forgetting}
use Rattle.history_handles.specs.declared.handle.HistoryHandle.{HistoryHandle}
use Rattle.history_handles.specs.declared.rows.Operation.{Operation}
use Rattle.history_handles.specs.Behind.{judge_behind, IsBehind}
use Rattle.history_handles.specs.Rows.{row_of, IsOctets}
use Rattle.history_handles.specs.Status.{judge_number, said_number}

-- Events. ----

-- what is said of an event: it was taken, or it wasn't for a fault
abbrev pub IsSaid : Judge → History → HistoryEvent → Option JudgeFault → Type 0
IsSaid j h event None = Passes h event
IsSaid j h event (Some found) = JudgeFaultIs j h event found

abbrev pub left_by : Option JudgeFault → Session → HistoryEvent → Session
left_by None s event = session_after s event
left_by (Some found) s event = session_refusing s found

-- C is told by its number what the judge behind a handle says of an event, and that is what the event leaves behind the handle
pub record IsAnswered (status : ℕ) (before h : HistoryHandle) (s : Session) (event : HistoryEvent) : Type 0 where
  pub said : Option JudgeFault
  pub number : status ≡ said_number said
  pub law : IsSaid (judge_behind before) s.history event said
  pub left : IsBehind h (Some (left_by said s event))

abbrev pub IsEventTold : ℕ → HistoryHandle → HistoryHandle → Option Session → HistoryEvent → Type 0
IsEventTold status before h None event = (status ≡ 100) × IsBehind h None
IsEventTold status before h (Some s) event = IsAnswered status before h s (plain event)

-- What a load may return. ----

-- what C is told of a set, and its row before and after
abbrev pub IsRowTold : ℕ → List ℕ → List ℕ → Result (Option ByteSet) JudgeFault → Type 0
IsRowTold status row row' (Ok None) = (status ≡ 1) × (row' ≡ row)
IsRowTold status row row' (Ok (Some set)) = (status ≡ 0) × IsOctets row' (has set)
IsRowTold status row row' (Err found) = (status ≡ judge_number found) × (row' ≡ row)

pub record IsSetAnswered (status : ℕ) (h : HistoryHandle) (row : List ℕ) (row' : List ℕ) (s : Session) (number : ℕ)
    (address : ℕ) : Type 0 where
  pub found : Result (Option ByteSet) JudgeFault
  pub law : IsSetFound (judge_behind h) s.history number address found
  pub told : IsRowTold status row row' found

abbrev pub IsFittingSet : Bool → ℕ → HistoryHandle → List ℕ → List ℕ → Session → ℕ → ℕ → Type 0
IsFittingSet false status h row row' s number address = (status ≡ 109) × (row' ≡ row)
IsFittingSet true status h row row' s number address = IsSetAnswered status h row row' s number address

abbrev pub IsSetTold : ℕ → HistoryHandle → List ℕ → List ℕ → Option Session → ℕ → ℕ → Type 0
IsSetTold status h row row' None number address = (status ≡ 100) × (row' ≡ row)
IsSetTold status h row row' (Some s) number address = IsFittingSet (length row == 32) status h row row' s number address

-- Units that are forgotten. ----

-- C is told that a unit was forgotten, that there was too little memory, or that the law has no units
abbrev pub IsForgetNumber : ℕ → Bool → Type 0
IsForgetNumber status true = (status ≡ 0) ⊎ (status ≡ 101)
IsForgetNumber status false = status ≡ 108

abbrev pub IsForgetStatus : ℕ → Option Session → Type 0
IsForgetStatus status None = status ≡ 100
IsForgetStatus status (Some s) = IsForgetNumber status (has_units s.history)

abbrev pub forgotten_by : ℕ → Option Session → ℕ → Option Session
forgotten_by status session address = if status == 0 then option_map (λ s. session_forgetting address s) session else session

-- the unit for whose sake an answer was undecided, and its address before and after
abbrev pub IsAddressFound : ℕ → ℕ → ℕ → Option ℕ → Type 0
IsAddressFound status address address' None = (status ≡ 1) × (address' ≡ address)
IsAddressFound status address address' (Some first) = (status ≡ 0) × (address' ≡ first)

abbrev pub IsAddressTold : ℕ → ℕ → ℕ → Option Session → Type 0
IsAddressTold status address address' None = (status ≡ 100) × (address' ≡ address)
IsAddressTold status address address' (Some s) = IsAddressFound status address address' s.undecided

-- Open operations. ----

-- the loads or the stores that are open, by their kind
abbrev pub open_of : Session → ℕ → List OpenOperation
open_of s kind = if kind == 0 then s.loads else if kind == 1 then s.stores else []

-- how many there are, before and after
abbrev pub IsCounted : Option Session → ℕ → ℕ → ℕ → Type 0
IsCounted None kind count count' = count' ≡ count
IsCounted (Some s) kind count count' = count' ≡ length (open_of s kind)

-- one of them, and its row before and after
abbrev pub IsOperationTold : ℕ → Operation → Operation → Option (Option Operation) → Type 0
IsOperationTold status row row' None = (status ≡ 100) × (row' ≡ row)
IsOperationTold status row row' (Some None) = (status ≡ 1) × (row' ≡ row)
IsOperationTold status row row' (Some (Some operation)) = (status ≡ 0) × (row' ≡ operation)

abbrev pub operation_asked : Option Session → ℕ → ℕ → Option (Option Operation)
operation_asked session kind n = option_map (λ s. option_map row_of (slice_get (open_of s kind) n)) session
