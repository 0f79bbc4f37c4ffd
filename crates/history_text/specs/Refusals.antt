-- What is told of a line that is none of the law.
use Rattle.std.specs.Prelude.{◌≡◌, ℕ, ◌<◌, Option, Some, None, List, length, slice_get}
use Rattle.std.specs.Global.{Vec}
use Rattle.history_sessions.specs.Words.{HistoryEvent, LoadRequest, LoadResponse, StoreRequest, StoreResponse, HistoryFault, ByteSet}
use Rattle.history_sessions.specs.Words.{OpenOperation, operation_under}
use Rattle.history_sessions.specs.Words as fault
use Rattle.history_sessions.specs.declared.faults.JudgeFault.TheVariants as judge
use Rattle.history_sessions.specs.declared.session.HistorySession.{HistorySession}
use Rattle.history_sessions.specs.Kept.{IsKept, IsFaultOf, IsAllowed}
use Rattle.history_sessions.specs.Session.{Session}
use Rattle.trace_text.specs.declared.fault.TraceFault.TheVariants as trace
use Rattle.history_text.specs.declared.answers.OperationKind.{OperationKind}
use Rattle.history_text.specs.declared.answers.OperationKind.TheVariants.{Load, Store}
use Rattle.history_text.specs.declared.answers.RefusalCause.{RefusalCause}
use Rattle.history_text.specs.declared.answers.RefusalCause.TheVariants.{OutOfRange, NoByteEnabled, NumberInUse, NotOpen, WrongLength}
use Rattle.history_text.specs.declared.answers.RefusalCause.TheVariants.{WrongByte, NoMoment}
use Rattle.history_text.specs.declared.answers.Refusal.{Refusal}
use Rattle.history_text.specs.declared.answers.AllowedByte.{AllowedByte}
use Rattle.history_text.specs.declared.refusals.Stop.{Stop}
use Rattle.history_text.specs.declared.refusals.Stop.TheVariants as stop
use Rattle.history_text.specs.Answers.{bytes_in_set}
use Rattle.history_text.specs.Notes.{byte_address, alternatives_of, overwritten_in}

-- what is kept is of this session, whose moments have numbers
pub record Stands (m : HistorySession) (s : Session) : Type 0 where
  pub kept : IsKept m s
  pub few : s.seen.moment < 18446744073709551616

abbrev pub kind_of : HistoryEvent → OperationKind
kind_of (LoadRequest number address n enables) = Load
kind_of (LoadResponse number bytes) = Load
kind_of (StoreRequest number address bytes enables) = Store
kind_of (StoreResponse number) = Store

abbrev pub number_of : HistoryEvent → ℕ
number_of (LoadRequest number address n enables) = number
number_of (LoadResponse number bytes) = number
number_of (StoreRequest number address bytes enables) = number
number_of (StoreResponse number) = number

-- the cause of a request's refusal
abbrev pub request_cause : ℕ → ℕ → HistoryFault → RefusalCause
request_cause address n fault.NumberInUse = NumberInUse
request_cause address n fault.NoByteEnabled = NoByteEnabled
request_cause address n fault.OutOfRange = OutOfRange address n
request_cause address n fault.NotOpen = OutOfRange address n
request_cause address n fault.WrongLength = OutOfRange address n
request_cause address n (fault.WrongByte place) = OutOfRange address n

-- the byte that came and those that the load may return, each with all that it may come from; and who overwrote the one that came
pub record IsWrongByte (s : Session) (load : OpenOperation) (bytes : List ℕ) (place returned : ℕ) (allowed : ByteSet)
    (cause : RefusalCause) : Type 0 where
  pub sources : Vec AllowedByte
  pub named : sources.items ≡ alternatives_of s load.number (byte_address load place) (bytes_in_set allowed)
  pub is : cause ≡ WrongByte (byte_address load place) returned allowed sources (overwritten_in s load bytes place)

-- a wrong byte, and those that the load may return; if the law tells no set, the load got a word that was never in its unit
abbrev pub IsWrong : Session → OpenOperation → List ℕ → ℕ → Option ℕ → Option ByteSet → RefusalCause → Type 0
IsWrong s load bytes place (Some returned) (Some allowed) cause = IsWrongByte s load bytes place returned allowed cause
IsWrong s load bytes place None (Some allowed) cause = cause ≡ NotOpen
IsWrong s load bytes place returned None cause = cause ≡ NoMoment (byte_address load place) (overwritten_in s load bytes place)

-- the cause of the refusal of an answer to an open load
abbrev pub IsAnswerCause : Session → OpenOperation → List ℕ → HistoryFault → RefusalCause → Type 0
IsAnswerCause s load bytes fault.WrongLength cause = cause ≡ WrongLength load.length (length bytes)
IsAnswerCause s load bytes (fault.WrongByte place) cause =
    (allowed : Option ByteSet) × IsAllowed s.history load.number (byte_address load place) allowed
    × IsWrong s load bytes place (slice_get bytes place) allowed cause
IsAnswerCause s load bytes fault.OutOfRange cause = cause ≡ NotOpen
IsAnswerCause s load bytes fault.NoByteEnabled cause = cause ≡ NotOpen
IsAnswerCause s load bytes fault.NumberInUse cause = cause ≡ NotOpen
IsAnswerCause s load bytes fault.NotOpen cause = cause ≡ NotOpen

abbrev pub IsResponseCause : Session → Option OpenOperation → List ℕ → HistoryFault → RefusalCause → Type 0
IsResponseCause s None bytes f cause = cause ≡ NotOpen
IsResponseCause s (Some load) bytes f cause = IsAnswerCause s load bytes f cause

-- the cause of the refusal of an event
abbrev pub IsCause : Session → HistoryEvent → HistoryFault → RefusalCause → Type 0
IsCause s (LoadRequest number address n enables) f cause = cause ≡ request_cause address n f
IsCause s (StoreRequest number address bytes enables) f cause = cause ≡ request_cause address (length bytes.now) f
IsCause s (LoadResponse number bytes) f cause = IsResponseCause s (operation_under number s.loads) bytes.now f cause
IsCause s (StoreResponse number) f cause = cause ≡ NotOpen

-- the event of this line, behind the session of the lines before it, makes the history none of the law
pub record IsRefusal (s : Session) (line : ℕ) (event : HistoryEvent) (refusal : Refusal) : Type 0 where
  pub at : refusal.line ≡ line
  pub kind : refusal.kind ≡ kind_of event
  pub number : refusal.number ≡ number_of event
  pub fault : HistoryFault
  pub refused : IsFaultOf s.history event (judge.Refused fault)
  pub cause : IsCause s event fault refusal.cause

-- why the event of a line isn't taken
abbrev pub StepStops : Session → ℕ → HistoryEvent → Stop → Type 0
StepStops s line event (stop.Refused refusal) = IsRefusal s line event refusal
StepStops s line event (stop.Undecided n address) = IsFaultOf s.history event (judge.Undecided address) × (n ≡ line)
StepStops s line event (stop.Fault trace.OutOfMemory) = Unit {0}
StepStops s line event (stop.Fault trace.TooManyLines) = IsFaultOf s.history event judge.TooLong
StepStops s line event (stop.Fault (trace.Line n f)) = ⊥
StepStops s line event (stop.Fault trace.Read) = ⊥
StepStops s line event (stop.Fault trace.Write) = ⊥
