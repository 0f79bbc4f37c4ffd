-- Of which history a judge keeps what it needs, and what its answers say of that history.
use Rattle.std.specs.Prelude.{ℕ, ◌≡◌, ◌<◌, Bool, true, false, Option, Some, None, Result, Ok, Err}
use Rattle.std.specs.Option.{option_map}
use Rattle.memory_histories.specs.declared.events.HistoryEvent.{HistoryEvent}
use Rattle.memory_histories.specs.declared.events.HistoryFault.{HistoryFault}
use Rattle.memory_histories.specs.declared.sets.ByteSet.{ByteSet}
use Rattle.memory_histories.specs.Sets.{has}
use Rattle.memory_histories.specs.Regular.{fault}
use Rattle.memory_histories.specs.Flat.{flat_fault}
use Rattle.memory_histories.specs.Kept.{StandsFor}
use Rattle.memory_histories.specs.Shown.{kept}
use Rattle.memory_histories.specs.FlatShown.{shown}
use Rattle.atomic_histories.specs.May as atomic
use Rattle.history_reasons.specs.Log.{IsLogOf}
use Rattle.history_reasons.specs.Open.{open_loads, open_stores}
use Rattle.history_sessions.specs.declared.session.HistorySession.{HistorySession}
use Rattle.history_sessions.specs.declared.judge.Judge.{Judge}
use Rattle.history_sessions.specs.declared.judge.Judge.TheVariants as judge
use Rattle.history_sessions.specs.declared.faults.JudgeFault.{JudgeFault}
use Rattle.history_sessions.specs.declared.faults.JudgeFault.TheVariants.{Refused, Undecided, TooLong, OutOfMemory}
use Rattle.history_sessions.specs.declared.faults.ForgetFault.{ForgetFault}
use Rattle.history_sessions.specs.declared.faults.ForgetFault.TheVariants as forget
use Rattle.history_sessions.specs.Atomic.{Atomic, IsLawful, IsRefused, IsFormed, IsAskedFor, IsJudgeOf, IsUndecided}
use Rattle.history_sessions.specs.Atomic.{IsUndecidedByte}
use Rattle.history_sessions.specs.Session.{Session}
use Rattle.history_sessions.specs.History.{History, OfRegular, OfFlat, OfAtomic, has_units, may_by_regular, may_by_flat}

-- what a judge keeps is of this history
abbrev pub IsOf : Judge → History → Type 0
IsOf (judge.Regular m) (OfRegular w) = StandsFor (kept m) w
IsOf (judge.Flat m) (OfFlat f) = shown m ≡ f
IsOf (judge.Atomic m) (OfAtomic a) = IsJudgeOf m a
IsOf m h = ⊥

-- what is kept is of this session
pub record IsKept (m : HistorySession) (s : Session) : Type 0 where
  pub law : m.law ≡ s.law
  pub judge : IsOf m.judge s.history
  pub loads : open_loads m.log ≡ s.loads
  pub stores : open_stores m.log ≡ s.stores
  pub undecided : m.undecided ≡ s.undecided
  -- (moments have numbers of their own up to 2^64)
  pub log : s.seen.moment < 18446744073709551616 → IsLogOf m.log s.seen

-- the judge of what is kept
abbrev pub judge_of : HistorySession → Judge
judge_of m = m.judge

-- Faults. ----

-- what a fault says of an event whose history has this many events, where its law finds this fault, or none
abbrev pub ExactFaultIs : Option HistoryFault → ℕ → JudgeFault → Type 0
ExactFaultIs found moment (Refused cause) = found ≡ Some cause
ExactFaultIs found moment (Undecided address) = ⊥
ExactFaultIs found moment TooLong = (found ≡ None) × (moment ≡ 18446744073709551615)
ExactFaultIs found moment OutOfMemory = found ≡ None

-- by the atomic law, of which this judge keeps what it needs
abbrev pub AtomicFaultIs : Judge → Atomic → HistoryEvent → JudgeFault → Type 0
AtomicFaultIs j a event (Refused cause) = IsRefused a event cause
AtomicFaultIs j a event (Undecided address) = IsUndecided j a event address
AtomicFaultIs j a event TooLong = ⊥
AtomicFaultIs j a event OutOfMemory = IsFormed a event

-- what each fault of a step of this judge says of the event
abbrev pub JudgeFaultIs : Judge → History → HistoryEvent → JudgeFault → Type 0
JudgeFaultIs j (OfRegular w) event found = ExactFaultIs (fault w event) w.moment found
JudgeFaultIs j (OfFlat f) event found = ExactFaultIs (flat_fault f event) f.moment found
JudgeFaultIs j (OfAtomic a) event found = AtomicFaultIs j a event found

-- some judge of the history has this fault
abbrev pub IsFaultOf : History → HistoryEvent → JudgeFault → Type 0
IsFaultOf h event found = (j : Judge) × IsOf j h × JudgeFaultIs j h event found

-- what a judge finds without taking the event
abbrev pub IsExactlyFound : Option HistoryFault → Option JudgeFault → Type 0
IsExactlyFound found told = told ≡ option_map (λ cause. Refused cause) found

abbrev pub IsAtomicallyFound : Judge → Atomic → HistoryEvent → Option JudgeFault → Type 0
IsAtomicallyFound j a event None = IsLawful a event
IsAtomicallyFound j a event (Some found) = AtomicFaultIs j a event found

abbrev pub IsFound : Judge → History → HistoryEvent → Option JudgeFault → Type 0
IsFound j (OfRegular w) event told = IsExactlyFound (fault w event) told
IsFound j (OfFlat f) event told = IsExactlyFound (flat_fault f event) told
IsFound j (OfAtomic a) event told = IsAtomicallyFound j a event told

-- Sets. ----

-- the set has the bytes that may be returned, and there is none where no load asks for the byte
abbrev pub IsSetOf : Option (ℕ → Bool) → Option ByteSet → Type 0
IsSetOf None set = set ≡ None
IsSetOf (Some may) set = (s : ByteSet) × (set ≡ Some s) × ((b : ℕ) → has s b ≡ may b)

abbrev pub IsExactSet : Option (ℕ → Bool) → Result (Option ByteSet) JudgeFault → Type 0
IsExactSet may (Ok set) = IsSetOf may set
IsExactSet may (Err found) = ⊥

-- by the atomic law a set is of its byte alone, and there may be no verdict of a byte that the load asks for
abbrev pub NoSetIs : Judge → Atomic → ℕ → ℕ → JudgeFault → Type 0
NoSetIs j a number address (Refused cause) = ⊥
NoSetIs j a number address (Undecided first) = IsAskedFor a number address × IsUndecidedByte j a address first
NoSetIs j a number address TooLong = ⊥
NoSetIs j a number address OutOfMemory = IsAskedFor a number address

abbrev pub IsAtomicSet : Judge → Atomic → ℕ → ℕ → Result (Option ByteSet) JudgeFault → Type 0
IsAtomicSet j a number address (Ok set) = atomic.IsSetOf a.lost a.image a.rest a.size a.events number address set
IsAtomicSet j a number address (Err found) = NoSetIs j a number address found

abbrev pub IsSetFound : Judge → History → ℕ → ℕ → Result (Option ByteSet) JudgeFault → Type 0
IsSetFound j (OfRegular w) number address told = IsExactSet (may_by_regular w number address) told
IsSetFound j (OfFlat f) number address told = IsExactSet (may_by_flat f number address) told
IsSetFound j (OfAtomic a) number address told = IsAtomicSet j a number address told

-- a set of a byte whatever the others of its load are: the atomic law knows none
abbrev pub IsAllowed : History → ℕ → ℕ → Option ByteSet → Type 0
IsAllowed (OfRegular w) number address set = IsSetOf (may_by_regular w number address) set
IsAllowed (OfFlat f) number address set = IsSetOf (may_by_flat f number address) set
IsAllowed (OfAtomic a) number address set = set ≡ None

-- Forgetting. ----

-- why no unit was forgotten
abbrev pub ForgetFaultIs : History → ForgetFault → Type 0
ForgetFaultIs h forget.NoUnits = has_units h ≡ false
ForgetFaultIs h forget.OutOfMemory = has_units h ≡ true
