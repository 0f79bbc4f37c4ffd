-- A history with the operations that are open, and what is seen of it whatever the law.
use Rattle.std.specs.Prelude.{ℕ, ◌+◌, ◌≤◌, List, [], length, Option, Some, None}
use Rattle.memory_histories.specs.declared.events.HistoryEvent.{HistoryEvent}
use Rattle.memory_histories.specs.declared.events.Rest.{Rest}
use Rattle.memory_histories.specs.Windows.{Windows, windows_after}
use Rattle.memory_histories.specs.Windows as windows
use Rattle.history_reasons.specs.declared.open.OpenOperation.{OpenOperation}
use Rattle.history_reasons.specs.Log.{idle}
use Rattle.history_reasons.specs.Open.{loads_then, stores_then}
use Rattle.history_sessions.specs.declared.judge.HistoryLaw.{HistoryLaw}
use Rattle.history_sessions.specs.declared.faults.JudgeFault.{JudgeFault}
use Rattle.history_sessions.specs.declared.faults.JudgeFault.TheVariants.{Refused, Undecided, TooLong, OutOfMemory}
use Rattle.history_sessions.specs.History.{History, OfRegular, OfFlat, OfAtomic, opening, history_after, history_forgetting}

-- the law is the one by which the history is judged. The loads and the stores that are open stand in the order of their
-- requests. `undecided` is where the unit begins for whose sake an answer was undecided, if none was taken and no unit was
-- forgotten since. `seen` has the bytes of all stores so far and of the open loads, whatever the law, with the moments at
-- which they were requested and answered: the events, and what passed without one
pub record Session : Type 0 where
  pub law : HistoryLaw
  pub history : History
  pub loads : List OpenOperation
  pub stores : List OpenOperation
  pub undecided : Option ℕ
  pub seen : Windows

-- no event yet
abbrev pub session_opening : HistoryLaw → List ℕ → Rest → Session
session_opening law image rest =
    record { law = law; history = opening law image rest; loads = []; stores = []; undecided = None; seen = windows.opening image rest }

-- an event was taken
abbrev pub session_after : Session → HistoryEvent → Session
session_after s event = record {
  law = s.law;
  history = history_after s.history event;
  loads = loads_then s.loads event;
  stores = stores_then s.stores event;
  undecided = None;
  seen = windows_after s.seen event;
}

-- a moment passed without one
abbrev pub session_passing : Session → Session
session_passing s =
    record { law = s.law; history = s.history; loads = s.loads; stores = s.stores; undecided = s.undecided; seen = idle s.seen }

-- it wasn't taken, for this fault
abbrev pub session_refusing : Session → JudgeFault → Session
session_refusing s (Undecided address) =
    record { law = s.law; history = s.history; loads = s.loads; stores = s.stores; undecided = Some address; seen = s.seen }
session_refusing s (Refused cause) = s
session_refusing s TooLong = s
session_refusing s OutOfMemory = s

-- the unit in which the byte at an address lies is forgotten
abbrev pub session_forgetting : ℕ → Session → Session
session_forgetting address s =
    record {
      law = s.law;
      history = history_forgetting address s.history;
      loads = s.loads;
      stores = s.stores;
      undecided = None;
      seen = s.seen;
    }

-- how many events there were, if the law counts them
abbrev pub moment_of : History → ℕ
moment_of (OfRegular w) = w.moment
moment_of (OfFlat f) = f.moment
moment_of (OfAtomic a) = 0

-- each event and each open operation had a moment
pub record IsTimely (s : Session) : Type 0 where
  pub events : moment_of s.history ≤ s.seen.moment
  pub open_ : length s.loads + length s.stores ≤ s.seen.moment
