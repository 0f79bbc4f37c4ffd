-- A history by the atomic law, of which units may have been forgotten.
use Rattle.std.specs.Prelude.{ℕ, ◌≡◌, ◌/◌, true, List, [], ◌∷◌, ◌++◌, None}
use Rattle.std.specs.List.{find}
use Rattle.memory_histories.specs.declared.events.HistoryEvent.{HistoryEvent}
use Rattle.memory_histories.specs.declared.events.HistoryFault.{HistoryFault}
use Rattle.memory_histories.specs.declared.events.Rest.{Rest}
use Rattle.atomic_histories.specs.declared.memory.AtomicMemory.{AtomicMemory}
use Rattle.atomic_histories.specs.Operations.{opened_by, form_fault, has_number}
use Rattle.atomic_histories.specs.Lost.{IsAtomicBut, FaultIsBut}
use Rattle.atomic_histories.specs.Held.{Held, IsWide, StandsBut}
use Rattle.atomic_histories.specs.May.{asks, IsWideByte}
use Rattle.atomic_histories.specs.Judge.{held, limit_of}
use Rattle.history_sessions.specs.declared.judge.Judge.{Judge}
use Rattle.history_sessions.specs.declared.judge.Judge.TheVariants as judge

-- what memory had before the first event, the size of its units, to how many pairs of a word and the stores in effect ways are followed at
-- one, the numbers of those that were forgotten, and the events
pub record Atomic : Type 0 where
  pub image : List ℕ
  pub rest : Rest
  pub size : ℕ
  pub limit : ℕ
  pub lost : List ℕ
  pub events : List HistoryEvent

-- no event yet
abbrev pub opening : List ℕ → Rest → ℕ → ℕ → Atomic
opening image rest size limit = record { image = image; rest = rest; size = size; limit = limit; lost = []; events = [] }

abbrev pub with_event : Atomic → HistoryEvent → Atomic
with_event a event =
    record { image = a.image; rest = a.rest; size = a.size; limit = a.limit; lost = a.lost; events = a.events ++ event ∷ [] }

-- the unit in which the byte at an address lies is forgotten
abbrev pub forgetting : ℕ → Atomic → Atomic
forgetting address a =
    record { image = a.image; rest = a.rest; size = a.size; limit = a.limit; lost = address / a.size ∷ a.lost; events = a.events }

-- the history with this event is one of the law, but for what is seen of the units that were forgotten
abbrev pub IsLawful : Atomic → HistoryEvent → Type 0
IsLawful a event = IsAtomicBut a.lost a.image a.rest a.size (a.events ++ event ∷ [])

-- it is none, for this fault
abbrev pub IsRefused : Atomic → HistoryEvent → HistoryFault → Type 0
IsRefused a event cause = FaultIsBut a.lost a.image a.rest a.size a.events event cause × ¬ (IsLawful a event)

-- an event has the form that the operations which are open ask for
abbrev pub IsFormed : Atomic → HistoryEvent → Type 0
IsFormed a event = form_fault (opened_by a.events) event ≡ None

-- a load that is open under a number asks for the byte at an address
abbrev pub IsAskedFor : Atomic → ℕ → ℕ → Type 0
IsAskedFor a number address = asks (find (has_number number) (opened_by a.events).loads) address ≡ true

-- this is what a judge keeps of the history
pub record IsHeld (kept : Held) (a : Atomic) : Type 0 where
  pub image : kept.image ≡ a.image
  pub rest : kept.rest ≡ a.rest
  pub size : kept.size ≡ a.size
  pub stands : StandsBut kept a.lost a.events

-- what this judge keeps is of the history
pub record IsJudgeOf (m : AtomicMemory) (a : Atomic) : Type 0 where
  pub kept : IsHeld (held m) a
  pub limit : limit_of m ≡ a.limit

-- by what this judge keeps, the unit that begins at an address may have gone too many ways, of which each must be followed to tell what
-- this event makes of the history
pub record IsUndecided (j : Judge) (a : Atomic) (event : HistoryEvent) (address : ℕ) : Type 0 where
  pub formed : IsFormed a event
  pub memory : AtomicMemory
  pub is_judge : j ≡ judge.Atomic memory
  pub is_kept : IsHeld (held memory) a
  pub wide : IsWide a.limit (held memory) event address

-- or what an open load may return for the byte at an address
pub record IsUndecidedByte (j : Judge) (a : Atomic) (byte : ℕ) (address : ℕ) : Type 0 where
  pub memory : AtomicMemory
  pub is_judge : j ≡ judge.Atomic memory
  pub is_kept : IsHeld (held memory) a
  pub wide : IsWideByte a.limit (held memory) byte address
