-- How threads end.
use Rattle.std.specs.Prelude.{◌≡◌, ℕ, ◌<◌, ◌≤◌, Bool, true, false, is_none, Option, Some, None}
use Rattle.ring_station.specs.declared.thread_end.ThreadEnd.{ThreadEnd}
use Rattle.ring_station.specs.declared.thread_end.ThreadFault.{ThreadFault}
use Rattle.ring_station.specs.declared.thread_end.ThreadFault.TheVariants.{TurnLimit, OutOfMemory, JournalFull}

-- what stands behind a thread that has begun so many turns: that its work is over, that it had no turn left, that it found
-- no memory, or that its journal was full
abbrev pub Stands : Type 0 → Type 0 → Type 0 → ℕ → ℕ → Option ThreadFault → Type 0
Stands over memory full turns begun None = (0 < begun) × over
Stands over memory full turns begun (Some TurnLimit) = begun ≡ turns
Stands over memory full turns begun (Some OutOfMemory) = memory
Stands over memory full turns begun (Some JournalFull) = full

-- a thread that was given so many turns ended so
pub record HasEnded (over memory full : Type 0) (turns : ℕ) (end : ThreadEnd) : Type 0 where
  pub within : end.turns ≤ turns
  pub stands : Stands over memory full turns end.turns end.fault

-- before its first turn a thread stands as one that was given none
abbrev pub not_begun : ThreadEnd
not_begun = record { turns = 0; fault = Some TurnLimit }

-- it stands so for want of turns alone
abbrev pub goes_on : Option ThreadFault → Bool
goes_on (Some TurnLimit) = true
goes_on fault = false

-- it came to its end
abbrev pub is_over : ThreadEnd → Bool
is_over end = is_none end.fault

-- it found no memory
abbrev pub is_want : Option ThreadFault → Bool
is_want (Some OutOfMemory) = true
is_want fault = false

abbrev pub lacks_memory : ThreadEnd → Bool
lacks_memory end = is_want end.fault

-- it found its journal full
abbrev pub is_full : Option ThreadFault → Bool
is_full (Some JournalFull) = true
is_full fault = false
