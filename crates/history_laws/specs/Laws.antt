-- How the laws of histories stand to one another.
use Rattle.std.specs.Prelude.{ℕ, ◌<◌, ◌≤◌, IsTrue, List, is_some}
use Rattle.std.specs.List.{All}
use Rattle.memory_histories.specs.declared.events.HistoryEvent.{HistoryEvent}
use Rattle.memory_histories.specs.declared.events.HistoryEvent.TheVariants.{LoadResponse}
use Rattle.memory_histories.specs.declared.events.Rest.{Rest}
use Rattle.memory_histories.specs.declared.events.Rest.TheVariants.{Zeros, Unknown}
use Rattle.memory_histories.specs.Windows as windows
use Rattle.memory_histories.specs.Regular.{regular_run}
use Rattle.memory_histories.specs.Flat as flat
use Rattle.atomic_histories.specs.Law.{IsAtomic}

-- the history is one of the regular law
abbrev pub IsRegular : List ℕ → Rest → List HistoryEvent → Type 0
IsRegular image rest history = IsTrue (is_some (regular_run (windows.opening image rest) history))

-- the history is one of the flat law
abbrev pub IsFlat : List ℕ → Rest → List HistoryEvent → Type 0
IsFlat image rest history = IsTrue (is_some (flat.flat_run (flat.opening image rest) history))

-- what a load returns is a byte. It is asked for only if nothing is known of what memory had beyond the image
abbrev pub IsByte : Rest → ℕ → Type 0
IsByte Zeros b = Unit {0}
IsByte Unknown b = b < 256

abbrev pub ReturnsBytes : Rest → HistoryEvent → Type 0
ReturnsBytes rest (LoadResponse number bytes) = All (IsByte rest) bytes.now
ReturnsBytes rest event = Unit {0}

-- a unit has 1 to 8 bytes
abbrev pub IsUnitSize : ℕ → Type 0
IsUnitSize size = (1 ≤ size) × (size ≤ 8)

-- an atomic history, in units of any size, is a regular one
abbrev pub AtomicIsRegular : List ℕ → Rest → ℕ → List HistoryEvent → Type 0
AtomicIsRegular image rest size history = IsUnitSize size → All (ReturnsBytes rest) history → IsAtomic image rest size history
    → IsRegular image rest history

-- a flat history is an atomic one, in units of any size
abbrev pub FlatIsAtomic : List ℕ → Rest → ℕ → List HistoryEvent → Type 0
FlatIsAtomic image rest size history = IsFlat image rest history → IsAtomic image rest size history

-- and so a regular one
abbrev pub FlatIsRegular : List ℕ → Rest → List HistoryEvent → Type 0
FlatIsRegular image rest history = All (ReturnsBytes rest) history → IsFlat image rest history → IsRegular image rest history
