-- How a text is written to its end.
use Rattle.std.specs.Prelude.{◌≡◌, ◌⊎◌, ℕ, List, [], Result, Ok, Err}
use Rattle.trace_text.specs.Streams.{Moves, Stopped}
use Rattle.kroft_jobs.specs.Words.{TraceFault}
use Rattle.trace_text.specs.declared.fault.TraceFault.TheVariants as fault

-- A text was put: it is written as a whole, and a flush stands behind it.
abbrev pub IsPut : {W : Type 0} (took : W → List ℕ → W → Type 0) (old : W) (text : List ℕ) (new : W) → Type 0
IsPut {W} took old text new = (v : W) × Moves took old text v × took v [] new

-- A text was cut: a write of it was refused, up to which it is written, or the flush behind it was.
abbrev pub IsCut : {W : Type 0} (took : W → List ℕ → W → Type 0) (refused unflushed : W → W → Type 0) (old : W) (text : List ℕ) (new : W)
    → Type 0
IsCut {W} took refused unflushed old text new =
    Stopped took refused old text new ⊎ ((v : W) × Moves took old text v × unflushed v new)

-- A text was offered: it was put, or cut.
abbrev pub IsOffered : {W : Type 0} (took : W → List ℕ → W → Type 0) (refused unflushed : W → W → Type 0) (old : W)
    (text : List ℕ) (new : W) → Type 0
IsOffered took refused unflushed old text new = IsPut took old text new ⊎ IsCut took refused unflushed old text new

-- How a text is written, up to a flush behind it: it was put, or cut, or isn't written at all for want of memory.
abbrev pub IsWritten : {X W : Type 0} (took : W → List ℕ → W → Type 0) (refused unflushed : W → W → Type 0) (text : List ℕ) (old new : W)
    → Result X TraceFault → Type 0
IsWritten took refused unflushed text old new (Ok x) = IsPut took old text new
IsWritten took refused unflushed text old new (Err fault.Write) = IsCut took refused unflushed old text new
IsWritten took refused unflushed text old new (Err fault.OutOfMemory) = new ≡ old
IsWritten took refused unflushed text old new (Err fault) = ⊥
