-- How a text is read by a collector of its lines.
use Rattle.std.specs.Prelude.{◌≡◌, ℕ, ◌+◌, ◌-◌, ◌<◌, ◌≤◌, ◌⊎◌, take, drop, Option, Some, None, Result, Ok, Err, List, ◌++◌, length}
use Rattle.trace_text.specs.Codes.{most_lines}
use Rattle.trace_text.specs.Streams.{HasNoEnd}
use Rattle.trace_text.specs.Lines.{IsSaid}
use Rattle.trace_text.specs.Reading.{Good, FirstLine, BeginsFaulty, ReadSoFarWithin, ReadIntoWithin, ReadWholeWithin, ReadStopsWithin}
use Rattle.trace_text.specs.declared.lines.LineFault.{LineFault}
use Rattle.trace_text.specs.declared.lines.LineFault.TheVariants.{TooLong}
use Rattle.trace_text.specs.declared.reading.Uncollected.{Uncollected}
use Rattle.trace_text.specs.declared.reading.Uncollected.TheVariants as miss
use Rattle.trace_text.specs.declared.reading.Stop.{Stop}
use Rattle.trace_text.specs.declared.reading.Stop.TheVariants.{Fault, Halted}
use Rattle.trace_text.specs.declared.fault.TraceFault.{TraceFault}
use Rattle.trace_text.specs.declared.fault.TraceFault.TheVariants as fault

-- why a line wasn't taken: its fault, and the collector stands as it stood, or the collector stopped
abbrev pub Misses : {C : Type 0} (stopped : C → List ℕ → C → Type 0) → Option LineFault → C → List ℕ → C → Uncollected → Type 0
Misses stopped found c text c' (miss.Fault f) = (found ≡ Some f) × IsSaid f × (c' ≡ c)
Misses stopped found c text c' miss.Halted = (found ≡ None) × stopped c text c'

-- How a reading by a collector ends: it took the lines that were read, and then made a pause; or it stopped, at a pause
-- or at a line.
abbrev pub ReadsWithin : {R C : Type 0} (gave : R → List ℕ → R → Type 0) (failed : R → R → Type 0) (fault_in : List ℕ → Option LineFault)
    (went : C → List (List ℕ) → C → Type 0) (stopped : C → List ℕ → C → Type 0) (paused unpaused : C → C → Type 0) (most limit : ℕ)
    (r r' : R) (c c' : C) → Result (Unit {0}) Stop → Type 0
ReadsWithin {R} {C} gave failed fault_in went stopped paused unpaused most limit r r' c c' (Ok done) = (texts : List (List ℕ)) × (v : C) ×
    ReadWholeWithin gave fault_in most limit r r' texts × went c texts v × paused v c'
ReadsWithin {R} {C} gave failed fault_in went stopped paused unpaused most limit r r' c c' (Err (Fault e)) = (texts : List (List ℕ)) ×
    (v : C) × ReadStopsWithin gave failed fault_in most limit r r' texts e × went c texts v × paused v c'
ReadsWithin {R} {C} gave failed fault_in went stopped paused unpaused most limit r r' c c' (Err Halted) = (texts : List (List ℕ)) ×
    (rest : List ℕ) × (v : C) × went c texts v ×
    ((ReadSoFarWithin gave fault_in most limit r r' texts rest × unpaused v c')
    ⊎ (ReadIntoWithin gave fault_in most limit r r' texts rest
    × (unpaused v c'
    ⊎ ((length texts < limit) × FirstLine fault_in most (λ text. stopped v text c') rest))))

-- the same of a text with as many lines as a trace may have
abbrev pub Reads : {R C : Type 0} (gave : R → List ℕ → R → Type 0) (failed : R → R → Type 0) (fault_in : List ℕ → Option LineFault)
    (went : C → List (List ℕ) → C → Type 0) (stopped : C → List ℕ → C → Type 0) (paused unpaused : C → C → Type 0) (most : ℕ) (r r' : R)
    (c c' : C) → Result (Unit {0}) Stop → Type 0
Reads gave failed fault_in went stopped paused unpaused most r r' c c' end =
    ReadsWithin gave failed fault_in went stopped paused unpaused most most_lines r r' c c' end

-- ---- in the middle of a reading

-- Of these bytes the first lines were taken, and the rest is to come. `before` lines went before these bytes.
pub record Collected {C : Type 0} (fault_in : List ℕ → Option LineFault) (went : C → List (List ℕ) → C → Type 0) (most limit : ℕ) (c : C)
    (before : ℕ) (bytes rest : List ℕ) (c' : C) (count : ℕ) : Type 0 where
  pub texts : List (List ℕ)
  pub good : Good fault_in most bytes texts rest
  pub number : count ≡ before + length texts
  pub within : count ≤ limit
  pub kept : (start : C) (front : List (List ℕ)) → length front ≡ before → went start front c → went start (front ++ texts) c'

-- All whole lines of these bytes were taken, and `left` bytes are the start of another.
pub record AllCollected {C : Type 0} (fault_in : List ℕ → Option LineFault) (went : C → List (List ℕ) → C → Type 0) (most limit : ℕ) (c : C)
    (before : ℕ) (bytes : List ℕ) (left : ℕ) (c' : C) (count : ℕ) : Type 0 where
  pub enough : left ≤ length bytes
  pub collected : Collected fault_in went most limit c before bytes (drop (length bytes - left) bytes) c' count
  pub unfinished : HasNoEnd (drop (length bytes - left) bytes)

-- Of these bytes some lines were taken, and at the next one the reading stops.
abbrev pub Misread : {C : Type 0} (fault_in : List ℕ → Option LineFault) (went : C → List (List ℕ) → C → Type 0)
    (stopped : C → List ℕ → C → Type 0) (most limit : ℕ) (c : C) (before : ℕ) (bytes : List ℕ) (c' : C) → Stop → Type 0
Misread fault_in went stopped most limit c before bytes c' (Fault (fault.Line n f)) = (rest : List ℕ) × (count : ℕ) ×
    Collected fault_in went most limit c before bytes rest c' count × (n ≡ count + 1) × (count < limit) × BeginsFaulty fault_in most rest f
Misread fault_in went stopped most limit c before bytes c' (Fault fault.TooManyLines) = (rest : List ℕ) × (count : ℕ) ×
    Collected fault_in went most limit c before bytes rest c' count × (count ≡ limit) × (0 < length rest)
Misread fault_in went stopped most limit c before bytes c' (Fault fault.Read) = ⊥
Misread fault_in went stopped most limit c before bytes c' (Fault fault.Write) = ⊥
Misread fault_in went stopped most limit c before bytes c' (Fault fault.OutOfMemory) = ⊥
Misread {C} fault_in went stopped most limit c before bytes c' Halted = (rest : List ℕ) × (count : ℕ) × (v : C) ×
    Collected fault_in went most limit c before bytes rest v count × (count < limit) ×
    FirstLine fault_in most (λ text. stopped v text c') rest

-- What was read, and that all of it was taken but the start of a line.
pub record Reading {R C : Type 0} (gave : R → List ℕ → R → Type 0) (fault_in : List ℕ → Option LineFault)
    (went : C → List (List ℕ) → C → Type 0) (most limit : ℕ) (r : R) (c : C) (pending : List ℕ) (r' : R) (c' : C) (count : ℕ) : Type 0 where
  pub texts : List (List ℕ)
  pub so_far : ReadSoFarWithin gave fault_in most limit r r' texts pending
  pub took : went c texts c'
  pub number : count ≡ length texts

-- a read's bytes, behind those that stand at the buffer's front
pub record Filled {R : Type 0} (gave : R → List ℕ → R → Type 0) (r r' : R) (old new : List ℕ) (filled given : ℕ) : Type 0 where
  pub bytes : List ℕ
  pub gives : gave r bytes r'
  pub count : length bytes ≡ given
  pub within : filled + given ≤ length old
  pub front : take (filled + given) new ≡ take filled old ++ bytes

-- the fault of the line that so many bytes begin, behind so many lines: one too many, or too long
abbrev pub BegunFault : (lines left most limit : ℕ) → TraceFault → Type 0
BegunFault lines left most limit fault.TooManyLines = (lines ≡ limit) × (0 < left)
BegunFault lines left most limit (fault.Line n TooLong) = (n ≡ lines + 1) × (lines < limit) × (most < left)
BegunFault lines left most limit (fault.Line n f) = ⊥
BegunFault lines left most limit fault.Read = ⊥
BegunFault lines left most limit fault.Write = ⊥
BegunFault lines left most limit fault.OutOfMemory = ⊥

-- A pause before a fault is told: the fault stays, or the collector stopped.
abbrev pub AfterPause : {C : Type 0} (paused unpaused : C → C → Type 0) (c c' : C) → TraceFault → Stop → Type 0
AfterPause paused unpaused c c' e (Fault f) = (f ≡ e) × paused c c'
AfterPause paused unpaused c c' e Halted = unpaused c c'
