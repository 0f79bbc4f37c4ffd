-- How a text is read line by line, whatever becomes of its lines.
use Rattle.std.specs.Prelude.{◌≡◌, ℕ, ◌+◌, ◌<◌, ◌≤◌, ◌⊎◌, take, Option, Some, None, Result, Ok, Err, List, [], ◌∷◌, ◌++◌, length}
use Rattle.std.specs.List.{AllByRecursion}
use Rattle.trace_text.specs.Codes.{line_feed, most_lines}
use Rattle.trace_text.specs.Streams.{HasNoEnd, Came, Moves}
use Rattle.trace_text.specs.declared.lines.LineFault.{LineFault}
use Rattle.trace_text.specs.declared.lines.LineFault.TheVariants.{TooLong, NotEnded}
use Rattle.trace_text.specs.declared.fault.TraceFault.{TraceFault}
use Rattle.trace_text.specs.declared.fault.TraceFault.TheVariants as fault

-- ---- lines

-- the fault of a reading, where it has one
abbrev pub fault_of : {X : Type 0} → Result X LineFault → Option LineFault
fault_of (Ok x) = None
fault_of (Err f) = Some f

-- these lines, each with its LF
abbrev pub joined_texts : List (List ℕ) → List ℕ
joined_texts [] = []
joined_texts (text ∷ texts) = text ++ (line_feed ∷ joined_texts texts)

-- a line without its LF, of at most so many bytes, that has no fault
abbrev pub IsGood : (List ℕ → Option LineFault) → ℕ → List ℕ → Type 0
IsGood fault_in most text = (length text ≤ most) × HasNoEnd text × (fault_in text ≡ None)

-- these bytes begin with these good lines, and the rest is to come
pub record Good (fault_in : List ℕ → Option LineFault) (most : ℕ) (bytes : List ℕ) (texts : List (List ℕ)) (rest : List ℕ) : Type 0 where
  pub each : AllByRecursion (IsGood fault_in most) texts
  pub split : bytes ≡ joined_texts texts ++ rest

-- the first line of these bytes has this fault, whatever follows them
abbrev pub BeginsFaulty : (List ℕ → Option LineFault) → ℕ → List ℕ → LineFault → Type 0
BeginsFaulty fault_in most bytes TooLong = (most < length bytes) × HasNoEnd (take (most + 1) bytes)
BeginsFaulty fault_in most bytes NotEnded = ⊥
BeginsFaulty fault_in most bytes f = (text : List ℕ) × (more : List ℕ) × (bytes ≡ text ++ (line_feed ∷ more)) × (length text ≤ most) ×
    HasNoEnd text × (fault_in text ≡ Some f)

-- these bytes don't begin with a good line, whatever follows them
abbrev pub IsStuck : (List ℕ → Option LineFault) → ℕ → List ℕ → Type 0
IsStuck fault_in most bytes = (text more after : List ℕ) → IsGood fault_in most text → bytes ++ after ≡ text ++ (line_feed ∷ more) → ⊥

-- the first line of these bytes is good, and this holds of it
abbrev pub FirstLine : (List ℕ → Option LineFault) → ℕ → (List ℕ → Type 0) → List ℕ → Type 0
FirstLine fault_in most P bytes = (text : List ℕ) × (more : List ℕ) × (bytes ≡ text ++ (line_feed ∷ more)) × IsGood fault_in most text ×
    P text

-- ---- what was read

-- Up to here, before a read or at the end, these good lines came, and the start of another that may still become one.
pub record ReadSoFarWithin {R : Type 0} (gave : R → List ℕ → R → Type 0) (fault_in : List ℕ → Option LineFault) (most limit : ℕ) (r r' : R)
    (texts : List (List ℕ)) (pending : List ℕ) : Type 0 where
  pub bytes : List ℕ
  pub read : Moves (Came gave) r bytes r'
  pub good : Good fault_in most bytes texts pending
  pub short : length pending ≤ most
  pub unfinished : HasNoEnd pending
  pub within : length texts ≤ limit
  pub room : 0 < length pending → length texts < limit

-- Up to here one piece more came, and these good lines are the first of all that came, with those of the earlier pieces.
pub record ReadIntoWithin {R : Type 0} (gave : R → List ℕ → R → Type 0) (fault_in : List ℕ → Option LineFault) (most limit : ℕ) (r r' : R)
    (texts : List (List ℕ)) (rest : List ℕ) : Type 0 where
  pub before : List (List ℕ)
  pub pending : List ℕ
  pub last : R
  pub so_far : ReadSoFarWithin gave fault_in most limit r last before pending
  pub piece : List ℕ
  pub gives : Came gave last piece r'
  pub good : Good fault_in most (so_far.bytes ++ piece) texts rest
  pub added : List (List ℕ)
  pub behind : texts ≡ before ++ added
  pub within : length texts ≤ limit

-- All was read, up to the first end: these good lines.
abbrev pub ReadWholeWithin : {R : Type 0} (gave : R → List ℕ → R → Type 0) (fault_in : List ℕ → Option LineFault) (most limit : ℕ)
    (r r' : R) (texts : List (List ℕ)) → Type 0
ReadWholeWithin {R} gave fault_in most limit r r' texts = (last : R) × ReadSoFarWithin gave fault_in most limit r last texts [] ×
    gave last [] r'

-- What was read where a reading has a fault, the first one in the order of the lines, and the good lines before it. An
-- error of the reader stands behind every line that ended or was too long before it.
abbrev pub ReadStopsWithin : {R : Type 0} (gave : R → List ℕ → R → Type 0) (failed : R → R → Type 0) (fault_in : List ℕ → Option LineFault)
    (most limit : ℕ) (r r' : R) (texts : List (List ℕ)) → TraceFault → Type 0
ReadStopsWithin {R} gave failed fault_in most limit r r' texts fault.Read = (last : R) × (rest : List ℕ) ×
    ReadSoFarWithin gave fault_in most limit r last texts rest × failed last r'
-- the input ended within a line
ReadStopsWithin {R} gave failed fault_in most limit r r' texts (fault.Line n NotEnded) = (last : R) × (rest : List ℕ) ×
    ReadSoFarWithin gave fault_in most limit r last texts rest × gave last [] r' × (0 < length rest) × (n ≡ length texts + 1)
ReadStopsWithin gave failed fault_in most limit r r' texts (fault.Line n f) = (rest : List ℕ) ×
    ReadIntoWithin gave fault_in most limit r r' texts rest × (n ≡ length texts + 1) × (length texts < limit) ×
    BeginsFaulty fault_in most rest f
ReadStopsWithin gave failed fault_in most limit r r' texts fault.TooManyLines = (rest : List ℕ) ×
    ReadIntoWithin gave fault_in most limit r r' texts rest × (length texts ≡ limit) × (0 < length rest)
ReadStopsWithin gave failed fault_in most limit r r' texts fault.OutOfMemory = ⊥
ReadStopsWithin gave failed fault_in most limit r r' texts fault.Write = ⊥

-- Why a text that is kept or judged wasn't read to its end: memory may be missing anywhere.
abbrev pub ReadFailsWithin : {R : Type 0} (gave : R → List ℕ → R → Type 0) (failed : R → R → Type 0) (fault_in : List ℕ → Option LineFault)
    (most limit : ℕ) (r r' : R) → TraceFault → Type 0
ReadFailsWithin gave failed fault_in most limit r r' e = (e ≡ fault.OutOfMemory) ⊎
    ((texts : List (List ℕ)) × ReadStopsWithin gave failed fault_in most limit r r' texts e)

-- ---- the same of a text with as many lines as a trace may have

abbrev pub ReadSoFar : {R : Type 0} (gave : R → List ℕ → R → Type 0) (fault_in : List ℕ → Option LineFault) (most : ℕ) (r r' : R)
    (texts : List (List ℕ)) (pending : List ℕ) → Type 0
ReadSoFar gave fault_in most r r' texts pending = ReadSoFarWithin gave fault_in most most_lines r r' texts pending

abbrev pub ReadInto : {R : Type 0} (gave : R → List ℕ → R → Type 0) (fault_in : List ℕ → Option LineFault) (most : ℕ) (r r' : R)
    (texts : List (List ℕ)) (rest : List ℕ) → Type 0
ReadInto gave fault_in most r r' texts rest = ReadIntoWithin gave fault_in most most_lines r r' texts rest

abbrev pub ReadWhole : {R : Type 0} (gave : R → List ℕ → R → Type 0) (fault_in : List ℕ → Option LineFault) (most : ℕ) (r r' : R)
    (texts : List (List ℕ)) → Type 0
ReadWhole gave fault_in most r r' texts = ReadWholeWithin gave fault_in most most_lines r r' texts

abbrev pub ReadStops : {R : Type 0} (gave : R → List ℕ → R → Type 0) (failed : R → R → Type 0) (fault_in : List ℕ → Option LineFault)
    (most : ℕ) (r r' : R) (texts : List (List ℕ)) → TraceFault → Type 0
ReadStops gave failed fault_in most r r' texts e = ReadStopsWithin gave failed fault_in most most_lines r r' texts e

abbrev pub ReadFails : {R : Type 0} (gave : R → List ℕ → R → Type 0) (failed : R → R → Type 0) (fault_in : List ℕ → Option LineFault)
    (most : ℕ) (r r' : R) → TraceFault → Type 0
ReadFails gave failed fault_in most r r' e = ReadFailsWithin gave failed fault_in most most_lines r r' e
