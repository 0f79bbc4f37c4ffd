-- How long a run is, and what is told of one that is too long for a check.
use Rattle.std.specs.Prelude.{◌≡◌, ◌⊎◌, ℕ, ◌+◌, ◌<◌, ◌≤◌, ◌==◌, Bool, true, nat_lt, if◌then◌else◌, List, ◌++◌, codes}
use Rattle.std.specs.List.{count_by}
use Rattle.kroft_jobs.specs.Words.{Event, Timing}
use Rattle.register_sweeps.specs.Machine.{MachineState}
use Rattle.trace_text.specs.Codes.{line_feed, most_lines}
use Rattle.round_driver.specs.Rounds.{whole_run}
use Rattle.round_driver.specs.Walks.{IsOverInTime}
use Rattle.round_driver.specs.Written.{run_text}
use Rattle.kroft_jobs.specs.Writing.{IsOffered}
use Rattle.kroft_jobs.specs.declared.lengths.RunMeasure.{RunMeasure}
use Rattle.kroft_jobs.specs.declared.lengths.RunLength.{RunLength}
use Rattle.kroft_jobs.specs.declared.lengths.RunLength.TheVariants.{Kept, Readable, TooLong}

-- ---- lines

abbrev pub is_end : ℕ → Bool
is_end byte = byte == line_feed

-- how many lines end in these bytes
abbrev pub line_count : List ℕ → ℕ
line_count bytes = count_by is_end bytes

-- all that is written of the run of these requests
abbrev pub whole_text : Timing → MachineState → List Event → List ℕ
whole_text timing s requests = run_text (whole_run timing s requests).told

-- ---- what is measured

-- Between these two the bytes were taken: their lines are counted, and if all is kept, these bytes are.
pub record Measured (s : RunMeasure) (bytes : List ℕ) (t : RunMeasure) : Type 0 where
  pub lines : t.lines ≡ s.lines + line_count bytes
  pub kept : t.is_kept ≡ true → (s.is_kept ≡ true) × (t.text.items ≡ s.text.items ++ bytes)

-- What is known of a run that was measured: it is kept whole, or how long it is.
abbrev pub IsMeasured : (timing : Timing) (s : MachineState) (requests : List Event) → RunLength → Type 0
IsMeasured timing s requests (Kept text rounds) =
    (text.items ≡ whole_text timing s requests) × (line_count (whole_text timing s requests) ≤ most_lines)
    × IsOverInTime timing s requests × (rounds ≡ (whole_run timing s requests).schedule.round + 1)
IsMeasured timing s requests Readable = line_count (whole_text timing s requests) ≤ most_lines
IsMeasured timing s requests TooLong = most_lines < line_count (whole_text timing s requests)

-- what is known of a run of so many rounds that was taken to its end
abbrev pub length_of : RunMeasure → ℕ → RunLength
length_of m rounds =
    if nat_lt most_lines m.lines then TooLong else (if m.is_kept then Kept m.text rounds else Readable)

-- ---- what is told

-- of a run with more lines than a check reads
abbrev pub long_run_line : List ℕ
long_run_line = codes "note: the run has more than 16777216 lines, and check reads no more: explain reads any number\n"

-- A text with more lines than a check reads is told of, and of another one nothing is told.
abbrev pub TellsLength : {E : Type 0} (took : E → List ℕ → E → Type 0) (refused unflushed : E → E → Type 0) (text : List ℕ)
    (old new : E) → Type 0
TellsLength took refused unflushed text old new =
    ((most_lines < line_count text) × IsOffered took refused unflushed old long_run_line new)
    ⊎ ((line_count text ≤ most_lines) × (new ≡ old))
