-- What becomes of a sheet that is graded or solved, and of what was handed in.
use Rattle.std.specs.Prelude.{◌≡◌, ◌⊎◌, ℕ, List, Result, Ok, Err}
use Rattle.register_sweeps.specs.Machine.{MachineState}
use Rattle.kroft_jobs.specs.Words.{TraceFault, Format, Marking, Question, Score}
use Rattle.trace_sheets.specs.Ends.{SheetRead, SheetFails}
use Rattle.trace_sheets.specs.Grades.{Graded, grade_text}
use Rattle.trace_sheets.specs.Handed.{all_handed_in, begun, finished}
use Rattle.trace_sheets.specs.Solutions.{solved}
use Rattle.kroft_jobs.specs.Writing.{IsWritten}

module _ {R W X : Type 0} (gave : R → List ℕ → R → Type 0) (failed : R → R → Type 0) (took : W → List ℕ → W → Type 0)
    (refused unflushed : W → W → Type 0) where
  -- What the lines of a sheet come to is written. Or the sheet couldn't be read to its end, and then nothing is written; or the
  -- writing didn't come to its end.
  abbrev pub WritesSheet : (Comes : List (List ℕ) → List ℕ → X → Type 0) (input input' : R) (output output' : W) → Result X TraceFault
      → Type 0
  WritesSheet Comes input input' output output' (Ok x) =
      (texts : List (List ℕ)) × (text : List ℕ) × SheetRead gave input input' texts × Comes texts text x
      × IsWritten took refused unflushed text output output' (Ok x)
  WritesSheet Comes input input' output output' (Err e) =
      (SheetFails gave failed input input' e × (output' ≡ output))
      ⊎ ((texts : List (List ℕ)) × (text : List ℕ) × (x : X) × SheetRead gave input input' texts × Comes texts text x
      × IsWritten {X = X} took refused unflushed text output output' (Err e))

-- the grade of a sheet
abbrev pub GradeOf : (format : Format) (marking : Marking) (m : MachineState) → List (List ℕ) → List ℕ → Score → Type 0
GradeOf format marking m texts text score =
    (after : MachineState) × (report : List ℕ) × Graded format marking m texts after report score × (text ≡ grade_text format report score)

-- the grade of what was handed in
abbrev pub GradeBy : (format : Format) (questions : List Question) (m : MachineState) → List (List ℕ) → List ℕ → Score → Type 0
GradeBy format questions m texts text score =
    let end = finished format (all_handed_in format (begun m questions) texts) in
    (score ≡ end.score) × (text ≡ grade_text format end.report score)

-- the solution of a sheet
abbrev pub SolutionOf : (m : MachineState) → List (List ℕ) → List ℕ → Unit {0} → Type 0
SolutionOf m texts text done = text ≡ solved m texts
