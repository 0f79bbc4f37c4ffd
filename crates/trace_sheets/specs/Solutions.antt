-- A sheet with its open answers filled.
use Rattle.std.specs.Prelude.{◌≡◌, ℕ, ◌-◌, if◌then◌else◌, Option, Some, Result, Ok, Err, List, [], ◌∷◌, ◌++◌, length, take, drop}
use Rattle.machine_core.specs.Machine.{MachineState}
use Rattle.trace_text.specs.Codes.{line_feed}
use Rattle.trace_text.specs.declared.lines.LineFault.{LineFault}
use Rattle.trace_text.specs.declared.fault.TraceFault.{TraceFault}
use Rattle.std.specs.Global.{Vec}
use Rattle.trace_sheets.specs.Ends.{SheetRead, SheetFails}
use Rattle.trace_sheets.specs.Forms.{full_text}
use Rattle.trace_sheets.specs.Grades.{after_said, after_texts, came_of}
use Rattle.trace_sheets.specs.Sheets.{SheetLine, is_open, sheet_line, without_blanks}

-- a line of so many bytes before the blanks at its end, with this in place of the `?` there
abbrev pub filled : ℕ → List ℕ → List ℕ → List ℕ
filled front text answer = take (front - 1) text ++ (answer ++ drop front text)

-- a line that says this, in the solution: an open answer is filled, and all else stays
abbrev pub solved_by : MachineState → List ℕ → Result (Option SheetLine) LineFault → List ℕ
solved_by m text (Ok (Some (line, Some said))) =
    if is_open said then filled (length (without_blanks text)) text (full_text (came_of m line)) else text
solved_by m text said = text

-- the solution of these lines, each with its LF
abbrev pub solved : MachineState → List (List ℕ) → List ℕ
solved m [] = []
solved m (text ∷ texts) = solved_by m text (sheet_line text) ++ (line_feed ∷ solved (after_said m (sheet_line text)) texts)

-- the machine behind these lines, and their solution
pub record Solves (m : MachineState) (texts : List (List ℕ)) (m' : MachineState) (solution : List ℕ) : Type 0 where
  pub state : m' ≡ after_texts m texts
  pub text : solution ≡ solved m texts

-- what becomes of a sheet that is solved: it is read to its end and filled, or it has a fault
abbrev pub SheetSolved : {R : Type 0} (gave : R → List ℕ → R → Type 0) (failed : R → R → Type 0) (r r' : R) (m m' : MachineState)
    → Result (Vec ℕ) TraceFault → Type 0
SheetSolved gave failed r r' m m' (Ok solution) =
    (texts : List (List ℕ)) × SheetRead gave r r' texts × Solves m texts m' solution.items
SheetSolved gave failed r r' m m' (Err fault) = SheetFails gave failed r r' fault
