-- How a sheet is graded: each prediction beside the machine's own answer, by which the machine runs on.
use Rattle.std.specs.Prelude.{◌≡◌, ◌⊎◌, ℕ, ◌+◌, ◌==◌, Bool, ◌||◌, if◌then◌else◌, Option, Some, None, Result, Ok, Err, List, [], ◌∷◌}
use Rattle.std.specs.Prelude.{◌++◌, map}
use Rattle.std.specs.List.{flat_map}
use Rattle.machine_core.specs.Machine.{MachineState}
use Rattle.machine_core.specs.AnyMachine.{answered}
use Rattle.trace_text.specs.Codes.{line_feed}
use Rattle.trace_text.specs.Lines.{same}
use Rattle.trace_text.specs.Texts.{answer_text, reply_text, after_line}
use Rattle.trace_text.specs.declared.lines.Line.{Line}
use Rattle.trace_text.specs.declared.lines.Line.TheVariants as line
use Rattle.trace_text.specs.declared.lines.LineFault.{LineFault}
use Rattle.named_fields.specs.declared.format.Format.{Format}
use Rattle.run_pictures.specs.Words.{seen, words_by, step_words}
use Rattle.trace_text.specs.Reading.{FirstLine}
use Rattle.trace_text.specs.declared.fault.TheConstants.{MAX_PAIR}
use Rattle.trace_text.specs.declared.fault.TraceFault.{TraceFault}
use Rattle.trace_text.specs.declared.fault.TraceFault.TheVariants.{OutOfMemory}
use Rattle.trace_sheets.specs.Ends.{SheetRead, SheetInto, SheetStops, SheetFails}
use Rattle.trace_sheets.specs.Sheets.{is_open, is_prediction, without_blanks, SheetLine, sheet_line, sheet_fault}
use Rattle.trace_sheets.specs.Forms.{answers_text, full_answer, full_text, told, grade_head, score_in}
use Rattle.trace_sheets.specs.declared.grade.Grade.{Grade}
use Rattle.trace_sheets.specs.declared.came.Came.{Came}
use Rattle.trace_sheets.specs.declared.came.Came.TheVariants.{Answered, Shown}
use Rattle.trace_sheets.specs.declared.score.Marking.{Marking}
use Rattle.trace_sheets.specs.declared.score.Marking.TheVariants.{Lenient, Strict}
use Rattle.trace_sheets.specs.declared.score.Mark.{Mark}
use Rattle.trace_sheets.specs.declared.score.Mark.TheVariants.{Right, Wrong, Open}
use Rattle.trace_sheets.specs.declared.score.Score.{Score}

-- ---- what came

-- what comes of a line: an event's answer, with what is seen of the machine before it, or what the machine shows
abbrev pub came_of : MachineState → Line → Came
came_of m (line.Event event) = Answered event (answered m event) (seen m event)
came_of m (line.Register slot) = Shown (reply_text m (line.Register slot))
came_of m (line.Bank at) = Shown (reply_text m (line.Bank at))
came_of m line.Settled = Shown (reply_text m line.Settled)

-- Why it came: the words that stand beside this step where a run is drawn. What is shown has no reason.
abbrev pub why_of : MachineState → Line → Option (List ℕ)
why_of m (line.Event event) = Some (step_words m event)
why_of m (line.Register slot) = None
why_of m (line.Bank at) = None
why_of m line.Settled = None

-- ---- a prediction

-- whether what is predicted is what came, in full; or without what the request found, if that isn't asked
abbrev pub is_right : Came → Marking → List ℕ → Bool
is_right (Answered event answer before) Lenient said = same said (answer_text answer) || same said (full_answer answer before.found)
is_right (Answered event answer before) Strict said = same said (full_answer answer before.found)
is_right (Shown text) marking said = same said text

abbrev pub mark_of : Marking → Came → List ℕ → Mark
mark_of marking came said = if is_open said then Open else if is_right came marking said then Right else Wrong

-- Why it is told: why it came; or what may be predicted, if a prediction can't be read.
abbrev pub why_for : MachineState → Line → List ℕ → Option (List ℕ)
why_for m line said = if is_prediction line said then why_of m line else Some (answers_text (came_of m line))

-- a prediction: the number of its line, counted from 1, the line without the blanks at its end, what is predicted, what came, and why
pub record Asked : Type 0 where
  pub number : ℕ
  pub text : List ℕ
  pub said : List ℕ
  pub came : Came
  pub why : Option (List ℕ)

-- this prediction of a line, by a machine that stands so before it
abbrev pub asked_of : ℕ → MachineState → List ℕ → Line → List ℕ → Asked
asked_of n m text line said = record { number = n; text = text; said = said; came = came_of m line; why = why_for m line said }

abbrev pub mark : Marking → Asked → Mark
mark marking a = mark_of marking a.came a.said

abbrev pub told_if : Mark → List ℕ → List ℕ
told_if Right text = []
told_if Wrong text = text
told_if Open text = []

-- what is told of a prediction: nothing, unless it is wrong
abbrev pub correction : Format → Marking → Asked → List ℕ
correction format marking a = told_if (mark marking a) (told format a.number a.text a.said (full_text a.came) a.why)

-- ---- a sheet

abbrev pub asked_in : ℕ → MachineState → List ℕ → Result (Option SheetLine) LineFault → List Asked
asked_in n m text (Ok (Some (line, Some said))) = asked_of n m text line said ∷ []
asked_in n m text nothing = []

abbrev pub after_said : MachineState → Result (Option SheetLine) LineFault → MachineState
after_said m (Ok (Some said)) = after_line m said.0
after_said m nothing = m

-- the machine behind these lines: what is predicted doesn't matter to it
abbrev pub after_texts : MachineState → List (List ℕ) → MachineState
after_texts m [] = m
after_texts m (text ∷ texts) = after_texts (after_said m (sheet_line text)) texts

-- the predictions of these lines, of which the first has this number: each line counts
abbrev pub asked_from : ℕ → MachineState → List (List ℕ) → List Asked
asked_from n m [] = []
asked_from n m (text ∷ texts) =
    asked_in n m (without_blanks text) (sheet_line text) ++ asked_from (n + 1) (after_said m (sheet_line text)) texts

abbrev pub asked : MachineState → List (List ℕ) → List Asked
asked m texts = asked_from 1 m texts

-- ---- the grade

abbrev pub no_score : Score
no_score = record { right = 0; wrong = 0; left_open = 0 }

-- one mark more
abbrev pub with_mark : Score → Mark → Score
with_mark s Right = record s { right = s.right + 1 }
with_mark s Wrong = record s { wrong = s.wrong + 1 }
with_mark s Open = record s { left_open = s.left_open + 1 }

-- each mark counts once
abbrev pub score_of : List Mark → Score
score_of [] = no_score
score_of (mark ∷ marks) = with_mark (score_of marks) mark

-- what is told of the wrong predictions, and how many are right, wrong and open
pub record Graded (format : Format) (marking : Marking) (m : MachineState) (texts : List (List ℕ)) (m' : MachineState)
    (report : List ℕ) (score : Score) : Type 0 where
  pub state : m' ≡ after_texts m texts
  pub told : report ≡ flat_map (correction format marking) (asked m texts)
  pub marks : score ≡ score_of (map (mark marking) (asked m texts))

-- what becomes of a sheet: it is read to its end and graded, or it has a fault
abbrev pub SheetEnds : {R : Type 0} (gave : R → List ℕ → R → Type 0) (failed : R → R → Type 0) (format : Format) (marking : Marking)
    (r r' : R) (m m' : MachineState) → Result Grade TraceFault → Type 0
SheetEnds gave failed format marking r r' m m' (Ok grade) =
    (texts : List (List ℕ)) × SheetRead gave r r' texts × Graded format marking m texts m' grade.report.items grade.score
SheetEnds gave failed format marking r r' m m' (Err fault) = SheetFails gave failed r r' fault

-- Where the machine is left if memory is missing: where it stood, with nothing read; or behind a line that was read, of which
-- a wrong prediction isn't told.
abbrev pub LacksMemory : {R : Type 0} (gave : R → List ℕ → R → Type 0) (r r' : R) (m m' : MachineState) → Type 0
LacksMemory gave r r' m m' = ((r' ≡ r) × (m' ≡ m)) ⊎
    ((texts : List (List ℕ)) × (rest : List ℕ) × SheetInto gave r r' texts rest ×
    FirstLine sheet_fault MAX_PAIR (λ text. m' ≡ after_texts m (texts ++ text ∷ [])) rest)

-- Where a fault leaves the machine: behind the good lines before it, or where want of memory leaves it.
abbrev pub LeavesBehind : {R : Type 0} (gave : R → List ℕ → R → Type 0) (failed : R → R → Type 0) (r r' : R) (m m' : MachineState)
    → TraceFault → Type 0
LeavesBehind gave failed r r' m m' fault =
    ((texts : List (List ℕ)) × SheetStops gave failed r r' texts fault × (m' ≡ after_texts m texts)) ⊎
    ((fault ≡ OutOfMemory) × LacksMemory gave r r' m m')

-- no prediction is wrong: what is open isn't
abbrev pub score_status : Score → ℕ
score_status s = if s.wrong == 0 then 0 else 1

-- all that is written of a grade
unfoldable pub grade_text : Format → List ℕ → Score → List ℕ
grade_text format report score = grade_head format ++ (report ++ (score_in format score ++ line_feed ∷ []))

-- ---- in the middle of a sheet

-- why this came, by the machine behind its line
abbrev pub why_behind : MachineState → Came → Option (List ℕ)
why_behind m (Answered event answer before) = Some (words_by before m event answer)
why_behind m (Shown text) = None

-- why this is told, by the machine behind its line
abbrev pub why_told : MachineState → Came → (is_readable : Bool) → Option (List ℕ)
why_told m came is_readable = if is_readable then why_behind m came else Some (answers_text came)

-- one line more, of this number, which says this
abbrev pub GradesOne : Format → Marking → ℕ → MachineState → List ℕ → Option SheetLine → List ℕ → Score → MachineState → List ℕ → Score
    → Type 0
GradesOne format marking number m text None report score m' report' score' = (m' ≡ m) × (report' ≡ report) × (score' ≡ score)
GradesOne format marking number m text (Some (line, None)) report score m' report' score' =
    (m' ≡ after_line m line) × (report' ≡ report) × (score' ≡ score)
GradesOne format marking number m text (Some (line, Some said)) report score m' report' score' =
    let a = asked_of number m text line said in
    (m' ≡ after_line m line) × (report' ≡ report ++ correction format marking a) × (score' ≡ with_mark score (mark marking a))
