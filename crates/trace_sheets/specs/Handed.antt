-- How what was handed in is graded by the sheet: its lines are the sheet's, in its order, and each `?` there is a point.
use Rattle.std.specs.Prelude.{◌≡◌, ℕ, ◌+◌, ◌≤◌, Bool, true, false, if◌then◌else◌, Option, Some, None, Result, Ok, Err}
use Rattle.std.specs.Prelude.{List, [], ◌∷◌, ◌++◌, length, take, drop, codes, decimal}
use Rattle.std.specs.Global.{Vec}
use Rattle.std.specs.List.{position}
use Rattle.machine_core.specs.Machine.{MachineState}
use Rattle.named_fields.specs.declared.format.Format.{Format}
use Rattle.trace_text.specs.Texts.{after_line}
use Rattle.trace_text.specs.contracts.lines.LinePartialEq.TheImpl as line_eq
use Rattle.trace_text.specs.declared.fault.TheConstants.{MAX_LINES}
use Rattle.trace_text.specs.declared.fault.TraceFault.{TraceFault}
use Rattle.trace_text.specs.declared.lines.Line.{Line}
use Rattle.trace_text.specs.declared.lines.LineFault.{LineFault}
use Rattle.trace_sheets.specs.Ends.{SheetRead, SheetFails}
use Rattle.trace_sheets.specs.Forms.{full_text, told, total}
use Rattle.trace_sheets.specs.Grades.{asked_of, came_of, correction, mark, no_score, why_of, with_mark}
use Rattle.trace_sheets.specs.Sheets.{SheetLine, is_open, sheet_line, without_blanks}
use Rattle.trace_sheets.specs.declared.grade.Grade.{Grade}
use Rattle.trace_sheets.specs.declared.handed.Question.{Question}
use Rattle.trace_sheets.specs.declared.score.Mark.{Mark}
use Rattle.trace_sheets.specs.declared.score.Mark.TheVariants.{Wrong}
use Rattle.trace_sheets.specs.declared.score.Marking.TheVariants.{Strict}
use Rattle.trace_sheets.specs.declared.score.Score.{Score}

-- ---- the sheet

-- the command of the sheet's line of this number, and whether its answer is asked
abbrev pub question_in : ℕ → Result (Option SheetLine) LineFault → List Question
question_in n (Ok (Some (line, None))) = record { number = n; line = line; is_asked = false } ∷ []
question_in n (Ok (Some (line, Some said))) = record { number = n; line = line; is_asked = is_open said } ∷ []
question_in n nothing = []

abbrev pub questions_from : ℕ → List (List ℕ) → List Question
questions_from n [] = []
questions_from n (text ∷ texts) = question_in n (sheet_line text) ++ questions_from (n + 1) texts

-- what becomes of a sheet that is given out: its commands, or its fault
abbrev pub SheetAsks : {R : Type 0} (gave : R → List ℕ → R → Type 0) (failed : R → R → Type 0) (r r' : R)
    → Result (Vec Question) TraceFault → Type 0
SheetAsks gave failed r r' (Ok questions) =
    (texts : List (List ℕ)) × SheetRead gave r r' texts × (questions.items ≡ questions_from 1 texts)
SheetAsks gave failed r r' (Err fault) = SheetFails gave failed r r' fault

-- ---- marks

-- The machine behind the sheet's line of this number, what is told so far, and the score.
pub record Marked : Type 0 where
  pub machine : MachineState
  pub behind : ℕ
  pub report : List ℕ
  pub score : Score

abbrev pub marks : MachineState → ℕ → List ℕ → Score → Marked
marks m behind report score = record { machine = m; behind = behind; report = report; score = score }

-- a line that is left out
abbrev pub left_out_text : ℕ → List ℕ
left_out_text n = codes "line " ++ (decimal n ++ codes " of the sheet is left out")

-- the next line of the sheet has this command, and nothing is marked
abbrev pub past : Marked → Question → Line → Marked
past s q line = marks (after_line s.machine line) q.number s.report s.score

-- it is told so, and marked
abbrev pub told_of : Marked → Question → Line → List ℕ → Mark → Marked
told_of s q line text mark = marks (after_line s.machine line) q.number (s.report ++ text) (with_mark s.score mark)

-- It is left out, in front of the line of this number: that is wrong if it is asked.
abbrev pub left_out : Format → ℕ → Marked → Question → Marked
left_out format n s q =
    let text = told format n (left_out_text q.number) [] (full_text (came_of s.machine q.line)) (why_of s.machine q.line) in
    if q.is_asked then told_of s q q.line text Wrong else past s q q.line

-- so are these
abbrev pub all_left_out : Format → ℕ → Marked → List Question → Marked
all_left_out format n s [] = s
all_left_out format n s (q ∷ qs) = all_left_out format n (left_out format n s q) qs

-- It is the line of this number, which says so: if it is asked, its whole answer is.
abbrev pub answered : Format → ℕ → List ℕ → Line → List ℕ → Marked → Question → Marked
answered format n text line said s q =
    let a = asked_of n s.machine text line said in
    if q.is_asked then told_of s q line (correction format Strict a) (mark Strict a) else past s q line

-- why a line is none of the sheet's
abbrev pub foreign_text : ℕ → List ℕ
foreign_text behind = codes "it has no such line behind its line " ++ decimal behind

-- A line that the rest of the sheet doesn't have is wrong.
abbrev pub foreign : Format → ℕ → List ℕ → List ℕ → Marked → Marked
foreign format n text said s =
    marks s.machine s.behind (s.report ++ told format n text said (codes "not the sheet's") (Some (foreign_text s.behind)))
    (with_mark s.score Wrong)

-- ---- lines

-- So many lines were handed in, and these of the sheet are to come.
pub record Handed : Type 0 where
  pub lines : ℕ
  pub rest : List Question
  pub marked : Marked

abbrev pub walk : ℕ → List Question → Marked → Handed
walk lines rest marked = record { lines = lines; rest = rest; marked = marked }

abbrev pub has_line : Line → Question → Bool
has_line line q = (line_eq.ghosts).eq q.line line

abbrev pub answered_first : Format → ℕ → List ℕ → Line → List ℕ → Marked → List Question → Marked
answered_first format n text line said s [] = s
answered_first format n text line said s (q ∷ qs) = answered format n text line said s q

-- a line with this command and answer is the first of the sheet's to come that has the command, and those before it are left out
abbrev pub marked_at : Format → ℕ → List ℕ → Line → List ℕ → Marked → List Question → Option ℕ → Marked
marked_at format n text line said s qs None = foreign format n text said s
marked_at format n text line said s qs (Some k) =
    answered_first format n text line said (all_left_out format n s (take k qs)) (drop k qs)

abbrev pub rest_at : List Question → Option ℕ → List Question
rest_at qs None = qs
rest_at qs (Some k) = drop (k + 1) qs

-- one command more was handed in, and this of it
abbrev pub one_more : Format → Handed → List ℕ → Line → List ℕ → Handed
one_more format h text line said =
    let at = position (has_line line) h.rest in
    record {
      lines = h.lines + 1;
      rest = rest_at h.rest at;
      marked = marked_at format (h.lines + 1) text line said h.marked h.rest at;
    }

-- One line more was handed in. A command with no answer has left it out.
abbrev pub handed_in : Format → Handed → List ℕ → Result (Option SheetLine) LineFault → Handed
handed_in format h text (Ok (Some (line, None))) = one_more format h text line []
handed_in format h text (Ok (Some (line, Some said))) = one_more format h text line said
handed_in format h text nothing = record { lines = h.lines + 1; rest = h.rest; marked = h.marked }

abbrev pub all_handed_in : Format → Handed → List (List ℕ) → Handed
all_handed_in format h [] = h
all_handed_in format h (text ∷ texts) = all_handed_in format (handed_in format h (without_blanks text) (sheet_line text)) texts

-- at the end, what is to come is left out
abbrev pub finished : Format → Handed → Marked
finished format h = all_left_out format (h.lines + 1) h.marked h.rest

-- nothing was handed in yet
abbrev pub begun : MachineState → List Question → Handed
begun m questions = record { lines = 0; rest = questions; marked = marks m 0 [] no_score }

-- These lines were handed in, and no more is marked than there are lines and questions.
pub record HandsIn (format : Format) (h : Handed) (texts : List (List ℕ)) (h' : Handed) : Type 0 where
  pub state : h' ≡ all_handed_in format h texts
  pub lines : h'.lines ≡ length texts
  pub few : length h.rest ≤ MAX_LINES
  pub bound : total h'.marked.score + length h'.rest ≤ length h.rest + length texts

-- what becomes of what is handed in: it is read to its end and graded, or it has a fault
abbrev pub HandedEnds : {R : Type 0} (gave : R → List ℕ → R → Type 0) (failed : R → R → Type 0) (format : Format)
    (questions : List Question) (r r' : R) (m : MachineState) → Result Grade TraceFault → Type 0
HandedEnds gave failed format questions r r' m (Ok grade) =
    (texts : List (List ℕ)) × SheetRead gave r r' texts
    × (grade.report.items ≡ (finished format (all_handed_in format (begun m questions) texts)).report)
    × (grade.score ≡ (finished format (all_handed_in format (begun m questions) texts)).score)
HandedEnds gave failed format questions r r' m (Err fault) = SheetFails gave failed r r' fault
