-- What is told of a wrong prediction and of a score, in a format.
use Rattle.std.specs.Prelude.{ℕ, ◌+◌, if◌then◌else◌, Option, Some, None, List, [], ◌∷◌, ◌++◌, map, codes, decimal}
use Rattle.machine_core.specs.Words.{Answer, Accepted, Lookup}
use Rattle.named_fields.specs.Formats.{Named, absent, counted, worded, written, row_text, object_text, head_in_format}
use Rattle.named_fields.specs.Texts.{is_printable}
use Rattle.named_fields.specs.declared.format.Format.{Format}
use Rattle.named_fields.specs.declared.format.Format.TheVariants.{Text, Csv, Json}
use Rattle.trace_text.specs.Codes.{line_feed}
use Rattle.trace_text.specs.Texts.{answer_text}
use Rattle.trace_sheets.specs.Sheets.{accepted_text}
use Rattle.trace_sheets.specs.declared.came.Came.{Came}
use Rattle.trace_sheets.specs.declared.came.Came.TheVariants.{Answered, Shown}
use Rattle.trace_sheets.specs.declared.score.Score.{Score}

-- ---- what came

-- an answer, with what the request found if it was accepted
abbrev pub full_answer : Answer → Option Lookup → List ℕ
full_answer Accepted (Some lookup) = accepted_text lookup
full_answer answer found = answer_text answer

-- what came, in full
abbrev pub full_text : Came → List ℕ
full_text (Answered event answer before) = full_answer answer before.found
full_text (Shown text) = text

-- why, behind it, if there is a reason
abbrev pub why_text : Option (List ℕ) → List ℕ
why_text (Some words) = codes ": " ++ words
why_text None = []

-- what may be predicted, where a prediction can't be read
abbrev pub answers_text : Came → List ℕ
answers_text (Answered event answer before) =
    codes "an answer is accepted, accepted hit, accepted join, accepted miss, moved, nothing, refused N, value TAG WORD or ?"
answers_text (Shown text) = codes "an answer is printable text"

-- ---- a wrong prediction

-- a byte as a text shows it: a point, if it isn't printable
abbrev pub shown_byte : ℕ → ℕ
shown_byte b = if is_printable b then b else 46

-- the line as it stands in the sheet, and below it what came, and why
abbrev pub correction_text : ℕ → List ℕ → List ℕ → Option (List ℕ) → List ℕ
correction_text number text is why =
    codes "line " ++ (decimal number ++ (codes ": " ++ (map shown_byte text ++ (codes "\n  is " ++ (is ++ why_text why)))))

-- why, by its name
abbrev pub why_named : Option (List ℕ) → Named
why_named (Some words) = written (codes "why") words
why_named None = absent (codes "why")

-- the same by names: the line, what is predicted in it, what came, and why
unfoldable pub correction_named : ℕ → List ℕ → List ℕ → List ℕ → Option (List ℕ) → List Named
correction_named number text said is why =
    worded (codes "kind") (codes "wrong") ∷ counted (codes "line") number ∷ written (codes "text") text
    ∷ written (codes "predicted") said ∷ written (codes "is") is ∷ why_named why
    ∷ absent (codes "right") ∷ absent (codes "wrong") ∷ absent (codes "open") ∷ []

-- what the report has of it, with its LF: a table has nothing
unfoldable pub told : Format → ℕ → List ℕ → List ℕ → List ℕ → Option (List ℕ) → List ℕ
told Text number text said is why = correction_text number text is why ++ line_feed ∷ []
told Csv number text said is why = []
told Json number text said is why = object_text (correction_named number text said is why) ++ line_feed ∷ []

-- ---- the score

abbrev pub total : Score → ℕ
total s = s.right + s.wrong + s.left_open

-- the last line of a grade: all predictions are counted, the open ones too
abbrev pub score_text : Score → List ℕ
score_text s = decimal s.right ++ codes " of " ++ decimal (total s) ++ codes " right, " ++ decimal s.left_open ++ codes " open"

-- the row of a sheet
abbrev pub marks_named : Score → List Named
marks_named s = counted (codes "right") s.right ∷ counted (codes "wrong") s.wrong ∷ counted (codes "open") s.left_open ∷ []

unfoldable pub score_named : Score → List Named
score_named s =
    worded (codes "kind") (codes "score") ∷ absent (codes "line") ∷ absent (codes "text")
    ∷ absent (codes "predicted") ∷ absent (codes "is") ∷ absent (codes "why") ∷ marks_named s

-- what stands before the first line
unfoldable pub grade_head : Format → List ℕ
grade_head format = head_in_format format (marks_named (record { right = 0; wrong = 0; left_open = 0 }))

unfoldable pub score_in : Format → Score → List ℕ
score_in Text s = score_text s
score_in Csv s = row_text (marks_named s)
score_in Json s = object_text (score_named s)
