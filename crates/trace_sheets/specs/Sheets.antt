-- What the lines of a sheet say: a line of a trace, and what is predicted of it.
use Rattle.std.specs.Prelude.{◌≡◌, ℕ, ◌+◌, ◌-◌, ◌==◌, Bool, true, ◌||◌, if◌then◌else◌, nat_lt, Option, Some, None, Result, Ok, Err}
use Rattle.std.specs.Prelude.{List, [], ◌∷◌, length, take, drop, codes}
use Rattle.std.specs.Char.{is_ascii_whitespace}
use Rattle.std.specs.List.{list_all, suffix_len}
use Rattle.std.specs.Option.{is_some}
use Rattle.machine_core.specs.Words.{Lookup, Hit, Join, Miss}
use Rattle.named_fields.specs.Texts.{is_printable}
use Rattle.trace_text.specs.declared.fault.TheConstants.{MAX_LINE}
use Rattle.trace_text.specs.Lines.{same, line_of}
use Rattle.trace_text.specs.Pairs.{answer_of, arrow_in}
use Rattle.trace_text.specs.Reading.{fault_of}
use Rattle.trace_text.specs.declared.lines.Line.{Line}
use Rattle.trace_text.specs.declared.lines.Line.TheVariants as line
use Rattle.trace_text.specs.declared.lines.LineFault.{LineFault}
use Rattle.trace_text.specs.declared.lines.LineFault.TheVariants.{Field}
use Rattle.trace_sheets.specs.declared.sheet.Said.{Said}
use Rattle.trace_sheets.specs.declared.sheet.Said.TheVariants.{Nothing, Command, Prediction}

-- ---- predictions

-- the answer to a request that is accepted, with what it found
abbrev pub accepted_text : Lookup → List ℕ
accepted_text Hit = codes "accepted hit"
accepted_text Join = codes "accepted join"
accepted_text Miss = codes "accepted miss"

-- nothing is predicted yet
abbrev pub is_open : List ℕ → Bool
is_open said = same said (codes "?")

-- the answer of a request with what it found
abbrev pub is_finding : List ℕ → Bool
is_finding said =
    same said (accepted_text Hit) || (same said (accepted_text Join) || same said (accepted_text Miss))

-- Whether a prediction can be read: of an event an answer, with what the request found or without, and of another line
-- any text.
abbrev pub is_prediction : Line → List ℕ → Bool
is_prediction (line.Event event) said = is_open said || (is_finding said || is_some (answer_of said))
is_prediction (line.Register slot) said = list_all is_printable said
is_prediction (line.Bank at) said = list_all is_printable said
is_prediction line.Settled said = list_all is_printable said

-- ---- lines

-- a line without the blanks at its end, of which a CR is one
abbrev pub without_blanks : List ℕ → List ℕ
without_blanks text = take (length text - suffix_len is_ascii_whitespace text) text

-- nothing is said by an empty line, and by a comment, which begins with `#`
abbrev pub says_nothing : List ℕ → Bool
says_nothing [] = true
says_nothing (b ∷ bs) = b == 35

-- what a line says that isn't passed over: a line of a trace, and what is predicted of it
abbrev pub SheetLine : Type 0
SheetLine = Line × Option (List ℕ)

-- a line of a trace, which has at most 64 bytes
abbrev pub front_of : List ℕ → Result Line LineFault
front_of text = if nat_lt MAX_LINE (length text) then Err Field else line_of text

-- a line of which nothing is asked
abbrev pub unasked : Result Line LineFault → Result (Option SheetLine) LineFault
unasked (Err fault) = Err fault
unasked (Ok line) = Ok (Some (line, None))

abbrev pub predicted : Result Line LineFault → List ℕ → Result (Option SheetLine) LineFault
predicted (Err fault) said = Err fault
predicted (Ok line) said = Ok (Some (line, Some said))

-- an arrow ends the line: what was behind it is left out
abbrev pub ends_in_arrow : List ℕ → Bool
ends_in_arrow text = same (drop (length text - 3) text) (codes " ->")

abbrev pub sheet_cut : List ℕ → Option ℕ → Result (Option SheetLine) LineFault
sheet_cut text None = if ends_in_arrow text then predicted (front_of (take (length text - 3) text)) [] else unasked (front_of text)
sheet_cut text (Some at) = predicted (front_of (take at text)) (drop (at + 4) text)

-- the same of a line without blanks at its end
unfoldable pub sheet_said : List ℕ → Result (Option SheetLine) LineFault
sheet_said text = if says_nothing text then Ok None else sheet_cut text (arrow_in text)

-- What a line of a sheet says, without its LF: nothing, or a line of a trace, and behind an arrow what is predicted of it.
abbrev pub sheet_line : List ℕ → Result (Option SheetLine) LineFault
sheet_line text = sheet_said (without_blanks text)

-- the fault of a line of a sheet, where it has one: its command can't be read
abbrev pub sheet_fault : List ℕ → Option LineFault
sheet_fault text = fault_of (sheet_line text)

-- this is what a line without blanks at its end says
abbrev pub IsSaidBy : List ℕ → Said → Type 0
IsSaidBy text Nothing = sheet_said text ≡ Ok None
IsSaidBy text (Command line) = sheet_said text ≡ Ok (Some (line, None))
IsSaidBy text (Prediction line said is_readable) =
    (sheet_said text ≡ Ok (Some (line, Some said.now))) × (is_readable ≡ is_prediction line said.now)
