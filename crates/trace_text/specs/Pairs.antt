-- Lines as they are written: a command, ` -> ` and an answer.
use Rattle.std.specs.Prelude.{◌≡◌, ◌++◌, ℕ, suc, ◌+◌, if◌then◌else◌, Option, None, Some, Result, Ok, Err, List, [], ◌∷◌, length, take, drop}
use Rattle.std.specs.Prelude.{nat_eq, nat_lt, codes}
use Rattle.trace_text.specs.declared.fault.TheConstants.{MAX_PAIR}
use Rattle.trace_text.specs.declared.fields.TheConstants.{MAX_TAG}
use Rattle.std.specs.List.{starts_with}
use Rattle.std.specs.Option.{option_map, option_and_then}
use Rattle.flat_model.specs.declared.Word.{Word}
use Rattle.flat_model.specs.declared.Cause.{Cause}
use Rattle.flat_model.specs.declared.Answer.{Answer}
use Rattle.flat_model.specs.declared.Answer.TheVariants.{Accepted, Moved, Value, Nothing, Refused}
use Rattle.flat_model.specs.Flat.{cause_of}
use Rattle.trace_text.specs.Fields.{number_of, word_of}
use Rattle.trace_text.specs.Lines.{cut_of, same, one_number, line_of, is_ended, without_end}
use Rattle.trace_text.specs.declared.lines.Line.{Line}
use Rattle.trace_text.specs.declared.lines.Line.TheVariants as line
use Rattle.trace_text.specs.declared.lines.LineFault.{LineFault}
use Rattle.trace_text.specs.declared.lines.LineFault.TheVariants.{Field, TooLong, NotEnded}
use Rattle.trace_text.specs.declared.pairs.Pair.{Pair}

-- ---- answers

abbrev pub bare_answer : Answer → Option (List ℕ) → Option Answer
bare_answer answer None = Some answer
bare_answer answer (Some fields) = None

abbrev pub value_answer : Option ℕ → Option Word → Option Answer
value_answer (Some tag) (Some word) = Some (Value tag word)
value_answer tag word = None

abbrev pub value_from : List ℕ × Option (List ℕ) → Option Answer
value_from (tag, None) = None
value_from (tag, Some word) = value_answer (number_of MAX_TAG tag) (word_of word)

-- `TAG WORD`
abbrev pub value_of : Option (List ℕ) → Option Answer
value_of None = None
value_of (Some fields) = value_from (cut_of fields)

abbrev pub refusal : Option Cause → Option Answer
refusal None = None
refusal (Some cause) = Some (Refused cause)

-- a cause's number
abbrev pub refusal_of : Option (List ℕ) → Option Answer
refusal_of fields = refusal (option_and_then cause_of (one_number fields))

unfoldable pub answer_from : List ℕ → Option (List ℕ) → Option Answer
answer_from kind fields =
    if same kind (codes "accepted") then bare_answer Accepted fields
    else if same kind (codes "moved") then bare_answer Moved fields
    else if same kind (codes "value") then value_of fields
    else if same kind (codes "nothing") then bare_answer Nothing fields
    else if same kind (codes "refused") then refusal_of fields
    else None

-- the answer whose text this is
unfoldable pub answer_of : List ℕ → Option Answer
answer_of text = answer_from (cut_of text).0 (cut_of text).1

-- ---- pairs

-- the place at which ` -> ` first stands
abbrev pub arrow_in : List ℕ → Option ℕ
arrow_in [] = None
arrow_in (b ∷ bs) = if starts_with nat_eq (b ∷ bs) (codes " -> ") then Some 0 else option_map (λ k. suc k) (arrow_in bs)

abbrev pub answered_pair : Line → Option Answer → Result Pair LineFault
answered_pair line None = Err Field
answered_pair line (Some answer) = Ok (record { line = line; answer = Some answer })

-- a text is this front, an arrow, and the text of this answer
pub record IsAnswered (text front : List ℕ) (answer : Answer) : Type 0 where
  pub reply : List ℕ
  pub whole : text ≡ front ++ (codes " -> " ++ reply)
  pub said : answer_of reply ≡ Some answer

-- a line and the text of its answer, which is passed over where the line only shows something
abbrev pub pair_with : Line → List ℕ → Result Pair LineFault
pair_with (line.Event event) answer = answered_pair (line.Event event) (answer_of answer)
pair_with (line.Register slot) answer = Ok (record { line = line.Register slot; answer = None })
pair_with (line.Bank at) answer = Ok (record { line = line.Bank at; answer = None })
pair_with line.Settled answer = Ok (record { line = line.Settled; answer = None })

abbrev pub pair_from : Result Line LineFault → List ℕ → Result Pair LineFault
pair_from (Err fault) answer = Err fault
pair_from (Ok line) answer = pair_with line answer

abbrev pub pair_cut : List ℕ → Option ℕ → Result Pair LineFault
pair_cut text None = Err Field
pair_cut text (Some at) = pair_from (line_of (take at text)) (drop (at + 4) text)

-- what a line with its answer says, without its LF
unfoldable pub pair_of : List ℕ → Result Pair LineFault
pair_of text = pair_cut text (arrow_in text)

-- what a line with its answer says, with its LF
abbrev pub ended_pair_of : List ℕ → Result Pair LineFault
ended_pair_of bytes =
    if nat_lt MAX_PAIR (length (without_end bytes)) then Err TooLong
    else if is_ended bytes then pair_of (without_end bytes)
    else Err NotEnded
