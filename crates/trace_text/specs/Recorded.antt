-- The text of a recorded pair.
use Rattle.std.specs.Prelude.{ℕ, List, [], ◌++◌, codes, Option, Some, None}
use Rattle.flat_model.specs.declared.Event.{Event}
use Rattle.flat_model.specs.declared.Answer.{Answer}
use Rattle.trace_text.specs.Texts.{answer_text}
use Rattle.trace_text.specs.Written.{line_text, IsFit, IsFitAnswer}
use Rattle.trace_text.specs.declared.lines.Line.{Line}
use Rattle.trace_text.specs.declared.lines.Line.TheVariants as line
use Rattle.trace_text.specs.declared.pairs.Pair.{Pair}

-- an event and the answer that it got
abbrev pub recorded : Event → Answer → Pair
recorded event answer = record { line = line.Event event; answer = Some answer }

-- an answer's text; nothing where a line only shows something
abbrev pub told_text : Option Answer → List ℕ
told_text None = []
told_text (Some answer) = answer_text answer

-- a line and its answer, without the LF
abbrev pub pair_text : Pair → List ℕ
pair_text pair = line_text pair.line ++ (codes " -> " ++ told_text pair.answer)

-- an event has an answer, and another line has none
abbrev pub IsTold : Line → Option Answer → Type 0
IsTold (line.Event event) (Some answer) = IsFitAnswer answer
IsTold (line.Event event) None = ⊥
IsTold (line.Register slot) None = Unit {0}
IsTold (line.Register slot) (Some answer) = ⊥
IsTold (line.Bank at) None = Unit {0}
IsTold (line.Bank at) (Some answer) = ⊥
IsTold line.Settled None = Unit {0}
IsTold line.Settled (Some answer) = ⊥

-- the pair's numbers are within their types
abbrev pub IsFitPair : Pair → Type 0
IsFitPair pair = IsFit pair.line × IsTold pair.line pair.answer
