-- The text that a line and an answer have.
use Rattle.std.specs.Prelude.{ℕ, ◌<◌, ◌≤◌, List, ◌∷◌, ◌++◌, codes, decimal, Option, Some, None}
use Rattle.flat_model.specs.declared.Word.{Word}
use Rattle.flat_model.specs.declared.Event.TheVariants.{Load, Store, Prefetch, Evict, Drain, Serve, Arrive, Process, Take}
use Rattle.flat_model.specs.declared.Answer.{Answer}
use Rattle.flat_model.specs.declared.Answer.TheVariants.{Accepted, Moved, Value, Nothing, Refused}
use Rattle.trace_text.specs.Codes.{space}
use Rattle.trace_text.specs.declared.fields.TheConstants.{MAX_NUMBER, MAX_TAG}
use Rattle.flat_model.specs.Texts.{lanes_text, word_text}
use Rattle.trace_text.specs.declared.lines.Line.{Line}
use Rattle.trace_text.specs.declared.lines.Line.TheVariants as line

-- a line of a trace, without its LF
abbrev pub line_text : Line → List ℕ
line_text (line.Event (Load tag at)) = codes "load " ++ decimal tag ++ space ∷ decimal at
line_text (line.Event (Store at word lanes)) = codes "store " ++ (decimal at ++ (space ∷ (lanes_text lanes ++ (space ∷ word_text word))))
line_text (line.Event (Prefetch at)) = codes "prefetch " ++ decimal at
line_text (line.Event (Evict block)) = codes "evict " ++ decimal block
line_text (line.Event Drain) = codes "drain"
line_text (line.Event (Serve bank)) = codes "serve " ++ decimal bank
line_text (line.Event (Arrive bank place)) = codes "arrive " ++ decimal bank ++ space ∷ decimal place
line_text (line.Event (Process place)) = codes "process " ++ decimal place
line_text (line.Event (Take place)) = codes "take " ++ decimal place
line_text (line.Register slot) = codes "reg " ++ decimal slot
line_text (line.Bank at) = codes "bank " ++ decimal at
line_text line.Settled = codes "settled"

abbrev pub IsNumber : ℕ → Type 0
IsNumber n = n ≤ MAX_NUMBER

abbrev pub IsTag : ℕ → Type 0
IsTag tag = tag ≤ MAX_TAG

abbrev pub IsWord : Word → Type 0
IsWord w = (w.b0 < 256) × (w.b1 < 256) × (w.b2 < 256) × (w.b3 < 256)

-- the line's numbers are within their types, and its mask names no lane but the four
abbrev pub IsFit : Line → Type 0
IsFit (line.Event (Load tag at)) = IsTag tag × IsNumber at
IsFit (line.Event (Store at word lanes)) = IsNumber at × IsWord word × (lanes.0 < 16)
IsFit (line.Event (Prefetch at)) = IsNumber at
IsFit (line.Event (Evict block)) = IsNumber block
IsFit (line.Event Drain) = Unit {0}
IsFit (line.Event (Serve bank)) = IsNumber bank
IsFit (line.Event (Arrive bank place)) = IsNumber bank × IsNumber place
IsFit (line.Event (Process place)) = IsNumber place
IsFit (line.Event (Take place)) = IsNumber place
IsFit (line.Register slot) = IsNumber slot
IsFit (line.Bank at) = IsNumber at
IsFit line.Settled = Unit {0}

abbrev pub IsFitAnswer : Answer → Type 0
IsFitAnswer Accepted = Unit {0}
IsFitAnswer Moved = Unit {0}
IsFitAnswer (Value tag word) = IsTag tag × IsWord word
IsFitAnswer Nothing = Unit {0}
IsFitAnswer (Refused cause) = Unit {0}

abbrev pub IsFitReply : Option Answer → Type 0
IsFitReply None = Unit {0}
IsFitReply (Some answer) = IsFitAnswer answer
