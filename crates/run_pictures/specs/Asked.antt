-- The events of a trace or of a recorded run, with the answers that were recorded.
use Rattle.std.specs.Prelude.{◌≡◌, ℕ, ◌<◌, ◌≤◌, Bool, if◌then◌else◌, nat_lt, Option, Some, None, Result, Ok, Err, List, [], ◌∷◌, ◌++◌}
use Rattle.std.specs.Prelude.{length, Vec}
use Rattle.std.specs.Global.{Global}
use Rattle.std.specs.List.{flat_map}
use Rattle.std.specs.Option.{option_to_list}
use Rattle.machine_core.specs.Words.{Answer}
use Rattle.trace_text.specs.declared.fault.TheConstants.{MAX_LINE}
use Rattle.trace_text.specs.Lines.{same, line_of}
use Rattle.trace_text.specs.Pairs.{pair_of}
use Rattle.trace_text.specs.Reading.{fault_of}
use Rattle.trace_text.specs.Texts.{answer_text}
use Rattle.trace_text.specs.declared.lines.Line.{Line}
use Rattle.trace_text.specs.declared.lines.Line.TheVariants as line
use Rattle.trace_text.specs.declared.lines.LineFault.{LineFault}
use Rattle.trace_text.specs.declared.pairs.Pair.{Pair}
use Rattle.run_pictures.specs.declared.asked.Asked.{Asked}
use Rattle.run_pictures.specs.declared.asked.AskedSoFar.{AskedSoFar}
use Rattle.run_pictures.specs.declared.drawn.TheConstants.{MOST_EVENTS}

-- ---- lines

-- A line of a trace, of which no answer was recorded, or else one of a recorded run. What is neither has the trace's fault.
abbrev pub either_of : Result Line LineFault → Result Pair LineFault → Result Pair LineFault
either_of (Ok said) pair = Ok (record { line = said; answer = None })
either_of (Err fault) (Ok pair) = Ok pair
either_of (Err fault) (Err other) = Err fault

-- What a line says, without its LF. One of more than 64 bytes is none of a trace.
unfoldable pub said_of : List ℕ → Result Pair LineFault
said_of text = if nat_lt MAX_LINE (length text) then pair_of text else either_of (line_of text) (pair_of text)

-- the fault of a line, where it has one
abbrev pub said_fault : List ℕ → Option LineFault
said_fault text = fault_of (said_of text)

-- ---- events

-- the event of a line, and the answer that was recorded with it
abbrev pub asked_with : Line → Option Answer → Option Asked
asked_with (line.Event event) recorded = Some (record { event = event; recorded = recorded })
asked_with (line.Register slot) recorded = None
asked_with (line.Bank at) recorded = None
asked_with line.Settled recorded = None

abbrev pub asked_by : Result Pair LineFault → Option Asked
asked_by (Err fault) = None
asked_by (Ok pair) = asked_with pair.line pair.answer

abbrev pub asked_in : List ℕ → List Asked
asked_in text = option_to_list (asked_by (said_of text))

-- what is asked in these lines, in order
abbrev pub all_asked : List (List ℕ) → List Asked
all_asked texts = flat_map asked_in texts

-- ---- answers

-- whether two answers are written alike
abbrev pub is_same_answer : Answer → Answer → Bool
is_same_answer answer recorded = same (answer_text answer) (answer_text recorded)

-- the recorded answer, if it isn't the machine's
unfoldable pub other_answer : Answer → Option Answer → Option Answer
other_answer answer None = None
other_answer answer (Some recorded) = if is_same_answer answer recorded then None else Some recorded

-- ---- in the middle of a reading

-- all that is asked, or nothing if that is too much
abbrev pub KeepsFew : List Asked → Option (Vec Asked Global) → Type 0
KeepsFew asked (Some kept) = (length asked ≤ MOST_EVENTS) × (kept.items ≡ asked)
KeepsFew asked None = MOST_EVENTS < length asked

-- what is asked in these lines
pub record Gathered (texts : List (List ℕ)) (e : AskedSoFar) : Type 0 where
  pub kept : KeepsFew (all_asked texts) e.kept

-- one more is kept, if that isn't too much
abbrev pub KeepsOne : Option (Vec Asked Global) → Asked → Option (Vec Asked Global) → Type 0
KeepsOne None asked kept = kept ≡ None
KeepsOne (Some old) asked None = MOST_EVENTS ≤ length old.items
KeepsOne (Some old) asked (Some kept) = (length old.items < MOST_EVENTS) × (kept.items ≡ old.items ++ asked ∷ [])
