-- What a run over a trace reads, applies and writes.
use Rattle.std.specs.Prelude.{◌≡◌, ℕ, ◌+◌, ◌<◌, ◌≤◌, ◌⊎◌, Option, None, Some, Result, Ok, Err, List, [], ◌∷◌, ◌++◌, length, codes}
use Rattle.trace_text.specs.declared.fault.TheConstants.{MAX_LINE}
use Rattle.std.specs.Option.{option_to_list}
use Rattle.std.specs.List.{AllByRecursion}
use Rattle.flat_model.specs.declared.Event.{Event}
use Rattle.flat_model.specs.declared.Answer.{Answer}
use Rattle.flat_model.specs.declared.Answer.TheVariants.{Accepted, Moved, Value, Nothing, Refused}
use Rattle.flat_model.specs.Flat.{flat_run}
use Rattle.machine_core.specs.Machine.{MachineState}
use Rattle.trace_text.specs.Codes.{line_feed, most_lines}
use Rattle.trace_text.specs.Lines.{line_of}
use Rattle.machine_core.specs.AnyMachine.{answered, flat}
use Rattle.trace_text.specs.Texts.{reply_text, after_line}
use Rattle.trace_text.specs.Streams.{Moves, Stopped}
use Rattle.trace_text.specs.Reading.{fault_of, FirstLine, ReadSoFar, ReadInto, ReadWhole, ReadStops}
use Rattle.trace_text.specs.declared.lines.Line.{Line}
use Rattle.trace_text.specs.declared.lines.Line.TheVariants as line
use Rattle.trace_text.specs.declared.lines.LineFault.{LineFault}
use Rattle.trace_text.specs.declared.serve.Counts.{Counts}
use Rattle.trace_text.specs.declared.fault.TraceFault.{TraceFault}
use Rattle.trace_text.specs.declared.fault.TraceFault.TheVariants as fault

-- the fault of a line of a trace, where it has one
abbrev pub trace_fault : List ℕ → Option LineFault
trace_fault text = fault_of (line_of text)

-- the bytes before an LF, and the line that they are
abbrev pub IsRead : List ℕ × Line → Type 0
IsRead s = line_of s.0 ≡ Ok s.1

-- the bytes of these lines
abbrev pub texts_of : List (List ℕ × Line) → List (List ℕ)
texts_of [] = []
texts_of (s ∷ ss) = s.0 ∷ texts_of ss

-- ---- what is written

-- what is written for a line
abbrev pub told : MachineState → List ℕ × Line → List ℕ
told m s = s.0 ++ (codes " -> " ++ (reply_text m s.1 ++ (line_feed ∷ [])))

-- what is written for these lines
abbrev pub told_all : MachineState → List (List ℕ × Line) → List ℕ
told_all m [] = []
told_all m (s ∷ ss) = told m s ++ told_all (after_line m s.1) ss

-- the machine behind these lines
abbrev pub after_all : MachineState → List (List ℕ × Line) → MachineState
after_all m [] = m
after_all m (s ∷ ss) = after_all (after_line m s.1) ss

-- ---- the events and their answers

-- the event of a line, where it is one
abbrev pub event_in : Line → Option Event
event_in (line.Event event) = Some event
event_in (line.Register slot) = None
event_in (line.Bank at) = None
event_in line.Settled = None

-- the answer to the event of a line
abbrev pub answer_to : MachineState → Line → Option Answer
answer_to m (line.Event event) = Some (answered m event)
answer_to m (line.Register slot) = None
answer_to m (line.Bank at) = None
answer_to m line.Settled = None

-- the events of these lines
abbrev pub events_of : List (List ℕ × Line) → List Event
events_of [] = []
events_of (s ∷ ss) = option_to_list (event_in s.1) ++ events_of ss

-- the answers to the events of these lines
abbrev pub answers_of : MachineState → List (List ℕ × Line) → List Answer
answers_of m [] = []
answers_of m (s ∷ ss) = option_to_list (answer_to m s.1) ++ answers_of (after_line m s.1) ss

-- ---- counts

abbrev pub no_counts : Counts
no_counts = record { lines = 0; accepted = 0; moved = 0; values = 0; nothing = 0; refused = 0 }

-- an answer counts once, by its kind
abbrev pub counted_answer : Counts → Answer → Counts
counted_answer c Accepted = record c { accepted = c.accepted + 1 }
counted_answer c Moved = record c { moved = c.moved + 1 }
counted_answer c (Value tag word) = record c { values = c.values + 1 }
counted_answer c Nothing = record c { nothing = c.nothing + 1 }
counted_answer c (Refused cause) = record c { refused = c.refused + 1 }

abbrev pub counted_reply : Counts → Option Answer → Counts
counted_reply c None = record c { lines = c.lines + 1 }
counted_reply c (Some answer) = counted_answer (record c { lines = c.lines + 1 }) answer

-- every line counts, and the answer to an event too
abbrev pub counted_line : MachineState → Counts → Line → Counts
counted_line m c line = counted_reply c (answer_to m line)

-- the counts behind these lines
abbrev pub counted : MachineState → Counts → List (List ℕ × Line) → Counts
counted m c [] = c
counted m c (s ∷ ss) = counted (after_line m s.1) (counted_line m c s.1) ss

-- counts of a trace's lines: none is above the limit of lines
pub record IsWithin (c : Counts) : Type 0 where
  pub lines : c.lines ≤ most_lines
  pub accepted : c.accepted ≤ c.lines
  pub moved : c.moved ≤ c.lines
  pub values : c.values ≤ c.lines
  pub nothing : c.nothing ≤ c.lines
  pub refused : c.refused ≤ c.lines

-- ---- lines that were served

-- one line was applied, counted and written
pub record LineServed {W : Type 0} (took : W → List ℕ → W → Type 0) (old : W) (m : MachineState) (c : Counts) (text : List ℕ) (new : W)
    (m' : MachineState) (c' : Counts) : Type 0 where
  pub line : Line
  pub said : line_of text ≡ Ok line
  pub written : Moves took old (told m (text, line)) new
  pub state : m' ≡ after_line m line
  pub counts : c' ≡ counted_line m c line
  pub within : IsWithin c'
  pub number : c'.lines ≡ c.lines + 1
  pub runs : flat_run (flat m) (option_to_list (event_in line)) (option_to_list (answer_to m line)) ≡ Some (flat m')

-- These lines were applied and counted, and their texts were written. The answers are a run of flat memory.
pub record Applied {W : Type 0} (took : W → List ℕ → W → Type 0) (old : W) (m : MachineState) (texts : List (List ℕ)) (new : W)
    (m' : MachineState) (c : Counts) : Type 0 where
  pub lines : List (List ℕ × Line)
  pub read : AllByRecursion IsRead lines
  pub whole : texts ≡ texts_of lines
  pub number : c.lines ≡ length texts
  pub within : IsWithin c
  pub counts : c ≡ counted m no_counts lines
  pub written : Moves took old (told_all m lines) new
  pub state : m' ≡ after_all m lines
  pub runs : flat_run (flat m) (events_of lines) (answers_of m lines) ≡ Some (flat m')

-- This line was applied, and writing its text stopped at a refusal.
abbrev pub Broken : {W : Type 0} (took : W → List ℕ → W → Type 0) (refused : W → W → Type 0) (old : W) (m : MachineState) (text : List ℕ)
    (new : W) (m' : MachineState) → Type 0
Broken took refused old m text new m' = (line : Line) × (line_of text ≡ Ok line) × Stopped took refused old (told m (text, line)) new ×
    (m' ≡ after_line m line)

-- How a whole run ends: what was read, applied and written, by its answer. Where nothing was refused, a flush stands
-- behind all that was written.
abbrev pub Ends : {R W : Type 0} (gave : R → List ℕ → R → Type 0) (failed : R → R → Type 0) (took : W → List ℕ → W → Type 0)
    (refused unflushed : W → W → Type 0) (r r' : R) (w w' : W) (m m' : MachineState) → Result Counts TraceFault → Type 0
-- all was read, up to the end, and served
Ends {R} {W} gave failed took refused unflushed r r' w w' m m' (Ok counts) = (texts : List (List ℕ)) × (v : W) ×
    ReadWhole gave trace_fault MAX_LINE r r' texts × Applied took w m texts v m' counts × took v [] w'
-- nothing happened
Ends gave failed took refused unflushed r r' w w' m m' (Err fault.OutOfMemory) = (r' ≡ r) × (w' ≡ w) × (m' ≡ m)
-- a flush before a read or before a fault was refused, or the text of a line that was applied
Ends {R} {W} gave failed took refused unflushed r r' w w' m m' (Err fault.Write) = (texts : List (List ℕ)) × (rest : List ℕ) × (v : W) ×
    (s : MachineState) × (c : Counts) × Applied took w m texts v s c ×
    ((ReadSoFar gave trace_fault MAX_LINE r r' texts rest × unflushed v w' × (m' ≡ s))
    ⊎ (ReadInto gave trace_fault MAX_LINE r r' texts rest
    × ((unflushed v w' × (m' ≡ s))
    ⊎ ((length texts < most_lines)
    × FirstLine trace_fault MAX_LINE (λ text. Broken took refused v s text w' m') rest))))
-- the lines before the fault were served
Ends {R} {W} gave failed took refused unflushed r r' w w' m m' (Err e) = (texts : List (List ℕ)) × (v : W) × (c : Counts) ×
    ReadStops gave failed trace_fault MAX_LINE r r' texts e × Applied took w m texts v m' c × took v [] w'
