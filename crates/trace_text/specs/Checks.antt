-- What a check of a served trace finds.
use Rattle.std.specs.Prelude.{◌≡◌, ℕ, ◌+◌, ◌≤◌, Option, Some, None, Result, Ok, Err, List, [], ◌∷◌, ◌++◌, length, take}
use Rattle.std.specs.Prelude.{replicate, slice_get}
use Rattle.flat_model.specs.declared.Event.{Event}
use Rattle.flat_model.specs.declared.Answer.{Answer}
use Rattle.flat_model.specs.Words.{zero_word}
use Rattle.flat_model.specs.Flat.{Flat, opening, flat_step, flat_run, first_fault}
use Rattle.trace_text.specs.Pairs.{pair_of}
use Rattle.trace_text.specs.Reading.{fault_of}
use Rattle.trace_text.specs.declared.lines.Line.{Line}
use Rattle.trace_text.specs.declared.lines.Line.TheVariants as line
use Rattle.trace_text.specs.declared.lines.LineFault.{LineFault}
use Rattle.trace_text.specs.declared.pairs.Pair.{Pair}
use Rattle.trace_text.specs.declared.check.Step.{Step}
use Rattle.trace_text.specs.declared.check.CheckEnd.{CheckEnd}
use Rattle.trace_text.specs.declared.check.CheckEnd.TheVariants.{Flat as FlatRun, Mismatch}

-- an event with its answer
abbrev pub step_with : Line → Option Answer → Option Step
step_with (line.Event event) (Some answer) = Some (record { event = event; answer = answer })
step_with line answer = None

-- the step that a pair is, where it is one
abbrev pub step_of : Result Pair LineFault → Option Step
step_of (Ok pair) = step_with pair.line pair.answer
step_of (Err fault) = None

abbrev pub event_of : Option Step → List Event
event_of None = []
event_of (Some step) = step.event ∷ []

abbrev pub answer_of : Option Step → List Answer
answer_of None = []
answer_of (Some step) = step.answer ∷ []

abbrev pub number_of : ℕ → Option Step → List ℕ
number_of n None = []
number_of n (Some step) = n ∷ []

-- the events of these lines
abbrev pub events_in : List (List ℕ) → List Event
events_in [] = []
events_in (text ∷ texts) = event_of (step_of (pair_of text)) ++ events_in texts

-- their answers
abbrev pub answers_in : List (List ℕ) → List Answer
answers_in [] = []
answers_in (text ∷ texts) = answer_of (step_of (pair_of text)) ++ answers_in texts

-- the numbers of their lines, of which the first is n
abbrev pub numbers_from : ℕ → List (List ℕ) → List ℕ
numbers_from n [] = []
numbers_from n (text ∷ texts) = number_of n (step_of (pair_of text)) ++ numbers_from (n + 1) texts

-- memory of so many words, all zero, in which nothing is owed
abbrev pub zeros : ℕ → Flat
zeros words = opening (replicate words zero_word)

-- all pairs are a flat run from one memory to the other, or this is the line of the first that isn't listed, and those before it
-- are one
abbrev pub IsJudgedFrom : Flat → List (List ℕ) → CheckEnd → Flat → Type 0
IsJudgedFrom start texts (FlatRun steps) last =
    (steps ≡ length (events_in texts)) × (flat_run start (events_in texts) (answers_in texts) ≡ Some last)
IsJudgedFrom start texts (Mismatch n) last =
    (flat_run start (events_in texts) (answers_in texts) ≡ None) ×
    ((place : ℕ) × (first_fault start (events_in texts) (answers_in texts) ≡ Some place)
    × (slice_get (numbers_from 1 texts) place ≡ Some n)
    × (flat_run start (take place (events_in texts)) (take place (answers_in texts)) ≡ Some last))

-- the same from zeros on
abbrev pub IsJudged : ℕ → List (List ℕ) → CheckEnd → Type 0
IsJudged words texts (FlatRun steps) = (steps ≡ length (events_in texts)) ×
    ((last : Flat) × (flat_run (zeros words) (events_in texts) (answers_in texts) ≡ Some last))
IsJudged words texts (Mismatch n) = (flat_run (zeros words) (events_in texts) (answers_in texts) ≡ None) ×
    ((place : ℕ) × (first_fault (zeros words) (events_in texts) (answers_in texts) ≡ Some place)
    × (slice_get (numbers_from 1 texts) place ≡ Some n))

-- the fault of a line of a served trace, where it has one
abbrev pub pair_fault : List ℕ → Option LineFault
pair_fault text = fault_of (pair_of text)

-- so many events of these lines are a flat run from one memory to the other, or this is the line of the first pair that
-- isn't listed, and those before it are one
abbrev pub JudgedFrom : Flat → List (List ℕ) → ℕ → Option ℕ → Flat → Type 0
JudgedFrom start texts steps None now = (steps ≡ length (events_in texts)) ×
    (flat_run start (events_in texts) (answers_in texts) ≡ Some now)
JudgedFrom start texts steps (Some n) now = (steps ≤ length (events_in texts)) ×
    ((place : ℕ) × (first_fault start (events_in texts) (answers_in texts) ≡ Some place)
    × (slice_get (numbers_from 1 texts) place ≡ Some n)
    × (flat_run start (take place (events_in texts)) (take place (answers_in texts)) ≡ Some now))

-- One more step, of line n: it is one of flat memory, or the first that isn't. At a mismatch, and behind it, memory stays.
abbrev pub Judges : ℕ → Event → Answer → Flat → ℕ → Option ℕ → Flat → ℕ → Option ℕ → Type 0
Judges n event answer s steps (Some m) t steps' o = (steps' ≡ steps) × (o ≡ Some m) × (t ≡ s)
Judges n event answer s steps None t steps' None = (flat_step s event answer ≡ Some t) × (steps' ≡ steps + 1)
Judges n event answer s steps None t steps' (Some m) = (flat_step s event answer ≡ None) × (steps' ≡ steps) × (m ≡ n)
    × (t ≡ s)
