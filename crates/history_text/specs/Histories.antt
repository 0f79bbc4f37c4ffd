-- How a history is read, and judged line by line.
use Rattle.std.specs.Prelude.{◌≡◌, ℕ, ◌+◌, ◌≤◌, Option, None, Some, Result, Ok, Err, List, [], ◌∷◌, ◌++◌, length}
use Rattle.std.specs.List.{fold}
use Rattle.std.specs.Option.{option_to_list}
use Rattle.history_sessions.specs.Words.{HistoryEvent}
use Rattle.history_sessions.specs.declared.faults.JudgeFault.TheVariants as judge
use Rattle.history_sessions.specs.History.{Passes}
use Rattle.history_sessions.specs.Kept.{IsKept, IsFaultOf}
use Rattle.history_sessions.specs.Session.{Session, session_after, session_passing, IsTimely}
use Rattle.trace_text.specs.Reading.{fault_of, FirstLine, ReadIntoWithin, ReadWholeWithin, ReadStopsWithin}
use Rattle.trace_text.specs.declared.lines.LineFault.{LineFault}
use Rattle.trace_text.specs.declared.fault.TheConstants.{MAX_PAIR}
use Rattle.trace_text.specs.declared.fault.TraceFault.{TraceFault}
use Rattle.trace_text.specs.declared.fault.TraceFault.TheVariants as fault
use Rattle.history_text.specs.Lines.{line_of}
use Rattle.history_text.specs.Refusals.{IsRefusal}
use Rattle.history_text.specs.declared.answers.HistoryEnd.{HistoryEnd}
use Rattle.history_text.specs.declared.answers.HistoryEnd.TheVariants as history
use Rattle.history_text.specs.declared.reading.Judging.{Judging}
use Rattle.history_text.specs.declared.refusals.Stop.{Stop}
use Rattle.history_text.specs.declared.refusals.Stop.TheVariants as stop

-- how many lines can be numbered
abbrev pub most_lines : ℕ
most_lines = 18446744073709551615

-- ---- lines

-- the fault of a line, if it has one
abbrev pub history_fault : List ℕ → Option LineFault
history_fault text = fault_of (line_of text)

abbrev pub events_in : Result (Option HistoryEvent) LineFault → List HistoryEvent
events_in (Ok event) = option_to_list event
events_in (Err f) = []

-- the events of these lines
abbrev pub events_of : List (List ℕ) → List HistoryEvent
events_of [] = []
events_of (text ∷ texts) = events_in (line_of text) ++ events_of texts

-- a line is a moment, with an event or without
abbrev pub line_then : Session → Result (Option HistoryEvent) LineFault → Session
line_then s (Ok None) = session_passing s
line_then s (Ok (Some event)) = session_after s event
line_then s (Err f) = s

-- after these lines
abbrev pub session_of : Session → List (List ℕ) → Session
session_of start texts = fold (λ s text. line_then s (line_of text)) start texts

-- with a line's event the history is one of the law
abbrev pub PassesLine : Session → Result (Option HistoryEvent) LineFault → Type 0
PassesLine s (Ok (Some event)) = Passes s.history event
PassesLine s said = Unit {0}

-- so it is with each of these lines behind those before it
abbrev pub AreOfLaw : Session → List (List ℕ) → Type 0
AreOfLaw s [] = Unit {0}
AreOfLaw s (text ∷ texts) = PassesLine s (line_of text) × AreOfLaw (line_then s (line_of text)) texts

-- how many operations are open
abbrev pub open_in : Session → ℕ
open_in s = length s.loads + length s.stores

-- Behind these lines such a line is none of the law, or isn't decided, and this is what is told of it.
abbrev pub LineEnds : Session → List (List ℕ) → List ℕ → HistoryEnd → Type 0
LineEnds start texts text (history.OfLaw events still_open) = ⊥
LineEnds start texts text (history.Refused refusal) =
    (event : HistoryEvent) × (line_of text ≡ Ok (Some event)) × IsRefusal (session_of start texts) (length texts + 1) event refusal
LineEnds start texts text (history.Undecided line address) =
    (event : HistoryEvent) × (line_of text ≡ Ok (Some event))
    × IsFaultOf (session_of start texts).history event (judge.Undecided address) × (line ≡ length texts + 1)

-- ---- what was read

-- How the judging of a history ends, and what holds then of the lines that are told of: those of the law, and the one that is none or
-- isn't decided.
abbrev pub JudgesWith : {R : Type 0} (gave : R → List ℕ → R → Type 0) (failed : R → R → Type 0) (start : Session)
    (told : List (List ℕ) → Type 0) (r r' : R) → Result HistoryEnd TraceFault → Type 0
-- all of it is one of the law
JudgesWith gave failed start told r r' (Ok (history.OfLaw events still_open)) = (texts : List (List ℕ)) ×
    ReadWholeWithin gave history_fault MAX_PAIR most_lines r r' texts × AreOfLaw start texts × told texts
    × (events ≡ length (events_of texts)) × (still_open ≡ open_in (session_of start texts))
-- a line of the piece that came last makes it none, or can't be decided
JudgesWith gave failed start told r r' (Ok end) = (texts : List (List ℕ)) × (rest : List ℕ) ×
    ReadIntoWithin gave history_fault MAX_PAIR most_lines r r' texts rest × AreOfLaw start texts ×
    FirstLine history_fault MAX_PAIR (λ text. LineEnds start texts text end × told (texts ++ text ∷ [])) rest
JudgesWith gave failed start told r r' (Err fault.OutOfMemory) = Unit {0}
-- the lines before the fault are of the law
JudgesWith gave failed start told r r' (Err f) = (texts : List (List ℕ)) ×
    ReadStopsWithin gave failed history_fault MAX_PAIR most_lines r r' texts f × AreOfLaw start texts × told texts

-- How the judging of a history ends.
abbrev pub Judges : {R : Type 0} (gave : R → List ℕ → R → Type 0) (failed : R → R → Type 0) (start : Session) (r r' : R)
    → Result HistoryEnd TraceFault → Type 0
Judges gave failed start r r' end = JudgesWith gave failed start (λ texts. Unit {0}) r r' end

-- what a reading gives that ends so
abbrev pub ended_by : Stop → Result HistoryEnd TraceFault
ended_by (stop.Refused refusal) = Ok (history.Refused refusal)
ended_by (stop.Undecided line address) = Ok (history.Undecided line address)
ended_by (stop.Fault f) = Err f

-- ---- in the middle of a reading

-- From this session on these lines were judged, and are of the law.
pub record HasJudged (start : Session) (texts : List (List ℕ)) (j : Judging) : Type 0 where
  pub kept : IsKept j.session (session_of start texts)
  pub timely : IsTimely (session_of start texts)
  pub moment : (session_of start texts).seen.moment ≡ length texts
  pub of_law : AreOfLaw start texts
  pub events : j.events ≡ length (events_of texts)
  pub lines : j.lines ≡ length texts

-- some session had these lines judged since, and each one that it may have been
pub record WereJudged (j : Judging) (texts : List (List ℕ)) (j' : Judging) : Type 0 where
  pub start : Session
  pub begun : HasJudged start texts j'
  pub each : (other : Session) → HasJudged other [] j → HasJudged other texts j'

-- why such a line isn't taken behind these lines
abbrev pub LineStops : Session → List (List ℕ) → List ℕ → Stop → Type 0
LineStops start texts text (stop.Refused refusal) = LineEnds start texts text (history.Refused refusal)
LineStops start texts text (stop.Undecided line address) = LineEnds start texts text (history.Undecided line address)
LineStops start texts text (stop.Fault fault.OutOfMemory) = Unit {0}
LineStops start texts text (stop.Fault f) = ⊥
