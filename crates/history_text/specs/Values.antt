-- What is written of the lines of a history: each line, and behind an answer to a load what the load may have returned.
use Rattle.std.specs.Prelude.{◌≡◌, ℕ, ◌+◌, ◌⊎◌, ◌==◌, if◌then◌else◌, Bool, true, false, Option, None, Some, Result}
use Rattle.std.specs.Prelude.{Ok, Err, List, [], ◌∷◌, ◌++◌, length, codes}
use Rattle.std.specs.List.{flat_map}
use Rattle.history_sessions.specs.Words.{HistoryEvent, LoadRequest, LoadResponse, StoreRequest, StoreResponse, ByteSet, OpenOperation}
use Rattle.history_sessions.specs.Words.{operation_under}
use Rattle.trace_text.specs.Codes.{line_feed}
use Rattle.trace_text.specs.Streams.{Moves, Stopped}
use Rattle.trace_text.specs.Reading.{FirstLine, ReadSoFarWithin, ReadIntoWithin}
use Rattle.trace_text.specs.declared.fault.TheConstants.{MAX_PAIR}
use Rattle.trace_text.specs.declared.fault.TraceFault.{TraceFault}
use Rattle.trace_text.specs.declared.fault.TraceFault.TheVariants as fault
use Rattle.history_sessions.specs.declared.faults.JudgeFault.TheVariants.{Undecided}
use Rattle.history_sessions.specs.declared.judge.Judge.{Judge}
use Rattle.history_sessions.specs.History.{History}
use Rattle.history_sessions.specs.Kept.{IsOf, IsSetFound}
use Rattle.history_sessions.specs.Session.{Session}
use Rattle.history_text.specs.Lines.{line_of}
use Rattle.history_text.specs.Answers.{bytes_in_set, joined_bytes}
use Rattle.history_text.specs.Notes.{byte_address}
use Rattle.history_text.specs.Histories.{most_lines, history_fault, session_of, AreOfLaw, JudgesWith, HasJudged, LineStops}
use Rattle.history_text.specs.declared.answers.HistoryEnd.{HistoryEnd}
use Rattle.history_text.specs.declared.reading.Judging.{Judging}
use Rattle.history_text.specs.declared.refusals.Stop.{Stop}
use Rattle.history_text.specs.declared.refusals.Stop.TheVariants as stop

-- ---- texts

-- these bytes, of which one is meant: `??` if it may be any
abbrev pub any_text : List ℕ → List ℕ
any_text bytes = if length bytes == 256 then codes "??" else joined_bytes (codes "|") bytes

-- a set of bytes, if there is one
abbrev pub set_text : Option ByteSet → List ℕ
set_text None = codes "-"
set_text (Some set) = any_text (bytes_in_set set)

abbrev pub sets_text : List (Option ByteSet) → List ℕ
sets_text sets = flat_map (λ set. codes " " ++ set_text set) sets

-- what is written behind a line
abbrev pub values_text : Option (List (Option ByteSet)) → List ℕ
values_text None = []
values_text (Some sets) = codes " ->" ++ sets_text sets

-- ---- what a load may have returned

-- a judge of the history tells this set of the byte at an address, or can't tell one
abbrev pub IsReturned : History → ℕ → ℕ → Option ByteSet → Type 0
IsReturned h number address set = (j : Judge) × IsOf j h × (IsSetFound j h number address (Ok set)
    ⊎ ((set ≡ None) × (first : ℕ) × IsSetFound j h number address (Err (Undecided first))))

-- of the bytes of an open load from this place on
abbrev pub AreSetsFrom : History → OpenOperation → ℕ → List (Option ByteSet) → Type 0
AreSetsFrom h load place [] = Unit {0}
AreSetsFrom h load place (set ∷ sets) = IsReturned h load.number (byte_address load place) set × AreSetsFrom h load (place + 1) sets

-- of each byte of an open load, if there is one
abbrev pub AreSetsOf : History → Option OpenOperation → Option (List (Option ByteSet)) → Type 0
AreSetsOf h None values = values ≡ None
AreSetsOf h (Some load) values =
    (sets : List (Option ByteSet)) × (values ≡ Some sets) × (length sets ≡ load.length) × AreSetsFrom h load 0 sets

-- what the load that this event answers may have returned
abbrev pub AreValues : Session → Option HistoryEvent → Option (List (Option ByteSet)) → Type 0
AreValues s None values = values ≡ None
AreValues s (Some (LoadRequest number address n enables)) values = values ≡ None
AreValues s (Some (LoadResponse number bytes)) values = AreSetsOf s.history (operation_under number s.loads) values
AreValues s (Some (StoreRequest number address bytes enables)) values = values ≡ None
AreValues s (Some (StoreResponse number)) values = values ≡ None

-- ---- what is written

-- these bytes are a good line behind a history, with what its load may have returned
pub record IsTold (s : Session) (text out : List ℕ) : Type 0 where
  pub event : Option HistoryEvent
  pub said : line_of text ≡ Ok event
  pub values : Option (List (Option ByteSet))
  pub returned : AreValues s event values
  pub is : out ≡ text ++ (values_text values ++ line_feed ∷ [])

-- from one state of a writer on, these lines were written
pub data Told {W : Type 0} (took : W → List ℕ → W → Type 0) (start : Session) (w : W) : List (List ℕ) → W → Type 0 where
  nothing : Told took start w [] w
  one_more : (texts : List (List ℕ)) (text out : List ℕ) (v u : W) → Told took start w texts v → IsTold (session_of start texts) text out
      → Moves took v out u → Told took start w (texts ++ text ∷ []) u

-- these lines were written, and then a write of this one was refused
pub record Breaks {W : Type 0} (took : W → List ℕ → W → Type 0) (refused : W → W → Type 0) (start : Session) (w : W) (texts : List (List ℕ))
    (text : List ℕ) (w' : W) : Type 0 where
  pub last : W
  pub before : Told took start w texts last
  pub out : List ℕ
  pub is_told : IsTold (session_of start texts) text out
  pub stopped : Stopped took refused last out w'

-- How a history is judged, and its lines are written: all of them that are told of, unless there is too little memory. What was written
-- is flushed before the next read, at the end, and before a fault.
abbrev pub Writes : {R W : Type 0} (gave : R → List ℕ → R → Type 0) (failed : R → R → Type 0) (took : W → List ℕ → W → Type 0)
    (refused unflushed : W → W → Type 0) (start : Session) (r r' : R) (w w' : W)
    → Result HistoryEnd TraceFault → Type 0
-- a flush was refused behind these lines, or a write of the next one
Writes {R} {W} gave failed took refused unflushed start r r' w w' (Err fault.Write) = (texts : List (List ℕ)) × (rest : List ℕ) ×
    AreOfLaw start texts ×
    (((v : W) × Told took start w texts v × unflushed v w' × (ReadSoFarWithin gave history_fault MAX_PAIR most_lines r r' texts rest
    ⊎ ReadIntoWithin gave history_fault MAX_PAIR most_lines r r' texts rest))
    ⊎ (ReadIntoWithin gave history_fault MAX_PAIR most_lines r r' texts rest
    × FirstLine history_fault MAX_PAIR (λ text. Breaks took refused start w texts text w') rest))
Writes gave failed took refused unflushed start r r' w w' end = JudgesWith gave failed start (λ texts. Told took start w texts w') r r' end

-- ---- in the middle of a reading

-- from each beginning that there may have been, these lines were written
abbrev pub WereTold : {W : Type 0} (took : W → List ℕ → W → Type 0) (j : Judging) (w : W) (texts : List (List ℕ)) (w' : W) → Type 0
WereTold took j w texts w' = (start : Session) → HasJudged start [] j → Told took start w texts w'

-- a writer is flushed if something is due
abbrev pub Flushes : {W : Type 0} (took : W → List ℕ → W → Type 0) (due : Bool) (w w' : W) → Type 0
Flushes took true w w' = took w [] w'
Flushes took false w w' = w' ≡ w

-- a write or a flush was refused
abbrev pub write_stop : Stop
write_stop = stop.Fault fault.Write

-- why a line wasn't written behind the lines before it
abbrev pub TellStops : {W : Type 0} (took : W → List ℕ → W → Type 0) (refused : W → W → Type 0) (s : Session) (text : List ℕ) (w w' : W)
    → Stop → Type 0
TellStops took refused s text w w' (stop.Fault fault.OutOfMemory) = Unit {0}
TellStops took refused s text w w' (stop.Fault fault.Write) = (out : List ℕ) × IsTold s text out ×
    Stopped took refused w out w'
TellStops took refused s text w w' (stop.Fault (fault.Line n f)) = ⊥
TellStops took refused s text w w' (stop.Fault fault.TooManyLines) = ⊥
TellStops took refused s text w w' (stop.Fault fault.Read) = ⊥
TellStops took refused s text w w' (stop.Refused refusal) = ⊥
TellStops took refused s text w w' (stop.Undecided line address) = ⊥

-- why a line isn't taken, and what was written then
abbrev pub WriteStops : {W : Type 0} (took : W → List ℕ → W → Type 0) (refused : W → W → Type 0) (start : Session) (first : W)
    (texts : List (List ℕ)) (text : List ℕ) (w' : W) → Stop → Type 0
WriteStops took refused start first texts text w' (stop.Fault fault.OutOfMemory) = Unit {0}
WriteStops took refused start first texts text w' (stop.Fault fault.Write) = Breaks took refused start first texts text w'
WriteStops took refused start first texts text w' why = LineStops start texts text why × Told took start first (texts ++ text ∷ []) w'
