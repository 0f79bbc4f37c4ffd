-- What is written for a log: the fold of its lines.
use Rattle.std.specs.Prelude.{◌≡◌, ℕ, ◌+◌, ◌<◌, ◌≤◌, ◌⊎◌, Option, None, Some, Result, Ok, Err, List, [], ◌∷◌, ◌++◌, length}
use Rattle.flat_model.specs.declared.Event.{Event}
use Rattle.trace_text.specs.declared.fault.TheConstants.{MAX_PAIR}
use Rattle.trace_text.specs.Reading.{fault_of, FirstLine, ReadSoFarWithin, ReadIntoWithin, ReadWholeWithin, ReadStopsWithin}
use Rattle.trace_text.specs.Streams.{Moves, Stopped}
use Rattle.trace_text.specs.declared.lines.LineFault.{LineFault}
use Rattle.trace_text.specs.declared.fault.TraceFault.TheVariants as fault
use Rattle.access_logs.specs.declared.access.Access.{Access}
use Rattle.access_logs.specs.declared.reading.AccessGroup.{AccessGroup}
use Rattle.access_logs.specs.declared.fault.NoRoom.{NoRoom}
use Rattle.access_logs.specs.declared.fault.LogFault.{LogFault}
use Rattle.access_logs.specs.declared.fault.LogFault.TheVariants as log
use Rattle.access_logs.specs.Pages.{pages_after}
use Rattle.access_logs.specs.Requests.{requests_of, requests_text, tag_after, group_of}
use Rattle.access_logs.specs.declared.writing.TheConstants.{MOST_LOG_LINES}

-- the pages so far, the tag of the next load, and how many lines went before
pub record LogState : Type 0 where
  pub pages : List ℕ
  pub tag : ℕ
  pub lines : ℕ

abbrev pub state_with : List ℕ → ℕ → ℕ → LogState
state_with pages tag lines = record { pages = pages; tag = tag; lines = lines }

-- before the first line
abbrev pub log_start : LogState
log_start = state_with [] 0 0

-- the access of a line, if it has one
abbrev pub access_told : Result (Option Access) LineFault → Option Access
access_told (Ok access) = access
access_told (Err f) = None

-- ---- one line

abbrev pub state_after : LogState → Option Access → LogState
state_after s None = record { pages = s.pages; tag = s.tag; lines = s.lines + 1 }
state_after s (Some a) = record { pages = pages_after s.pages a; tag = tag_after s.tag a; lines = s.lines + 1 }

abbrev pub requests_for : LogState → Option Access → List Event
requests_for s None = []
requests_for s (Some a) = requests_of (pages_after s.pages a) s.tag (s.lines + 1) a

-- ---- a log, in the format by which its lines say accesses

abbrev pub state_behind : (List ℕ → Result (Option Access) LineFault) → LogState → List (List ℕ) → LogState
state_behind access_in s [] = s
state_behind access_in s (text ∷ texts) = state_behind access_in (state_after s (access_told (access_in text))) texts

abbrev pub requests_in : (List ℕ → Result (Option Access) LineFault) → LogState → List (List ℕ) → List Event
requests_in access_in s [] = []
requests_in access_in s (text ∷ texts) =
    requests_for s (access_told (access_in text)) ++ requests_in access_in (state_after s (access_told (access_in text))) texts

-- the group of an access, if there is one
abbrev pub groups_for : Option Access → List AccessGroup
groups_for None = []
groups_for (Some a) = group_of a ∷ []

-- The groups of the requests of these lines: the first group has the first requests, and so on.
abbrev pub groups_in : (List ℕ → Result (Option Access) LineFault) → List (List ℕ) → List AccessGroup
groups_in access_in [] = []
groups_in access_in (text ∷ texts) = groups_for (access_told (access_in text)) ++ groups_in access_in texts

-- the fault of a line, if it has one
abbrev pub fault_by : (List ℕ → Result (Option Access) LineFault) → List ℕ → Option LineFault
fault_by access_in text = fault_of (access_in text)

-- ---- what is written

-- The requests of these lines are written, and all their pages have room.
pub record Requested {W : Type 0} (took : W → List ℕ → W → Type 0) (access_in : List ℕ → Result (Option Access) LineFault) (room : ℕ)
    (old : W) (texts : List (List ℕ)) (new : W) (s : LogState) : Type 0 where
  pub written : Moves took old (requests_text (requests_in access_in log_start texts)) new
  pub state : s ≡ state_behind access_in log_start texts
  pub number : s.lines ≡ length texts
  pub fits : length s.pages ≤ room

-- One line's requests are written, and its pages have room.
pub record Asked {W : Type 0} (took : W → List ℕ → W → Type 0) (room : ℕ) (old : W) (s : LogState) (said : Option Access) (new : W)
    (s' : LogState) : Type 0 where
  pub written : Moves took old (requests_text (requests_for s said)) new
  pub state : s' ≡ state_after s said
  pub fits : length s'.pages ≤ room

-- What is written is flushed, and this fault of a line with these pages is kept; or the flush was refused.
abbrev pub Refuses : {W : Type 0} (took : W → List ℕ → W → Type 0) (unflushed : W → W → Type 0) (old : W) (line : ℕ) (pages : List ℕ)
    (new : W) → Option NoRoom → Type 0
Refuses took unflushed old line pages new (Some n) = took old [] new × (n ≡ record { line = line; pages = length pages })
Refuses took unflushed old line pages new None = unflushed old new

-- How an access isn't written whole. With no room for its pages nothing of it is written, and all before is flushed, or
-- the flush was refused. Otherwise a write of its requests was refused.
abbrev pub Halts : {W : Type 0} (took : W → List ℕ → W → Type 0) (refused unflushed : W → W → Type 0) (room : ℕ) (old : W) (s : LogState)
    (a : Access) (new : W) → Option NoRoom → Type 0
Halts took refused unflushed room old s a new (Some n) =
    (room < length (pages_after s.pages a)) × (n ≡ record { line = s.lines + 1; pages = length (pages_after s.pages a) }) × took old [] new
Halts took refused unflushed room old s a new None =
    ((room < length (pages_after s.pages a)) × unflushed old new) ⊎
    ((length (pages_after s.pages a) ≤ room) × Stopped took refused old (requests_text (requests_for s (Some a))) new)

-- at the access of this line
abbrev pub HaltsAt : {W : Type 0} (took : W → List ℕ → W → Type 0) (refused unflushed : W → W → Type 0)
    (access_in : List ℕ → Result (Option Access) LineFault) (room : ℕ) (old : W) (s : LogState) (text : List ℕ) (new : W) → Option NoRoom
    → Type 0
HaltsAt took refused unflushed access_in room old s text new n =
    (a : Access) × (access_in text ≡ Ok (Some a)) × Halts took refused unflushed room old s a new n

-- How the writing of a log's requests ends: what was read and what is written, by its answer. Whatever is answered, the
-- requests of the lines before are written; and flushed, unless a write or a flush was refused.
abbrev pub Ends : {R W : Type 0} (gave : R → List ℕ → R → Type 0) (failed : R → R → Type 0) (took : W → List ℕ → W → Type 0)
    (refused unflushed : W → W → Type 0) (access_in : List ℕ → Result (Option Access) LineFault) (room : ℕ) (r r' : R) (w w' : W)
    → Result (Unit {0}) LogFault → Type 0
-- all was read, up to the end
Ends {R} {W} gave failed took refused unflushed access_in room r r' w w' (Ok done) =
    (texts : List (List ℕ)) × (v : W) × (s : LogState) × ReadWholeWithin gave (fault_by access_in) MAX_PAIR MOST_LOG_LINES r r' texts ×
    Requested took access_in room w texts v s × took v [] w'
-- nothing happened
Ends gave failed took refused unflushed access_in room r r' w w' (Err (log.Trace fault.OutOfMemory)) = (r' ≡ r) × (w' ≡ w)
-- a flush was refused, before a read or before a fault, or a write of the requests of a line
Ends {R} {W} gave failed took refused unflushed access_in room r r' w w' (Err (log.Trace fault.Write)) =
    (texts : List (List ℕ)) × (rest : List ℕ) × (v : W) × (s : LogState) × Requested took access_in room w texts v s ×
    ((ReadSoFarWithin gave (fault_by access_in) MAX_PAIR MOST_LOG_LINES r r' texts rest × unflushed v w')
    ⊎ (ReadIntoWithin gave (fault_by access_in) MAX_PAIR MOST_LOG_LINES r r' texts rest
    × (unflushed v w'
    ⊎ ((length texts < MOST_LOG_LINES)
    × FirstLine (fault_by access_in) MAX_PAIR
    (λ text. HaltsAt took refused unflushed access_in room v s text w' None) rest))))
-- there is no room for a page of the next line
Ends {R} {W} gave failed took refused unflushed access_in room r r' w w' (Err (log.NoRoom n)) =
    (texts : List (List ℕ)) × (rest : List ℕ) × (v : W) × (s : LogState) × Requested took access_in room w texts v s ×
    ReadIntoWithin gave (fault_by access_in) MAX_PAIR MOST_LOG_LINES r r' texts rest × (length texts < MOST_LOG_LINES) ×
    FirstLine (fault_by access_in) MAX_PAIR (λ text. HaltsAt took refused unflushed access_in room v s text w' (Some n)) rest
-- the first fault of what was read
Ends {R} {W} gave failed took refused unflushed access_in room r r' w w' (Err (log.Trace e)) =
    (texts : List (List ℕ)) × (v : W) × (s : LogState) ×
    ReadStopsWithin gave failed (fault_by access_in) MAX_PAIR MOST_LOG_LINES r r' texts e × Requested took access_in room w texts v s ×
    took v [] w'
