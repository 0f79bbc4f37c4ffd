-- A log that is read whole: its requests, in groups by their accesses.
use Rattle.std.specs.Prelude.{⊤, ◌≡◌, ◌⊎◌, ℕ, ◌+◌, ◌<◌, ◌≤◌, Option, Some, None, Result, Ok, List, ◌++◌, length}
use Rattle.flat_model.specs.declared.Event.{Event}
use Rattle.trace_text.specs.Codes.{most_lines}
use Rattle.trace_text.specs.Reading.{FirstLine, ReadIntoWithin, ReadWholeWithin, ReadStopsWithin}
use Rattle.trace_text.specs.declared.fault.TheConstants.{MAX_PAIR}
use Rattle.trace_text.specs.declared.fault.TraceFault.{TraceFault}
use Rattle.trace_text.specs.declared.fault.TraceFault.TheVariants as fault
use Rattle.trace_text.specs.declared.lines.LineFault.{LineFault}
use Rattle.access_logs.specs.Logs.{LogState, log_start, state_after, state_behind, requests_for, requests_in, groups_for, groups_in}
use Rattle.access_logs.specs.Logs.{fault_by}
use Rattle.access_logs.specs.Pages.{pages_after}
use Rattle.access_logs.specs.Requests.{request_count_of}
use Rattle.access_logs.specs.declared.access.Access.{Access}
use Rattle.access_logs.specs.declared.reading.AccessGroup.{AccessGroup}
use Rattle.access_logs.specs.declared.fault.LogFault.{LogFault}
use Rattle.access_logs.specs.declared.fault.LogFault.TheVariants as log
use Rattle.access_logs.specs.declared.writing.TheConstants.{MOST_LOG_LINES}

-- These lines have room: their pages in memory, and their requests in a trace.
pub record HasRoom (access_in : List ℕ → Result (Option Access) LineFault) (room : ℕ) (texts : List (List ℕ)) : Type 0 where
  pub pages : length (state_behind access_in log_start texts).pages ≤ room
  pub requests : length (requests_in access_in log_start texts) ≤ most_lines

-- The log was read whole, and has these requests, in these groups.
pub record LogSays {R : Type 0} (gave : R → List ℕ → R → Type 0) (access_in : List ℕ → Result (Option Access) LineFault) (room : ℕ)
    (r r' : R) (asked : List Event) (groups : List AccessGroup) : Type 0 where
  pub texts : List (List ℕ)
  pub whole : ReadWholeWithin gave (fault_by access_in) MAX_PAIR MOST_LOG_LINES r r' texts
  pub requests : asked ≡ requests_in access_in log_start texts
  pub grouped : groups ≡ groups_in access_in texts
  pub fits : HasRoom access_in room texts

-- ---- why it wasn't

-- An access has no room, behind so many requests: its pages have none in memory, or its requests have none in a trace.
abbrev pub FindsNoRoom : (room : ℕ) (s : LogState) (before : ℕ) (a : Access) → LogFault → Type 0
FindsNoRoom room s before a (log.NoRoom n) =
    (room < length (pages_after s.pages a)) × (n ≡ record { line = s.lines + 1; pages = length (pages_after s.pages a) })
FindsNoRoom room s before a (log.Trace fault.TooManyLines) =
    (length (pages_after s.pages a) ≤ room) × (most_lines < before + request_count_of a)
FindsNoRoom room s before a (log.Trace e) = ⊥

-- the access of this line, behind these lines
abbrev pub LineFindsNoRoom : (access_in : List ℕ → Result (Option Access) LineFault) (room : ℕ) (texts : List (List ℕ)) (text : List ℕ)
    → LogFault → Type 0
LineFindsNoRoom access_in room texts text f =
    (a : Access) × (access_in text ≡ Ok (Some a))
    × FindsNoRoom room (state_behind access_in log_start texts) (length (requests_in access_in log_start texts)) a f

-- Memory is missing. Or behind lines that have room the input has a fault, the first one in the order of the lines, or
-- the access of the next line has no room.
abbrev pub LogFails : {R : Type 0} (gave : R → List ℕ → R → Type 0) (failed : R → R → Type 0)
    (access_in : List ℕ → Result (Option Access) LineFault) (room : ℕ) (r r' : R) → LogFault → Type 0
LogFails gave failed access_in room r r' f =
    (f ≡ log.Trace fault.OutOfMemory)
    ⊎ ((texts : List (List ℕ)) × HasRoom access_in room texts
    × (((e : TraceFault) × (f ≡ log.Trace e) × ReadStopsWithin gave failed (fault_by access_in) MAX_PAIR MOST_LOG_LINES r r' texts e)
    ⊎ ((rest : List ℕ) × ReadIntoWithin gave (fault_by access_in) MAX_PAIR MOST_LOG_LINES r r' texts rest × (length texts < MOST_LOG_LINES)
    × FirstLine (fault_by access_in) MAX_PAIR (λ text. LineFindsNoRoom access_in room texts text f) rest)))

-- ---- in the middle of a reading

-- The requests of these lines are kept, which have room, and their groups.
pub record Kept (access_in : List ℕ → Result (Option Access) LineFault) (room : ℕ) (texts : List (List ℕ)) (s : LogState)
    (asked : List Event) (groups : List AccessGroup) : Type 0 where
  pub state : s ≡ state_behind access_in log_start texts
  pub number : s.lines ≡ length texts
  pub requests : asked ≡ requests_in access_in log_start texts
  pub grouped : groups ≡ groups_in access_in texts
  pub fits : HasRoom access_in room texts

-- One access more is kept, with its requests.
pub record KeptMore (room : ℕ) (s : LogState) (asked : List Event) (groups : List AccessGroup) (a : Access) (s' : LogState)
    (asked' : List Event) (groups' : List AccessGroup) : Type 0 where
  pub state : s' ≡ state_after s (Some a)
  pub requests : asked' ≡ asked ++ requests_for s (Some a)
  pub grouped : groups' ≡ groups ++ groups_for (Some a)
  pub pages : length s'.pages ≤ room
  pub few : length asked' ≤ most_lines

-- An access isn't kept: memory is missing, or it has no room.
abbrev pub Halts : (room : ℕ) (s : LogState) (before : ℕ) (a : Access) → Option LogFault → Type 0
Halts room s before a None = ⊤
Halts room s before a (Some f) = FindsNoRoom room s before a f

abbrev pub HaltsAt : (access_in : List ℕ → Result (Option Access) LineFault) (room : ℕ) (s : LogState) (before : ℕ) (text : List ℕ)
    → Option LogFault → Type 0
HaltsAt access_in room s before text o = (a : Access) × (access_in text ≡ Ok (Some a)) × Halts room s before a o
