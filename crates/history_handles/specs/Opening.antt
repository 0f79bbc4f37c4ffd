-- How a history is opened, and how C is told of it.
use Rattle.std.specs.Prelude.{◌≡◌, ◌≢◌, ℕ, ◌==◌, if◌then◌else◌, List, Option, Some, None, is_some, is_none}
use Rattle.std.specs.Option.{option_map}
use Rattle.memory_histories.specs.declared.events.Rest.{Rest}
use Rattle.memory_histories.specs.declared.events.Rest.TheVariants.{Zeros, Unknown}
use Rattle.atomic_histories.specs.declared.memory.UnitSize.{UnitSize}
use Rattle.atomic_histories.specs.declared.memory.UnitSize.TheVariants.{One, Two, Four, Eight}
use Rattle.atomic_histories.specs.declared.memory.TheConstants.{DEFAULT_LIMIT}
use Rattle.history_sessions.specs.declared.judge.HistoryLaw.{HistoryLaw}
use Rattle.history_sessions.specs.declared.judge.HistoryLaw.TheVariants.{Regular, Flat, Atomic}
use Rattle.history_sessions.specs.Session.{session_opening}
use Rattle.history_handles.specs.declared.history.OpenHistory.{OpenHistory}
use Rattle.history_handles.specs.declared.open.OpenFault.{OpenFault}
use Rattle.history_handles.specs.declared.open.OpenFault.TheVariants.{NoLaw, OutOfMemory, OpenAlready}
use Rattle.history_handles.specs.Behind.{IsKeptOf}

-- the unit that has so many bytes
abbrev pub unit_of : ℕ → Option UnitSize
unit_of bytes =
    if bytes == 1 then Some One else if bytes == 2 then Some Two else if bytes == 4 then Some Four else if bytes == 8 then Some Eight
    else None

-- a law under which each byte is read and written for itself
abbrev pub of_bytes : HistoryLaw → ℕ → Option HistoryLaw
of_bytes law unit = if unit == 1 then Some law else None

-- the law and the rest of memory that these numbers choose, with the unit of bytes that are read and written as one
abbrev pub law_of : ℕ → ℕ → Option HistoryLaw
law_of law unit =
    if law == 0 then of_bytes Regular unit else if law == 1 then of_bytes Flat unit
    else if law == 2 then option_map (λ size. Atomic size DEFAULT_LIMIT) (unit_of unit) else None

abbrev pub rest_of : ℕ → Option Rest
rest_of rest = if rest == 0 then Some Zeros else if rest == 1 then Some Unknown else None

abbrev pub both : {X Y : Type 0} → Option X → Option Y → Option (X × Y)
both (Some x) (Some y) = Some (x, y)
both x y = None

abbrev pub chosen : ℕ → ℕ → ℕ → Option (HistoryLaw × Rest)
chosen law unit rest = both (law_of law unit) (rest_of rest)

-- why no history is opened, by what is kept behind the handle: `None`, where only memory can be wanting
abbrev pub open_fault : Option OpenHistory → ℕ → ℕ → ℕ → Option OpenFault
open_fault kept law unit rest = if is_some kept then Some OpenAlready else if is_none (chosen law unit rest) then Some NoLaw else None

abbrev pub fault_or_memory : Option OpenFault → OpenFault
fault_or_memory (Some fault) = fault
fault_or_memory None = OutOfMemory

abbrev pub open_number : OpenFault → ℕ
open_number NoLaw = 103
open_number OutOfMemory = 101
open_number OpenAlready = 102

-- C is told of a fault by its number, and of none by 0, where there was memory
abbrev pub IsTold : ℕ → Option OpenFault → Type 0
IsTold status (Some fault) = status ≡ open_number fault
IsTold status None = status ≢ open_number OutOfMemory → status ≡ 0

-- the history that is kept has no event yet, and is of this law and memory
abbrev pub IsOpened : Option OpenHistory → Option (HistoryLaw × Rest) → List ℕ → Type 0
IsOpened kept choice image = IsKeptOf kept (option_map (λ c. session_opening c.0 image c.1) choice)

-- 0, where there is a history
abbrev pub told_status : Option OpenHistory → ℕ
told_status None = 100
told_status (Some m) = 0
