-- What an input says as requests, if it is a trace or a log.
use Rattle.std.specs.Prelude.{◌≡◌, ℕ, ◌/◌, min, Option, Some, None, List, []}
use Rattle.kroft_jobs.specs.Words.{Sizes, Event, MAX_LINE, TraceFault, LogFault, PAGE_WORDS, AccessGroup, MAX_WORDS, AccessCounts}
use Rattle.trace_text.specs.Reading.{ReadWhole, ReadFails}
use Rattle.trace_text.specs.Requests.{requests_of}
use Rattle.trace_text.specs.Serving.{trace_fault}
use Rattle.access_logs.specs.Formats.{lackey_access, din_access}
use Rattle.access_logs.specs.Reads.{LogSays, LogFails}
use Rattle.access_logs.specs.declared.fault.LogFault.TheVariants as log
use Rattle.result_formats.specs.Accesses.{counts_of}
use Rattle.round_driver.specs.declared.outcomes.Outcome.{Outcome}
use Rattle.kroft_jobs.specs.declared.asked.RequestText.{RequestText}
use Rattle.kroft_jobs.specs.declared.asked.RequestText.TheVariants.{Trace, Lackey, Din}

-- how many pages of a log memory has room for
abbrev pub room_of : Sizes → ℕ
room_of z = min z.words MAX_WORDS / PAGE_WORDS

-- The input was read whole, and says these requests: a trace by its lines; a log by its accesses, of each of which the
-- requests are a group.
abbrev pub Asks : {R : Type 0} (gave : R → List ℕ → R → Type 0) → RequestText → (room : ℕ) (input input' : R) → List Event
    → List AccessGroup → Type 0
Asks gave Trace room input input' requests groups =
    (texts : List (List ℕ)) × ReadWhole gave trace_fault MAX_LINE input input' texts × (requests ≡ requests_of texts) × (groups ≡ [])
Asks gave Lackey room input input' requests groups = LogSays gave lackey_access room input input' requests groups
Asks gave Din room input input' requests groups = LogSays gave din_access room input input' requests groups

-- Why it wasn't. Memory may be missing anywhere.
abbrev pub AsksNothing : {R : Type 0} (gave : R → List ℕ → R → Type 0) (failed : R → R → Type 0) → RequestText
    → (room : ℕ) (input input' : R) → LogFault → Type 0
AsksNothing gave failed Trace room input input' fault =
    (f : TraceFault) × (fault ≡ log.Trace f) × ReadFails gave failed trace_fault MAX_LINE input input' f
AsksNothing gave failed Lackey room input input' fault = LogFails gave failed lackey_access room input input' fault
AsksNothing gave failed Din room input input' fault = LogFails gave failed din_access room input input' fault

-- what is counted of accesses: a trace doesn't say them
abbrev pub accesses_of : RequestText → List AccessGroup → List Outcome → Option AccessCounts
accesses_of Trace groups outcomes = None
accesses_of Lackey groups outcomes = Some (counts_of groups outcomes)
accesses_of Din groups outcomes = Some (counts_of groups outcomes)
