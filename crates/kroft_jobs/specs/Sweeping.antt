-- What becomes of the requests of a trace that are counted in rounds, and why a sweep has no rows.
use Rattle.std.specs.Prelude.{⊤, ◌≡◌, ℕ, List, [], ◌∷◌, map, Option, Some}
use Rattle.std.specs.List.{All}
use Rattle.shape_files.specs.MachineFile.{bad_machine}
use Rattle.kroft_jobs.specs.Words.{Sizes, Event, MAX_LINE, Details, Table, Timing, RoundsRow, AccessCounts, AccessGroup}
use Rattle.register_sweeps.specs.Machine.{MachineState}
use Rattle.trace_text.specs.Reading.{ReadWhole, ReadStops}
use Rattle.trace_text.specs.Serving.{trace_fault}
use Rattle.round_driver.specs.Details.{details_of}
use Rattle.round_driver.specs.Tables.{table_of}
use Rattle.round_driver.specs.Walks.{IsOverInTime}
use Rattle.shape_files.specs.declared.shape_file.ShapeFault.TheVariants as shape
use Rattle.register_sweeps.specs.Rounds.{rounds_row_of}
use Rattle.register_sweeps.specs.Sweep.{bad_from, new_machine}
use Rattle.kroft_jobs.specs.Asking.{Asks, accesses_of}
use Rattle.kroft_jobs.specs.declared.asked.RequestText.{RequestText}
use Rattle.kroft_jobs.specs.declared.fault.JobFault.{JobFault}
use Rattle.kroft_jobs.specs.declared.fault.JobFault.TheVariants.{Shape, Trace, OutOfMemory}
use Rattle.kroft_jobs.specs.declared.rounds.LatencyRows.{LatencyRows}

-- the table of these requests in rounds, in a run that is over in time
abbrev pub IsCounted : (timing : Timing) (s : MachineState) (requests : List Event) → Table → Type 0
IsCounted timing s requests table = (table ≡ table_of timing s requests) × IsOverInTime timing s requests

-- the details of these requests in rounds, in a run that is over in time
abbrev pub IsDetailed : (timing : Timing) (s : MachineState) (requests : List Event) → Details → Type 0
IsDetailed timing s requests details = (details ≡ details_of timing s requests) × IsOverInTime timing s requests

-- The requests of an input are counted in rounds: their details, and, of a log, its accesses.
abbrev pub CountsAll : {R : Type 0} (gave : R → List ℕ → R → Type 0) (from : RequestText) (room : ℕ) (timing : Timing) (s : MachineState)
    (input input' : R) → Details → Option AccessCounts → Type 0
CountsAll gave from room timing s input input' details accesses =
    (requests : List Event) × (groups : List AccessGroup) × Asks gave from room input input' requests groups
    × IsDetailed timing s requests details × (accesses ≡ accesses_of from groups details.outcomes)

-- the rows of these requests in rounds on these machines, each of a run that is over in time
abbrev pub AreCounted : (timing : Timing) (machines : List Sizes) (requests : List Event) → List RoundsRow → Type 0
AreCounted timing machines requests rows =
    (rows ≡ map (rounds_row_of timing requests) machines) × All (λ z. IsOverInTime timing (new_machine z) requests) machines

-- For each of these times of memory in turn, its latency and the rows of these requests on these machines.
abbrev pub AreSwept : (timings : List Timing) (machines : List Sizes) (requests : List Event) → List LatencyRows → Type 0
AreSwept [] machines requests [] = ⊤
AreSwept [] machines requests (swept ∷ rest) = ⊥
AreSwept (timing ∷ timings) machines requests [] = ⊥
AreSwept (timing ∷ timings) machines requests (swept ∷ rest) =
    (swept.latency ≡ timing.latency) × AreCounted timing machines requests swept.rows.items × AreSwept timings machines requests rest

-- Why a sweep over a trace has no rows. A fault of the trace goes before one of the machines, of which the first that has
-- one is told. Memory may be missing anywhere. No turn limit is met, as the gate of these sweeps is open.
abbrev pub SweepFails : {R : Type 0} (gave : R → List ℕ → R → Type 0) (failed : R → R → Type 0) (machines : List Sizes) (input input' : R)
    → JobFault → Type 0
SweepFails gave failed machines input input' (Trace fault) =
    (texts : List (List ℕ)) × ReadStops gave failed trace_fault MAX_LINE input input' texts fault
SweepFails gave failed machines input input' (Shape (shape.BadShape field)) =
    (texts : List (List ℕ)) × (place : ℕ) × ReadWhole gave trace_fault MAX_LINE input input' texts
    × (bad_from bad_machine 0 machines ≡ Some (place, field))
SweepFails gave failed machines input input' OutOfMemory = ⊤
SweepFails gave failed machines input input' fault = ⊥
