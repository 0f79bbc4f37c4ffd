-- What a job does, and how it ends.
use Rattle.std.specs.Prelude.{ℕ, List, ◌++◌, map, codes, decimal}
use Rattle.kroft_jobs.specs.Words.{CheckEnd, TraceFault, Sizes, ShapeFault, SweepFault, ShowFault}
use Rattle.trace_text.specs.declared.check.CheckEnd.TheVariants.{Flat, Mismatch}
use Rattle.trace_text.specs.declared.fault.TraceFault.TheVariants as trace
use Rattle.shape_files.specs.declared.shape_file.ShapeFault.TheVariants as shape
use Rattle.shape_files.specs.ShapeFile.{fault_text as shape_text}
use Rattle.trace_text.specs.Faults.{trace_fault_text}
use Rattle.register_sweeps.specs.declared.sweeps.SweepFault.TheVariants as sweep
use Rattle.run_pictures.specs.Faults.{show_fault_text}
use Rattle.run_pictures.specs.declared.show.ShowFault.TheVariants as show
use Rattle.kroft_jobs.specs.declared.fault.JobFault.{JobFault}
use Rattle.kroft_jobs.specs.declared.fault.JobFault.TheVariants.{ShapeUnreadable, Shape, Trace, TooManyEvents, TurnLimit, OutOfMemory}

-- the machines that a sweep goes over
abbrev pub with_registers : Sizes → ℕ → Sizes
with_registers z regs = record z { regs = regs }

abbrev pub swept : Sizes → (registers : List ℕ) → List Sizes
swept z registers = map (with_registers z) registers

-- the text of what a check found
abbrev pub verdict_text : CheckEnd → List ℕ
verdict_text (Flat steps) = codes "flat run, " ++ decimal steps ++ codes " steps"
verdict_text (Mismatch line) = codes "mismatch at line " ++ decimal line

-- the status of a check that came to its end
abbrev pub verdict_status : CheckEnd → ℕ
verdict_status (Flat steps) = 0
verdict_status (Mismatch line) = 1

-- the status of the program that ends at a fault
abbrev pub status_of : JobFault → ℕ
status_of ShapeUnreadable = 3
status_of (Shape fault) = 3
status_of (Trace fault) = 4
status_of TooManyEvents = 4
status_of TurnLimit = 5
status_of OutOfMemory = 5

-- what is told of a fault
abbrev pub fault_text : JobFault → List ℕ
fault_text ShapeUnreadable = codes "shape: file not readable"
fault_text (Shape fault) = shape_text fault
fault_text (Trace fault) = trace_fault_text fault
fault_text TooManyEvents = show_fault_text show.TooManyEvents
fault_text TurnLimit = codes "turn limit"
fault_text OutOfMemory = codes "out of memory"

-- want of memory is told alike, wherever it was found
abbrev pub of_shape : ShapeFault → JobFault
of_shape shape.OutOfMemory = OutOfMemory
of_shape fault = Shape fault

abbrev pub of_trace : TraceFault → JobFault
of_trace trace.OutOfMemory = OutOfMemory
of_trace fault = Trace fault

abbrev pub of_show : ShowFault → JobFault
of_show (show.Trace fault) = of_trace fault
of_show show.TooManyEvents = TooManyEvents
of_show show.OutOfMemory = OutOfMemory

abbrev pub of_sweep : SweepFault → JobFault
of_sweep sweep.OutOfMemory = OutOfMemory
of_sweep sweep.TurnLimit = TurnLimit
of_sweep (sweep.BadShape place field) = Shape (shape.BadShape field)
