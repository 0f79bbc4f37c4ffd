-- The text of a fault.
use Rattle.std.specs.Prelude.{ℕ, List, ◌++◌, codes, decimal}
use Rattle.trace_text.specs.Faults.{trace_fault_text}
use Rattle.run_pictures.specs.declared.drawn.TheConstants.{MOST_EVENTS}
use Rattle.run_pictures.specs.declared.show.ShowFault.{ShowFault}
use Rattle.run_pictures.specs.declared.show.ShowFault.TheVariants.{Trace, TooManyEvents, OutOfMemory}

-- why a trace isn't drawn
abbrev pub show_fault_text : ShowFault → List ℕ
show_fault_text (Trace fault) = trace_fault_text fault
show_fault_text TooManyEvents = codes "too many events: " ++ (decimal MOST_EVENTS ++ codes " at most are shown")
show_fault_text OutOfMemory = codes "out of memory"
