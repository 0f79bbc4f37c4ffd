-- The texts of faults.
use Rattle.std.specs.Prelude.{ℕ, false, List, ◌++◌, codes}
use Rattle.std.specs.Fmt.{digits}
use Rattle.memory_histories.specs.Faults.{history_fault_text}
use Rattle.atomic_histories.specs.declared.memory.AtomicFault.{AtomicFault}
use Rattle.atomic_histories.specs.declared.memory.AtomicFault.TheVariants.{Refused, Undecided, OutOfMemory}

-- why an event was not taken
abbrev pub atomic_fault_text : AtomicFault → List ℕ
atomic_fault_text (Refused fault) = codes "the event is none of the law: " ++ history_fault_text fault
atomic_fault_text (Undecided address) = codes "undecided: too many ways in the unit with 0x" ++ digits 16 false address
atomic_fault_text OutOfMemory = codes "out of memory"
