-- The texts of faults.
use Rattle.std.specs.Prelude.{ℕ, List, ◌++◌, codes, decimal}
use Rattle.memory_histories.specs.declared.events.HistoryFault.{HistoryFault}
use Rattle.memory_histories.specs.declared.events.HistoryFault.TheVariants.{OutOfRange, NoByteEnabled, NumberInUse, NotOpen, WrongLength}
use Rattle.memory_histories.specs.declared.events.HistoryFault.TheVariants.{WrongByte}
use Rattle.memory_histories.specs.declared.events.StepFault.{StepFault}
use Rattle.memory_histories.specs.declared.events.StepFault.TheVariants.{Refused, TooLong, OutOfMemory}

-- why an event is none of a law
abbrev pub history_fault_text : HistoryFault → List ℕ
history_fault_text OutOfRange = codes "the operation is out of range"
history_fault_text NoByteEnabled = codes "no byte is enabled"
history_fault_text NumberInUse = codes "the number is in use"
history_fault_text NotOpen = codes "no operation is open under the number"
history_fault_text WrongLength = codes "the load was requested with another length"
history_fault_text (WrongByte place) = codes "the byte at place " ++ (decimal place ++ codes " of the answer is wrong")

-- why an event was not taken
abbrev pub step_fault_text : StepFault → List ℕ
step_fault_text (Refused fault) = codes "the event is none of the law: " ++ history_fault_text fault
step_fault_text TooLong = codes "the history is too long"
step_fault_text OutOfMemory = codes "out of memory"
