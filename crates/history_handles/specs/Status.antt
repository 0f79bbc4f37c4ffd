-- How C is told of an event.
use Rattle.std.specs.Prelude.{ℕ, Option, Some, None}
use Rattle.memory_histories.specs.declared.events.HistoryFault.{HistoryFault}
use Rattle.memory_histories.specs.declared.events.HistoryFault.TheVariants.{OutOfRange, NoByteEnabled, NumberInUse, NotOpen, WrongLength}
use Rattle.memory_histories.specs.declared.events.HistoryFault.TheVariants.{WrongByte}
use Rattle.history_sessions.specs.declared.faults.JudgeFault.{JudgeFault}
use Rattle.history_sessions.specs.declared.faults.JudgeFault.TheVariants.{Refused, Undecided, TooLong, OutOfMemory}

abbrev pub fault_number : HistoryFault → ℕ
fault_number OutOfRange = 151
fault_number NoByteEnabled = 152
fault_number NumberInUse = 153
fault_number NotOpen = 154
fault_number WrongLength = 155
fault_number (WrongByte place) = 156

abbrev pub judge_number : JudgeFault → ℕ
judge_number (Refused fault) = fault_number fault
judge_number (Undecided address) = 105
judge_number TooLong = 104
judge_number OutOfMemory = 101

-- 0, if there is no fault
abbrev pub said_number : Option JudgeFault → ℕ
said_number None = 0
said_number (Some fault) = judge_number fault
