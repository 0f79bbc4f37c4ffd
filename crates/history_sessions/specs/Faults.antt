-- Why an event was not taken, by each law's judge, in the words that all laws share.
use Rattle.memory_histories.specs.declared.events.StepFault.{StepFault}
use Rattle.memory_histories.specs.declared.events.StepFault.TheVariants as step
use Rattle.atomic_histories.specs.declared.memory.AtomicFault.{AtomicFault}
use Rattle.atomic_histories.specs.declared.memory.AtomicFault.TheVariants as atomic
use Rattle.history_sessions.specs.declared.faults.JudgeFault.{JudgeFault}
use Rattle.history_sessions.specs.declared.faults.JudgeFault.TheVariants.{Refused, Undecided, TooLong, OutOfMemory}

abbrev pub of_step : StepFault → JudgeFault
of_step (step.Refused cause) = Refused cause
of_step step.TooLong = TooLong
of_step step.OutOfMemory = OutOfMemory

abbrev pub of_atomic : AtomicFault → JudgeFault
of_atomic (atomic.Refused cause) = Refused cause
of_atomic (atomic.Undecided address) = Undecided address
of_atomic atomic.OutOfMemory = OutOfMemory
