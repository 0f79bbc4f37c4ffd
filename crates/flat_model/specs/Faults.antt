-- The texts of faults.
use Rattle.std.specs.Prelude.{ℕ, List, ◌++◌, codes, decimal}
use Rattle.flat_model.specs.declared.ShapeField.{ShapeField}
use Rattle.flat_model.specs.declared.ShapeField.TheVariants.{BlockWords, Ways, Regs, Depth, Words, Sets, Banks, BankQueue, WriteQueue}
use Rattle.flat_model.specs.declared.ShapeField.TheVariants.{Replies, Ports, Journal, Image}
use Rattle.flat_model.specs.declared.MakeFault.{MakeFault}
use Rattle.flat_model.specs.declared.MakeFault.TheVariants as make
use Rattle.flat_model.specs.declared.memory.ReplayFault.{ReplayFault}
use Rattle.flat_model.specs.declared.memory.ReplayFault.TheVariants as replay
use Rattle.flat_model.specs.declared.memory.StepFault.{StepFault}
use Rattle.flat_model.specs.declared.memory.StepFault.TheVariants as step

-- the name of a number of a machine
abbrev pub field_name : ShapeField → List ℕ
field_name BlockWords = codes "BlockWords"
field_name Ways = codes "Ways"
field_name Regs = codes "Regs"
field_name Depth = codes "Depth"
field_name Words = codes "Words"
field_name Sets = codes "Sets"
field_name Banks = codes "Banks"
field_name BankQueue = codes "BankQueue"
field_name WriteQueue = codes "WriteQueue"
field_name Replies = codes "Replies"
field_name Ports = codes "Ports"
field_name Journal = codes "Journal"
field_name Image = codes "Image"

-- why a part can't be made
abbrev pub make_fault_text : MakeFault → List ℕ
make_fault_text (make.BadShape field) = field_name field ++ codes " is out of range"
make_fault_text make.OutOfMemory = codes "out of memory"

-- why a replay failed
abbrev pub replay_fault_text : ReplayFault → List ℕ
replay_fault_text replay.Lengths = codes "as many answers as events are needed"
replay_fault_text (replay.Mismatch place) =
    codes "the answer at place " ++ (decimal place ++ codes " is not one of flat memory")
replay_fault_text replay.OutOfMemory = codes "out of memory"

-- why a step couldn't be made
abbrev pub step_fault_text : StepFault → List ℕ
step_fault_text step.Mismatch = codes "the answer is not one of flat memory"
step_fault_text step.OutOfMemory = codes "out of memory"
