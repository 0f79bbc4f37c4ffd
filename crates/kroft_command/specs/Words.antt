-- The types of what the program is asked for, and of how it ends, in one place.
pub use Rattle.kroft_command.specs.declared.command_line.CommandLine.{CommandLine}
pub use Rattle.kroft_command.specs.declared.command_line.CountForm.{CountForm}
pub use Rattle.kroft_command.specs.declared.command_line.HistoryTask.{HistoryTask}
pub use Rattle.kroft_command.specs.declared.command_line.ImageName.{ImageName}
pub use Rattle.kroft_command.specs.declared.command_line.LogName.{LogName}
pub use Rattle.kroft_command.specs.declared.command_line.MachineName.{MachineName}
pub use Rattle.kroft_command.specs.declared.command_line.Registers.{Registers}
pub use Rattle.kroft_command.specs.declared.command_line.SheetWork.{SheetWork}
pub use Rattle.kroft_command.specs.declared.command_line.Task.{Task}
pub use Rattle.kroft_command.specs.declared.command_line.Timings.{Timings}
pub use Rattle.kroft_command.specs.declared.fault.LongImage.{LongImage}
pub use Rattle.kroft_command.specs.declared.fault.ToolFault.{ToolFault}
