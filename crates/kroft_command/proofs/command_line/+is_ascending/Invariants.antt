use Rattle.std.proofs.Common.{length}
use Rattle.kroft_command.proofs.command_line.+is_ascending.Given as goal

abbrev pub decreases-is_ascending : goal.decreases-is_ascending
decreases-is_ascending l = length l.timings.now
