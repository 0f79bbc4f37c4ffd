use Rattle.std.proofs.Common.{length}
use Rattle.kroft_command.proofs.command_line.+each_is_more.Given as goal

abbrev pub decreases-each_is_more : goal.decreases-each_is_more
decreases-each_is_more l = length l.numbers.now
