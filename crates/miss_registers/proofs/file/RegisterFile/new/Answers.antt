use Rattle.std.proofs.Common.{arith}
use Rattle.miss_registers.proofs.file.RegisterFile.new.Goals as goal

pub invariant_of-result : goal.invariant_of-result
invariant_of-result g c = c.in_ok-table.ensures.whole g.row.WORDS (omega arith) (omega arith) (omega arith) (omega arith)

pub returns-clause-whole : goal.returns-clause-whole
returns-clause-whole g c = invariant_of-result g c
