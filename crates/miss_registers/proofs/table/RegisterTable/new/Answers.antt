use Rattle.std.proofs.Common.{length, ap, sym}
use Rattle.miss_registers.proofs.Tags.{waiting_tags-new}
use Rattle.miss_registers.proofs.Whole.{new-whole}
use Rattle.miss_registers.proofs.table.RegisterTable.new.Goals as goal

pub invariant_of-result : goal.invariant_of-result
invariant_of-result c = rw c.in_ok-slots.ensures (sym (ap length (waiting_tags-new _)))

pub returns-clause-whole : goal.returns-clause-whole
returns-clause-whole c = rw c.in_ok-slots.ensures (λ words. new-whole words _)
