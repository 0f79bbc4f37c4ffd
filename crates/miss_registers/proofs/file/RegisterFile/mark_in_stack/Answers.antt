use Rattle.miss_registers.proofs.file.RegisterFile.mark_in_stack.Goals as goal

pub invariant_of-self : goal.invariant_of-self
invariant_of-self g c = c.mark_in_stack.ensures.whole g.row.WORDS g.row.REGS c.self.invariant

pub returns-clause-whole : goal.returns-clause-whole
returns-clause-whole g c = invariant_of-self g c
