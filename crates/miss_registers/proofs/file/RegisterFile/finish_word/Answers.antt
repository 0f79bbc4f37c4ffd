use Rattle.miss_registers.proofs.file.RegisterFile.finish_word.Goals as goal

pub invariant_of-self : goal.invariant_of-self
invariant_of-self g c = c.finish_word.ensures.whole g.row.WORDS g.row.REGS c.self.invariant

pub returns-clause-whole : goal.returns-clause-whole
returns-clause-whole g c = invariant_of-self g c
