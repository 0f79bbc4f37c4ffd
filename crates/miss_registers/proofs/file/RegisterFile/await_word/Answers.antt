use Rattle.miss_registers.proofs.Tags.{few_wait}
use Rattle.miss_registers.proofs.file.RegisterFile.await_word.Goals as goal

pub await_word-requires-clause-few : goal.await_word-requires-clause-few
await_word-requires-clause-few g c = few_wait _ _ _ c.self.invariant

pub invariant_of-self : goal.invariant_of-self
invariant_of-self g c = c.await_word.ensures.whole g.row.WORDS g.row.REGS c.self.invariant

pub returns-clause-whole : goal.returns-clause-whole
returns-clause-whole g c = invariant_of-self g c
