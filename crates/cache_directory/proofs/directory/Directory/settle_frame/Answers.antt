use Rattle.cache_directory.proofs.directory.Directory.settle_frame.Goals as goal

pub invariant_of-self : goal.invariant_of-self
invariant_of-self g c = c.settle_frame.ensures.whole _ _ c.self.invariant

pub returns-clause-whole : goal.returns-clause-whole
returns-clause-whole g c = c.settle_frame.ensures.whole _ _ c.self.invariant
