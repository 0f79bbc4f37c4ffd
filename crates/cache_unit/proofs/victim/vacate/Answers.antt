use Rattle.cache_unit.proofs.victim.vacate.Goals as goal

pub returns-in-Some-clause-whole : goal.returns-in-Some-clause-whole
returns-in-Some-clause-whole c = c.release.ensures.whole _ c.requires.whole
