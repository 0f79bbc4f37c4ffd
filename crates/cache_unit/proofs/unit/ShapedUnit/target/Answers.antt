use Rattle.cache_unit.proofs.unit.ShapedUnit.target.Goals as goal

pub returns : goal.returns
returns c = rw (← c.self.view_is) c.target.ensures.answer
