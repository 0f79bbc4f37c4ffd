use Rattle.cache_unit.proofs.unit.ShapedUnit.register.Goals as goal

pub returns : goal.returns
returns c = rw (← c.self.view_is) c.register.ensures.answer
