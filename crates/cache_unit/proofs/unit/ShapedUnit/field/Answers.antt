use Rattle.cache_unit.proofs.unit.ShapedUnit.field.Goals as goal

pub returns : goal.returns
returns c = rw (← c.self.view_is) c.field.ensures.answer
