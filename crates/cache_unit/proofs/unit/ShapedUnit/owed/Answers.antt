use Rattle.cache_law.proofs.Tags.{owing-all, length-tags}
use Rattle.std.proofs.Common.{arith}
use Rattle.cache_unit.specs.View.{cache_of}
use Rattle.cache_unit.proofs.unit.ShapedUnit.owed.Goals as goal

pub overflow_add-result : goal.overflow_add-result
overflow_add-result c =
    let s = c.self.inside in
    let a = owing-all (cache_of s) c.self.invariant.sound.registers in
    let b = length-tags (cache_of s) c.self.invariant.sound.registers in
    omega arith

pub returns-clause-value : goal.returns-clause-value
returns-clause-value c =
    let s = c.self.inside in
    let now = cache_of s in
    let b = length-tags (cache_of s) c.self.invariant.sound.registers in
    rw (← c.self.view_is) (omega arith)

pub returns-clause-few : goal.returns-clause-few
returns-clause-few c =
    let s = c.self.inside in
    let a = owing-all (cache_of s) c.self.invariant.sound.registers in
    let b = length-tags (cache_of s) c.self.invariant.sound.registers in
    rw (← c.self.view_is) (omega arith)

pub returns-clause-sound : goal.returns-clause-sound
returns-clause-sound c = rw (← c.self.view_is) c.self.invariant.sound
