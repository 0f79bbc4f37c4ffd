use Rattle.std.proofs.Common.{arith, rules}
use Rattle.cache_unit.specs.View.{cache_of}
use Rattle.cache_law.specs.Steps.{drain_step}
use Rattle.cache_unit.proofs.Calls.{sound_of}
use Rattle.cache_law.proofs.Fetching.{IsSound-drained}
use Rattle.cache_unit.proofs.unit.ShapedUnit.drain.Goals as goal

pub invariant_of-self : goal.invariant_of-self
invariant_of-self g c =
    let s = c.self.inside in
    record {
      ranges = c.self.invariant.ranges;
      sound = rw c.pop.ensures.rest (IsSound-drained s.sizes (cache_of s) c.self.invariant.sound);
      limit = grind arith;
    }

pub returns-in_default : goal.returns-in_default
unfolding drain_step
returns-in_default g c =
    let sound = sound_of _ c.self.invariant _ c.self.view_is in
    record { made = grind arith; lines = search rules }

pub returns-then-room-eq0 : goal.returns-then-room-eq0
unfolding drain_step
returns-then-room-eq0 g c =
    let sound = sound_of _ c.self.invariant _ c.self.view_is in
    record { made = grind arith; lines = search rules }

pub returns : goal.returns
unfolding drain_step
returns g c =
    let sound = sound_of _ c.self.invariant _ c.self.view_is in
    record { made = grind arith; lines = search rules }
