use Rattle.std.proofs.Common.{refl, arith, ap}
use Rattle.cache_unit.specs.View.{cache_of}
use Rattle.cache_unit.proofs.Calls.{makes, taken, none_taken}
use Rattle.cache_law.proofs.Fetching.{IsSound-ready}
use Rattle.cache_law.proofs.Keeps.{owes-remove}
use Rattle.cache_unit.proofs.unit.ShapedUnit.take.Goals as goal

pub invariant_of-self : goal.invariant_of-self
invariant_of-self c =
    let s = c.self.inside in
    record {
      ranges = c.self.invariant.ranges;
      sound = rw c.remove-reply.ensures.items (IsSound-ready s.sizes _ _ (owes-remove s.sizes s.ready.items s.registers _
          c.remove-reply.result (omega arith) c.self.invariant.sound.owes) c.self.invariant.sound);
      limit = c.self.invariant.limit;
    }

pub returns-then-place-len : goal.returns-then-place-len
returns-then-place-len c =
    let s = c.self.inside in
    rw (← c.self.view_is) (makes s.sizes _ c.self.invariant.sound _ _ _ _ (taken _ _ c.remove-reply.result (omega arith)
    c.remove-reply.ensures.value) _ (ap (λ r. record (cache_of s) { ready = r }) c.remove-reply.ensures.items))

pub returns-else-place-len : goal.returns-else-place-len
returns-else-place-len c =
    rw (← c.self.view_is) (makes c.self.inside.sizes _ c.self.invariant.sound _ _ _ _ (none_taken _ _ (omega arith)) _ refl)
