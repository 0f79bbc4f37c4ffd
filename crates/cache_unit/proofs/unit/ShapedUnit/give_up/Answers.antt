use Rattle.std.proofs.Common.{ap, sym, ◌∙◌, ◌++◌}
use Rattle.write_queue.specs.Queue.{queue as queue_of}
use Rattle.cache_unit.proofs.Calls.{made}
use Rattle.cache_unit.proofs.Parts.{directory_whole}
use Rattle.cache_unit.proofs.Taking.{owes_block, is_released, can_give_up}
use Rattle.cache_law.proofs.Choosing.{IsSound-given_up, given_up-shown}
use Rattle.cache_unit.proofs.unit.ShapedUnit.give_up.Goals as goal

pub vacate-requires : goal.vacate-requires
vacate-requires c =
    let z = c.self.inside.sizes in
    let holds = rw (← c.self.view_is) at c.requires.holds in
    let room = rw (← c.self.view_is) at c.requires.room in
    let r = can_give_up z _ c.self.invariant.sound _ _ holds c.self.invariant.ranges.little_memory room in
    record {
      whole = directory_whole _ c.self.invariant;
      frame = r.0;
      fits = r.1;
      room = rw (
        (owes_block z _ c.self.invariant.sound _ _
            holds),
        c.self.invariant.limit,
      ) r.2;
    }

pub retire-requires : goal.retire-requires
retire-requires c =
    rw (sym c.self.invariant.sound.registers.registers_there) at c.self.invariant.ranges.few_regs

pub invariant_of-self : goal.invariant_of-self
invariant_of-self c =
    let s = c.self.inside in
    let z = s.sizes in
    let holds = rw (← c.self.view_is) at c.requires.holds in
    let left = c.vacate.ensures.directory ∙ is_released z _ c.self.invariant.sound _ _ holds in
    let queued = c.vacate.ensures.queue ∙ ap (λ ws. queue_of (s.queue.entries ++ ws) s.queue.limit) (owes_block z _ c.self.invariant.sound
    _ _ holds) in
    record {
      ranges = c.self.invariant.ranges;
      sound = rw (left, c.retire.ensures.retired, queued) (IsSound-given_up z _ c.self.invariant.sound _ _ holds (can_give_up z _
          c.self.invariant.sound _ _ holds c.self.invariant.ranges.little_memory (rw (← c.self.view_is) at c.requires.room)).2);
      limit = ap (λ q. q.limit) queued ∙ c.self.invariant.limit;
    }

pub returns : goal.returns
returns c =
    let s = c.self.inside in
    let z = s.sizes in
    let holds = rw (← c.self.view_is) at c.requires.holds in
    rw (
      (c.vacate.ensures.directory ∙ is_released z _ c.self.invariant.sound _ _ holds),
      c.retire.ensures.retired,
      (c.vacate.ensures.queue
          ∙ ap (λ ws. queue_of (s.queue.entries ++ ws) s.queue.limit) (owes_block z _ c.self.invariant.sound _ _ holds)),
      ← c.self.view_is,
    )
    (ap (made z) (given_up-shown z _ c.self.invariant.sound _ _ holds))
