use Rattle.std.proofs.Common.{◌/◌, nat_eq, ap, ap₂, ◌∙◌}
use Rattle.std.specs.HashMap.{get}
use Rattle.atomic_histories.specs.Held.{covered}
use Rattle.atomic_histories.specs.Judge.{held}
use Rattle.atomic_histories.proofs.Ranges.{step_fits, taken_unit}
use Rattle.atomic_histories.proofs.memory.AtomicMemory.take_by_search.Goals as goal

pub put_units-requires-clause-fits : goal.put_units-requires-clause-fits
put_units-requires-clause-fits c =
    let h = held c.args.self.now in
    let size = c.bytes.ensures.bytes ∙ ap (λ x. x.size) c.in_ok-reserve.ensures.held in
    step_fits (covered h.opened c.args.event).0 c.covered-address.result.0 h.size _ _
    (ap (λ p. p.0) c.covered-address.ensures) size
    c.in_ok-changes.ensures.fits

pub returns-clause-ok : goal.returns-clause-ok
returns-clause-ok c =
    let h = held c.args.self.now in
    let more = c.reserve.new.self in
    let same = c.in_ok-reserve.ensures.held in
    let size = c.bytes.ensures.bytes ∙ ap (λ x. x.size) same in
    record {
      image = ap (λ x. x.image) same;
      rest = ap (λ x. x.rest) same;
      size = ap (λ x. x.size) same;
      opened = ap (λ x. x.opened) same;
      units = λ k.
          taken_unit h c.args.event _ (get nat_eq c.put_units.new.units)
          _
          _ c.in_ok-changes.changes.items k (c.put_units.ensures k)
          (ap₂ ◌/◌ (ap (λ p. p.0) c.covered-address.ensures) size) c.in_ok-changes.ensures.ways
          (ap (λ x. x.units k) same);
    }
