use Rattle.std.proofs.Common.{◌==◌, if◌then◌else◌, nat_eq, ap, ◌∙◌}
use Rattle.std.specs.HashMap.{get}
use Rattle.atomic_histories.specs.Followed.{no_ways, first_ways}
use Rattle.atomic_histories.specs.Judge.{kept_or}
use Rattle.atomic_histories.proofs.Ranges.{forgotten_unit}
use Rattle.atomic_histories.proofs.memory.AtomicMemory.kept_forget.Goals as goal

pub returns-clause-ok : goal.returns-clause-ok
returns-clause-ok c =
    let room = c.reserve.new.self in
    let same = c.in_ok-reserve.ensures.held in
    record {
      image = ap (λ h. h.image) same;
      rest = ap (λ h. h.rest) same;
      size = ap (λ h. h.size) same;
      opened = ap (λ h. h.opened) same;
      units = λ k.
          let d = first_ways room.image.items room.rest _ in
          ap (λ x. kept_or x d) (c.put_unit.ensures.at k)
          ∙ (forgotten_unit (get nat_eq room.units) d _ k _ c.forgotten.ensures
          ∙ ap (λ h. if c.args.number == k then no_ways else h.units k) same);
    }
