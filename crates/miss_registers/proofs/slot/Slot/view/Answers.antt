use Rattle.std.proofs.Common.{refl}
use Rattle.miss_registers.proofs.Fields.{fields-count}
use Rattle.miss_registers.proofs.slot.Slot.view.Goals as goal

pub returns : goal.returns
returns c =
    let s = c.self.inside in
    rw (
      c.frame_shown.ensures,
      c.processed_count.ensures,
      c.as_slice.ensures.value,
      ← c.self.view_is,
      fields-count 0 s.marks.items s.targets,
    ) refl
