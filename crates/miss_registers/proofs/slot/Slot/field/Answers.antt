use Rattle.std.proofs.Common.{refl}
use Rattle.miss_registers.proofs.Fields.{word-is}
use Rattle.miss_registers.proofs.slot.Slot.field.Goals as goal

pub returns : goal.returns
returns c =
    let s = c.self.inside in
    rw (
      c.shown_word.ensures,
      c.of_word.ensures,
      c.marks_at-word.ensures,
      c.as_slice.ensures.value,
      ← c.self.view_is,
      word-is s.marks.items s.targets c.args.i c.self.invariant,
    ) refl
