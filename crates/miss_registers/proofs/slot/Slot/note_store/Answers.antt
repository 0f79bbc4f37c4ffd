use Rattle.std.proofs.Common.{refl, arith}
use Rattle.miss_registers.specs.Registers.{noted}
use Rattle.miss_registers.proofs.Fields.{length-fields, word-is, fields-set}
use Rattle.miss_registers.proofs.slot.Slot.note_store.Goals as goal

pub set_word-requires : goal.set_word-requires
set_word-requires c =
    let there = rw (← c.self.view_is) at c.requires in
    omega (arith, there, length-fields 0 c.self.inside.marks.items c.self.inside.targets)

pub returns : goal.returns
unfolding noted
returns c =
    let s = c.self.inside in
    rw (
      c.set_word.ensures,
      c.note_store.ensures,
      c.marks_at-word.ensures,
      c.as_slice.ensures.value,
      ← c.self.view_is,
      fields-set s.marks.items s.targets c.args.i _,
      word-is s.marks.items s.targets c.args.i c.self.invariant,
    ) refl
