use Rattle.std.proofs.Common.{refl}
use Rattle.miss_registers.proofs.Fields.{word-is}
use Rattle.miss_registers.proofs.slot.Slot.target.Goals as goal

pub returns : goal.returns
returns c =
    let s = c.self.inside in
    rw (c.get.ensures, c.of_word.ensures, ← c.self.view_is, word-is s.marks.items s.targets c.args.i c.self.invariant) refl
