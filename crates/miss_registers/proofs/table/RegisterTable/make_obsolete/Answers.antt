use Rattle.std.proofs.Common.{◌∙◌}
use Rattle.miss_registers.specs.Registers.{free_register, made_obsolete}
use Rattle.miss_registers.proofs.Tags.{set_is, count-same, obsolete-changes}
use Rattle.miss_registers.proofs.Whole.{obsolete-kept, still_whole}
use Rattle.miss_registers.proofs.table.RegisterTable.make_obsolete.Goals as goal

pub invariant_of-self : goal.invariant_of-self
invariant_of-self c =
    let q = c.requires in
    let v = c.self.view_is in
    let counted = rw v at c.self.invariant in
    rw (set_is made_obsolete _ _ _ _ _ free_register v q.slot c.index_mut-register.ensures.value c.make_obsolete.ensures)
    (counted ∙ count-same _ _ _ q.slot (obsolete-changes _))

pub returns-clause-whole : goal.returns-clause-whole
returns-clause-whole c =
    let q = c.requires in
    rw (set_is made_obsolete _ _ _ _ _ free_register c.self.view_is q.slot c.index_mut-register.ensures.value c.make_obsolete.ensures)
    (λ words regs h. still_whole words regs _ _ h (λ s. obsolete-kept words regs _ _ s q.slot q.live))
