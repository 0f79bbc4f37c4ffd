use Rattle.std.proofs.Common.{◌∙◌}
use Rattle.miss_registers.specs.Registers.{free_register, noted}
use Rattle.miss_registers.proofs.Tags.{set_is, noted-count}
use Rattle.miss_registers.proofs.Whole.{noted-kept, still_whole}
use Rattle.miss_registers.proofs.table.RegisterTable.note_store.Goals as goal

pub invariant_of-self : goal.invariant_of-self
invariant_of-self c =
    let a = c.args in
    let q = c.requires in
    let v = c.self.view_is in
    let counted = rw v at c.self.invariant in
    rw (set_is (λ r. noted r a.i a.lanes) _ _ _ _ _ free_register v q.slot c.index_mut-register.ensures.value c.note_store.ensures)
    (counted ∙ noted-count _ _ _ _ q.slot q.there)

pub returns-clause-whole : goal.returns-clause-whole
returns-clause-whole c =
    let a = c.args in
    let q = c.requires in
    rw (set_is (λ r. noted r a.i a.lanes) _ _ _ _ _ free_register c.self.view_is q.slot c.index_mut-register.ensures.value
    c.note_store.ensures) (λ words regs h. still_whole words regs _ _ h
    (λ s. noted-kept words regs _ a.slot a.i a.lanes s q.slot q.live q.there q.unprocessed))
