use Rattle.std.proofs.Common.{◌∙◌}
use Rattle.miss_registers.specs.Registers.{free_register, register_at, marked}
use Rattle.miss_registers.proofs.Tags.{set_is, expects-parts, marked-count}
use Rattle.miss_registers.proofs.Whole.{marked-kept, still_whole}
use Rattle.miss_registers.proofs.table.RegisterTable.mark_in_stack.Goals as goal

pub invariant_of-self : goal.invariant_of-self
invariant_of-self c =
    let q = c.requires in
    let v = c.self.view_is in
    let counted = rw v at c.self.invariant in
    let word = expects-parts (register_at c.args.self.now c.args.slot) _ q.expected in
    rw (set_is (λ r. marked r c.args.i) _ _ _ _ _ free_register v q.slot c.index_mut-register.ensures.value c.mark_in_stack.ensures)
    (counted ∙ marked-count _ _ _ q.slot word.there)

pub returns-clause-whole : goal.returns-clause-whole
returns-clause-whole c =
    let q = c.requires in
    rw (set_is (λ r. marked r c.args.i) _ _ _ _ _ free_register c.self.view_is q.slot c.index_mut-register.ensures.value
    c.mark_in_stack.ensures) (λ words regs h. still_whole words regs _ _ h (λ s. marked-kept words regs _ _ _ s q.slot q.expected))
