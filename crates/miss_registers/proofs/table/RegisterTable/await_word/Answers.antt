use Rattle.std.proofs.Common.{arith}
use Rattle.miss_registers.specs.declared.Owed.{Owed}
use Rattle.miss_registers.specs.Registers.{free_register, register_at, awaited}
use Rattle.miss_registers.proofs.Tags.{set_is, expects-parts, awaited-count}
use Rattle.miss_registers.proofs.Whole.{awaited-kept, still_whole}
use Rattle.miss_registers.proofs.table.RegisterTable.await_word.Goals as goal

pub overflow_add-self : goal.overflow_add-self
overflow_add-self c =
    let v = c.self.view_is in
    let counted = rw v at c.self.invariant in
    omega (arith, c.requires.few)

pub invariant_of-self : goal.invariant_of-self
invariant_of-self c =
    let a = c.args in
    let q = c.requires in
    let v = c.self.view_is in
    let counted = rw v at c.self.invariant in
    let word = expects-parts (register_at a.self.now a.slot) _ q.expected in
    let owed : Owed = record { tag = a.tag; held = a.held; lanes = a.lanes } in
    let more = awaited-count _ _ _ owed q.slot word.there in
    rw (set_is (λ r. awaited r a.i owed) _ _ _ _ _ free_register v q.slot c.index_mut-register.ensures.value c.await_word.ensures)
    (omega (arith, counted, more))

pub returns-clause-whole : goal.returns-clause-whole
returns-clause-whole c =
    let a = c.args in
    let q = c.requires in
    let owed : Owed = record { tag = a.tag; held = a.held; lanes = a.lanes } in
    rw (set_is (λ r. awaited r a.i owed) _ _ _ _ _ free_register c.self.view_is q.slot c.index_mut-register.ensures.value
    c.await_word.ensures) (λ words regs h. still_whole words regs _ _ h
    (λ s. awaited-kept words regs _ a.slot a.i _ s q.slot q.live q.expected q.room q.new_tag))
