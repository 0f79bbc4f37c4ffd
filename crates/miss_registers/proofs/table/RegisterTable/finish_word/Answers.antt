use Rattle.std.proofs.Common.{◌≡◌, ◌∙◌, length, ap, refl, arith}
use Rattle.miss_registers.specs.Registers.{free_register, field_at, finished}
use Rattle.miss_registers.proofs.Tags.{element_is, set_is, in_stack_there, finished-count}
use Rattle.miss_registers.proofs.Whole.{finished-kept, still_whole}
use Rattle.miss_registers.proofs.table.RegisterTable.finish_word.Goals as goal

pub finish_word-end-requires : goal.finish_word-end-requires
finish_word-end-requires c =
    let register = c.index_mut-register in
    let v = c.self.view_is in
    let e = element_is c.self.inside.slots.items _ _ register.result.now free_register v c.requires.slot register.ensures.value in
    record { there = in_stack_there register.result.now _ (rw e c.requires.in_stack) }

pub overflow_sub-self : goal.overflow_sub-self
overflow_sub-self c =
    let xs = c.self.inside.slots.items in
    let v : xs ≡ _ = c.self.view_is in
    let register = c.index_mut-register in
    let q = c.requires in
    let e = element_is xs _ _ register.result.now free_register v q.slot register.ensures.value in
    let sent : c.len.result ≡ length (field_at c.args.self.now c.args.slot c.args.i).waiting =
    c.len.ensures.count ∙ ap length c.finish_word-end.ensures.send ∙ rw e refl in
    let counted = rw v at c.self.invariant in
    let left = finished-count _ _ _ q.slot q.done q.in_stack in
    omega (arith, counted, left, sent)

pub invariant_of-self : goal.invariant_of-self
invariant_of-self c =
    let xs = c.self.inside.slots.items in
    let v : xs ≡ _ = c.self.view_is in
    let register = c.index_mut-register in
    let q = c.requires in
    let e = element_is xs _ _ register.result.now free_register v q.slot register.ensures.value in
    let sent : c.len.result ≡ length (field_at c.args.self.now c.args.slot c.args.i).waiting =
    c.len.ensures.count ∙ ap length c.finish_word-end.ensures.send ∙ rw e refl in
    let counted = rw v at c.self.invariant in
    let left = finished-count _ _ _ q.slot q.done q.in_stack in
    rw (c.finish_word-end.ensures.register, e, v) (omega (arith, counted, left, sent))

pub returns-clause-whole : goal.returns-clause-whole
returns-clause-whole c =
    let q = c.requires in
    rw (set_is (λ r. finished r c.args.i) _ _ _ _ _ free_register c.self.view_is q.slot c.index_mut-register.ensures.value
    c.finish_word-end.ensures.register) (λ words regs h. still_whole words regs _ _ h
    (λ s. finished-kept words regs _ _ _ s q.slot q.in_stack))
