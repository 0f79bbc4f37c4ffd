use Rattle.std.proofs.Common.{◌≡◌, ◌∙◌}
use Rattle.miss_registers.specs.Registers.{fresh}
use Rattle.miss_registers.proofs.Tags.{count-same, fresh-changes, fresh-tags}
use Rattle.miss_registers.proofs.Whole.{allocated-kept, fresh-whole, still_whole}
use Rattle.miss_registers.proofs.table.RegisterTable.allocate.Goals as goal

pub invariant_of-self : goal.invariant_of-self
invariant_of-self c =
    let xs = c.self.inside.slots.items in
    let v = c.self.view_is in
    let a = c.args in
    let counted = rw v at c.self.invariant in
    rw (c.allocate.ensures, v) (counted ∙ count-same _ a.slot _ c.requires.slot (fresh-changes _ a.words a.block a.frame c.requires.free))

pub returns-clause-whole : goal.returns-clause-whole
unfolding fresh
returns-clause-whole c =
    let v : c.self.inside.slots.items ≡ _ = c.self.view_is in
    let a = c.args in
    let q = c.requires in
    rw (c.allocate.ensures, v) (λ regs h. still_whole a.words regs _ _ h (λ s. allocated-kept a.words regs _ a.slot _ s q.slot q.free
    q.absent (fresh-whole a.words a.block a.frame h.some_word) (fresh-tags a.words a.block a.frame)))
