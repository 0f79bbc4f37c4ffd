use Rattle.std.proofs.Common.{le-ltb, ◌==◌, sym, ◌∙◌, arith}
use Rattle.miss_registers.specs.Registers.{waiting_tags, tags_of}
use Rattle.miss_registers.proofs.Tags.{list_any-flat_map, none_has_tag}
use Rattle.miss_registers.proofs.table.RegisterTable.tag_waits.Goals as goal

pub returns-then-self-gt0 : goal.returns-then-self-gt0
unfolding waiting_tags
returns-then-self-gt0 c =
    let v = c.deref.ensures.value ∙ c.self.view_is in
    record { answer = c.one_has_tag.ensures ∙ rw v (list_any-flat_map (λ t. t == c.args.tag) tags_of c.args.self.now) }

pub returns-else-self-gt0 : goal.returns-else-self-gt0
returns-else-self-gt0 c =
    let v = c.self.view_is in
    let counted = rw v at c.self.invariant in
    let none = none_has_tag _ _ (omega arith) in
    record { answer = le-ltb 0 _ c.if-self-gt0.false ∙ sym none }
