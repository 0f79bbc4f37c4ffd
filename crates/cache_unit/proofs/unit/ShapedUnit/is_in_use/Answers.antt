use Rattle.std.proofs.Common.{◌||◌, ◌==◌, ap, sym, ◌∙◌}
use Rattle.std.specs.List.{list_any}
use Rattle.cache_unit.specs.View.{cache_of}
use Rattle.cache_law.proofs.Tags.{in_use-shown}
use Rattle.miss_registers.specs.Registers as regs
use Rattle.cache_unit.proofs.unit.ShapedUnit.is_in_use.Goals as goal

pub returns-then-has_tag : goal.returns-then-has_tag
returns-then-has_tag c =
    let s = c.self.inside in
    rw (← c.self.view_is) (c.if-has_tag.true
    ∙ sym ((in_use-shown (cache_of s) _ c.self.invariant.sound.registers) ∙ ap (λ b. b || regs.tag_waits s.registers c.args.tag) (ap (λ l.
    list_any (λ r. r.tag == c.args.tag) l) (sym c.as_slice.ensures.value) ∙ sym c.has_tag.ensures ∙ c.if-has_tag.true)))

pub returns-else-has_tag : goal.returns-else-has_tag
returns-else-has_tag c =
    let s = c.self.inside in
    rw (← c.self.view_is)
    (c.tag_waits.ensures.answer ∙ sym ((in_use-shown (cache_of s) _ c.self.invariant.sound.registers) ∙ ap (λ b. b || regs.tag_waits
    s.registers c.args.tag) (ap (λ l. list_any (λ r. r.tag == c.args.tag) l) (sym c.as_slice.ensures.value) ∙ sym c.has_tag.ensures ∙
    c.if-has_tag.false)))
