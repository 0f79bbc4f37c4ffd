use Rattle.std.proofs.Common.{◌∙◌, ◌==◌}
use Rattle.miss_registers.specs.Registers.{tags_of_field}
use Rattle.miss_registers.specs.Targets.{fields_from}
use Rattle.miss_registers.proofs.Tags.{list_any-flat_map}
use Rattle.miss_registers.proofs.Fields.{fields-tag}
use Rattle.miss_registers.proofs.slot.Slot.tag_waits.Goals as goal

pub returns : goal.returns
returns c =
    let s = c.self.inside in
    rw (c.has_tag.ensures, ← c.self.view_is)
    (fields-tag s.marks.items s.targets c.args.tag c.self.invariant.there ∙ list_any-flat_map (λ t. t == c.args.tag) tags_of_field
    (fields_from 0 s.marks.items s.targets))
