use Rattle.std.proofs.Common.{◌∙◌}
use Rattle.cache_directory.proofs.Calls.{look_finds, whole_inside}
use Rattle.cache_directory.proofs.table.FrameTable.look.Goals as goal

pub returns : goal.returns
returns c =
    let inside = whole_inside _ _ _ _ c.self.view_is c.requires.whole.whole in
    let sets = c.len.ensures ∙ c.self.inside.orders.ok.0 in
    record { found = look_finds _ _ _ _ _ _ _ _ inside c.self.view_is sets c.deref.ensures.value c.holding_way.ensures }
