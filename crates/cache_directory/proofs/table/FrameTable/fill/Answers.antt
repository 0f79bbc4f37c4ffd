use Rattle.cache_directory.proofs.Calls.{change_whole, filled_keeps}
use Rattle.cache_directory.proofs.Whole.{cells_held}
use Rattle.cache_directory.proofs.table.FrameTable.fill.Goals as goal

pub returns-clause-whole : goal.returns-clause-whole
returns-clause-whole c = λ ways words h.
    let held = cells_held ways words _ _ _ h.sound c.requires in
    change_whole ways words _ _ _ _ _ h c.self.view_is held c.index_mut-way.ensures.value (filled_keeps _ _ _ _ _ c.fill.ensures)
