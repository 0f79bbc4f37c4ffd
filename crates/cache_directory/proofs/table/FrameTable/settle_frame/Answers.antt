use Rattle.cache_directory.proofs.Calls.{change_whole, settled_keeps}
use Rattle.cache_directory.proofs.table.FrameTable.settle_frame.Goals as goal

pub returns-clause-whole : goal.returns-clause-whole
returns-clause-whole c = λ ways words h. change_whole ways words _ _ _ _ _ h c.self.view_is c.requires
    c.index_mut-way.ensures.value (settled_keeps _ _ c.settle.ensures)
