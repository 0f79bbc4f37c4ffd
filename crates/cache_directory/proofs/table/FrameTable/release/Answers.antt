use Rattle.cache_directory.proofs.Calls.{release_whole, whole_inside}
use Rattle.cache_directory.proofs.table.FrameTable.release.Goals as goal

pub returns-clause-whole : goal.returns-clause-whole
returns-clause-whole c = λ words h.
    let inside = whole_inside _ words _ _ c.self.view_is h in
    let order = c.index_mut-order.ensures.value in
    release_whole _ words _ _ _ _ _ _ inside c.self.view_is c.requires.held c.release.ensures order c.remove.ensures
