use Rattle.cache_directory.proofs.Calls.{install_whole, may_install, install_room, whole_inside}
use Rattle.cache_directory.proofs.table.FrameTable.install.Goals as goal

pub returns-clause-whole : goal.returns-clause-whole
returns-clause-whole c =
    let q = c.requires in
    let inside = whole_inside _ _ _ _ c.self.view_is q.whole in
    let may = may_install _ _ _ _ _ c.self.view_is q.frame q.free q.of_set q.absent in
    install_whole _ _ _ _ _ _ _ _ inside may c.install.ensures c.index_mut-order.ensures.value c.push.ensures

pub push-requires : goal.push-requires
push-requires c =
    let q = c.requires in
    let may = may_install _ _ _ _ _ c.self.view_is q.frame q.free q.of_set q.absent in
    install_room _ _ _ _ _ _ (whole_inside _ _ _ _ c.self.view_is q.whole) may c.index_mut-order.ensures.value
