use Rattle.std.proofs.Common.{None, ◌∙◌, ap, sym}
use Rattle.cache_directory.specs.Frames.{is_all_pending, choice_from}
use Rattle.cache_directory.proofs.Calls.{order_within, free_pends, order_pends, whole_inside}
use Rattle.cache_directory.proofs.table.FrameTable.choose.Goals as goal

pub oldest-requires : goal.oldest-requires
oldest-requires c =
    let inside = whole_inside _ _ _ _ c.self.view_is c.requires.whole.whole in
    let sets = c.len.ensures ∙ c.self.inside.orders.ok.0 in
    order_within _ _ _ _ _ _ _ _ inside sets c.deref-2.ensures.value c.index-order.ensures c.as_slice.ensures

pub returns-in-Some-clause-all_pending : goal.returns-in-Some-clause-all_pending
returns-in-Some-clause-all_pending c =
    let inside = whole_inside _ _ _ _ c.self.view_is c.requires.whole.whole in
    let sets = c.len.ensures ∙ c.self.inside.orders.ok.0 in
    free_pends _ _ _ _ _ _ _ _ _ inside c.self.view_is sets c.deref.ensures.value c.free_way.ensures c.in-Some.is

pub returns-in-Some-oldest-clause-all_pending : goal.returns-in-Some-oldest-clause-all_pending
returns-in-Some-oldest-clause-all_pending c =
    let inside = whole_inside _ _ _ _ c.self.view_is c.requires.whole.whole in
    let sets = c.len.ensures ∙ c.self.inside.orders.ok.0 in
    let pends = order_pends _ _ _ _ _ _ _ _ _ _ _ _ inside c.self.view_is sets c.deref.ensures.value c.free_way.ensures
    c.in_default.not-Some c.deref-2.ensures.value c.index-order.ensures c.as_slice.ensures c.oldest.ensures in
    ap (λ o. is_all_pending (choice_from None o)) (sym c.in-Some-oldest.is) ∙ pends

pub returns-in-None-clause-all_pending : goal.returns-in-None-clause-all_pending
returns-in-None-clause-all_pending c =
    let inside = whole_inside _ _ _ _ c.self.view_is c.requires.whole.whole in
    let sets = c.len.ensures ∙ c.self.inside.orders.ok.0 in
    let pends = order_pends _ _ _ _ _ _ _ _ _ _ _ _ inside c.self.view_is sets c.deref.ensures.value c.free_way.ensures
    c.in_default.not-Some c.deref-2.ensures.value c.index-order.ensures c.as_slice.ensures c.oldest.ensures in
    ap (λ o. is_all_pending (choice_from None o)) (sym c.in-None.is) ∙ pends
