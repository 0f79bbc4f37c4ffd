use Rattle.std.proofs.Common.{sym, ◌∙◌}
use Rattle.atomic_histories.specs.Shown.{aim_of}
use Rattle.atomic_histories.proofs.Frames.{shown_grown, are_in_grown}
use Rattle.atomic_histories.proofs.Loops.{next_met, out_unmet}
use Rattle.atomic_histories.proofs.search.follow.Goals as goal

pub returns-then-meets-clause-next : goal.returns-then-meets-clause-next
returns-then-meets-clause-next c =
    let ss = c.args.stretches.now.items in
    let next = c.args.next.now.pairs.items in
    shown_grown ss _ c.in_ok-add.ensures.grows next c.requires.next_in
    ∙ next_met _ _ (aim_of c.args.wanted) _ _
    (sym (c.if-meets.ensures ss))

pub returns-then-meets-clause-next_in : goal.returns-then-meets-clause-next_in
returns-then-meets-clause-next_in c =
    are_in_grown _ _ c.in_ok-add.ensures.grows _
    c.requires.next_in

pub returns-clause-out : goal.returns-clause-out
returns-clause-out c =
    let ss = c.args.stretches.now.items in
    let out = c.args.out.now.pairs.items in
    shown_grown ss _ c.in_ok-add_effects.ensures.grows out c.requires.out_in
    ∙ out_unmet (aim_of c.args.wanted).goal _ _ (sym (c.if-meets.ensures ss))

pub returns-clause-out_in : goal.returns-clause-out_in
returns-clause-out_in c =
    are_in_grown _ _ c.in_ok-add_effects.ensures.grows _
    c.requires.out_in
