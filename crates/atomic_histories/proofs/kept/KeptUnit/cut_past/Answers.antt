use Rattle.std.proofs.Common.{ap, ◌∙◌, rules, arith}
use Rattle.std.proofs.lemmas.List.{with_items_is}
use Rattle.atomic_histories.specs.Shown.{shown_all}
use Rattle.atomic_histories.proofs.Loops.{cut_shown, cut_late}
use Rattle.atomic_histories.proofs.kept.KeptUnit.cut_past.Goals as goal

pub returns-then-are_late-clause-ok : goal.returns-then-are_late-clause-ok
returns-then-are_late-clause-ok c = grind (arith, c.args.self.now, cut_late)

pub returns-clause-ok : goal.returns-clause-ok
returns-clause-ok c =
    let u = c.args.self.now in
    let ts = c.in_ok-moved.moved.stretches.items in
    ap (λ es. record { loads = u.loads.items; moment = u.moment; pairs = es })
    (ap (shown_all ts) (with_items_is u.pairs _ (search (rules, arith)))
    ∙ cut_shown c.in_ok-moved.moved _ u.stretches.items c.as_slice-2.result.now ts
    u.pairs.items _ _ c.as_slice-2.ensures.value c.as_mut_slice.ensures.value
    c.move_pairs.ensures c.in_ok-moved.ensures.same)
