use Rattle.std.proofs.Common.{map, sym, ap, ap₂, ◌∙◌}
use Rattle.atomic_histories.specs.Pasts.{oldest}
use Rattle.atomic_histories.specs.Followed.{Ways, loads_without, pair_cut}
use Rattle.atomic_histories.specs.Shown.{shown_unit}
use Rattle.atomic_histories.proofs.Loops.{moment_none}
use Rattle.atomic_histories.proofs.kept.KeptUnit.leave_past.Goals as goal

pub returns-in-None-clause-ok : goal.returns-in-None-clause-ok
returns-in-None-clause-ok c =
    let u = c.args.self.now in
    let left = loads_without c.args.number u.loads.items in
    let none = c.in-None.ensures ∙ ap (λ ls. oldest (loads_without c.args.number ls)) c.as_slice.ensures.value in
    c.drop_past.ensures
    ∙ ap₂ (λ moment o. let w : Ways = record { loads = u.loads.items; moment = moment; pairs = map (pair_cut o) (shown_unit u).pairs } in w)
    (sym (moment_none u.moment left (sym none))) none
