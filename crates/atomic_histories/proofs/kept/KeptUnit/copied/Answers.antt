use Rattle.std.proofs.Common.{ap₂, ◌∙◌}
use Rattle.atomic_histories.proofs.Loops.{copy_shown}
use Rattle.atomic_histories.proofs.kept.KeptUnit.copied.Goals as goal

pub returns-clause-same : goal.returns-clause-same
returns-clause-same c =
    let u = c.args.self.now in
    ap₂ (λ loads es. (record { loads = loads; moment = u.moment; pairs = es }))
    (c.in_ok-loads.ensures.items ∙ c.as_slice-4.ensures.value)
    (copy_shown c.in_ok-moved.moved u.stretches.items _ c.in_ok-moved.moved.stretches.items u.pairs.items
    c.in_ok-pairs.pairs.items c.as_slice-2.result.now c.as_slice-3.result.now c.as_slice.ensures.value c.as_slice-2.ensures.value
    c.as_slice-3.ensures.value (c.in_ok-pairs.ensures.shown c.in_ok-moved.moved.stretches.items) c.in_ok-moved.ensures.same)
