use Rattle.std.proofs.Common.{refl, sym, ◌∙◌}
use Rattle.std.proofs.lemmas.Result.{on_ok_weaker}
use Rattle.atomic_histories.specs.Shown.{shown}
use Rattle.atomic_histories.proofs.Merges.{merged_there, is_inside, put_behind}
use Rattle.atomic_histories.proofs.followed.Followed.add_to_marked.Goals as goal

pub merge_at-requires-clause-place : goal.merge_at-requires-clause-place
merge_at-requires-clause-place c =
    let ss = c.args.stretches.now.items in
    is_inside ss c.args.pair _ _ c.in-Some.place c.as_slice.ensures.value
    (c.in-Some.ensures ss)

pub returns-in-Some-clause-pairs : goal.returns-in-Some-clause-pairs
returns-in-Some-clause-pairs c =
    let ss = c.args.stretches.now.items in
    on_ok_weaker c.merge_at.result
    (λ h. h (shown ss c.args.pair) refl
    ∙ sym (merged_there ss c.args.pair c.args.self.now.pairs.items c.as_slice.result.now c.in-Some.place c.as_slice.ensures.value
    (c.in-Some.ensures ss)))
    c.merge_at.ensures.pairs

pub returns-in_ok-push-in-None-2-clause-pairs : goal.returns-in_ok-push-in-None-2-clause-pairs
returns-in_ok-push-in-None-2-clause-pairs c =
    let ss = c.args.stretches.now.items in
    put_behind ss c.args.pair c.args.self.now.pairs.items c.as_slice.result.now c.push.new.self.items c.as_slice.ensures.value
    (c.in-None.ensures ss) c.in_ok-push-in-None.ensures.items
