use Rattle.std.proofs.Common.{◌≡◌, sym, ◌∙◌, rules}
use Rattle.atomic_histories.specs.declared.stretches.Before.TheVariants.{Behind}
use Rattle.atomic_histories.specs.Pasts.{either}
use Rattle.atomic_histories.specs.Shown.{past_at}
use Rattle.atomic_histories.proofs.Frames.{merged_one, merged_other}
use Rattle.atomic_histories.proofs.splits.merge_left.Goals.{in_default-via-in-Nothing+in_default, in_default-via-in_default}
use Rattle.atomic_histories.proofs.splits.merge_left.Goals as goal

pub returns-in_default-clause-past : goal.returns-in_default-clause-past
returns-in_default-clause-past c =
    let ss = c.args.stretches.now.items in
    let one : c.args.one_left ≡ c.args.one = search rules in
    let other : c.args.other_left ≡ c.args.other = search rules in
    let whole = c.requires.same one other in
    let both : past_at _ (Behind c.args.place)
    ≡ either _ _ =
    rw (one, other) whole in
    elim c.in_default.branch [
      | in_default-via-in-Nothing+in_default w ↦ both ∙ sym
          (merged_other ss c.args.one_left c.args.other_left _ w.in_default.is-1 c.requires.other)
      | in_default-via-in_default w ↦ both ∙ sym (merged_one ss c.args.one_left c.args.other_left _ w.in_default.is-0 c.requires.one)
    ]
