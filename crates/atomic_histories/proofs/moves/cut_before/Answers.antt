use Rattle.std.proofs.Common.{◌++◌, ◌∷◌, [], true, get_or, refl, ap, ◌∙◌}
use Rattle.atomic_histories.specs.declared.stretches.Before.TheVariants.{Nothing}
use Rattle.atomic_histories.specs.declared.stretches.Stretch.TheVariants.{Overwritten}
use Rattle.atomic_histories.proofs.Moving.{moved_more, cut_law}
use Rattle.atomic_histories.proofs.Loops.{same_default}
use Rattle.atomic_histories.proofs.moves.cut_before.Goals as goal

pub loop-stretch-preserved : goal.loop-stretch-preserved
loop-stretch-preserved c =
    let since = c.args.since in
    let ss = c.args.stretches.now in
    let i = c.loop-stretch.stretch-index in
    let none = Overwritten [] 0 Nothing in
    let s = get_or ss i none in
    let old = c.loop-stretch.moved in
    let went = c.in_ok-place.ensures in
    let here = c.loop-stretch-test.true in
    moved_more (λ b. true) _ i ss s old (record { stretches = c.cut.new.self.stretches; places = c.push.new.self })
    c.in_ok-place.place here (same_default ss i none s here) refl c.loop-stretch.invariant went.grows
    (c.in_ok-push.ensures.items ∙ ap (λ xs. xs ++ c.in_ok-place.place ∷ []) went.places) went.is_in
    (λ _. went.past ∙ cut_law since i ss s old c.loop-stretch.invariant)
