use Rattle.std.proofs.Common.{◌≡◌, ◌<◌, ◌++◌, ◌∷◌, [], true, get_or, length, refl, ap, ◌∙◌, arith}
use Rattle.atomic_histories.specs.declared.stretches.Before.TheVariants.{Nothing}
use Rattle.atomic_histories.specs.declared.stretches.Stretch.TheVariants.{Overwritten}
use Rattle.atomic_histories.proofs.Moving.{moved_more, moved_all, kept_law, pairs_moved}
use Rattle.atomic_histories.proofs.Loops.{same_default}
use Rattle.atomic_histories.proofs.moves.without_unused.Goals as goal

pub loop-place-preserved : goal.loop-place-preserved
loop-place-preserved c =
    let ss = c.args.stretches.now in
    let used = c.in_ok-used.used.items in
    let i = c.loop-place.place in
    let none = Overwritten [] 0 Nothing in
    let s = get_or ss i none in
    let old = c.loop-place.moved in
    let went = c.in_ok-moved_to.ensures in
    let here = c.loop-place-test.true in
    let flag = c.index.result.now in
    let within : i < length used = omega (arith, here, c.in_ok-used.ensures.count) in
    let stands = same_default ss i none s here in
    moved_more _ (λ p. p) i ss s old (record { stretches = c.keep.new.self.stretches; places = c.push.new.self })
    c.in_ok-moved_to.moved_to here stands refl c.loop-place.invariant went.grows
    (c.in_ok-push.ensures.items ∙ ap (λ xs. xs ++ c.in_ok-moved_to.moved_to ∷ []) went.places) went.is_in
    (λ u. went.past (c.index.ensures ∙ same_default used i flag true within ∙ u)
    ∙ kept_law used i ss s old (omega (arith, here)) c.loop-place.invariant (c.in_ok-used.ensures.closed i s (omega arith) here u stands))

pub returns-clause-same : goal.returns-clause-same
returns-clause-same c =
    let ss = c.args.stretches.now in
    let used = c.in_ok-used.used.items in
    let moved = c.loop-place.moved in
    let at : c.loop-place.place ≡ length ss = omega arith in
    pairs_moved used ss moved _ (moved_all _ (λ p. p) c.loop-place.place ss moved at c.loop-place.invariant)
    c.in_ok-used.ensures.used
