use Rattle.std.proofs.Common.{◌≡◌, ◌∷◌, [], true, sym, ap, ◌∙◌}
use Rattle.atomic_histories.specs.Law.{may_answer_store}
use Rattle.atomic_histories.specs.Followed.{has_way, ways_without_store}
use Rattle.atomic_histories.specs.Shown.{shown, shown_all, shown_unit}
use Rattle.atomic_histories.proofs.AtOnce.{one_pair, store_here, few_effects}
use Rattle.atomic_histories.proofs.kept.KeptUnit.answer_store_at_once.Goals.{After-close_store}
use Rattle.atomic_histories.proofs.kept.KeptUnit.answer_store_at_once.Goals as goal

one : (c : After-close_store) → (shown_unit c.args.self.now).pairs ≡ shown c.args.self.now.stretches.items c.index.result.now ∷ []
one c =
    ap (shown_all c.args.self.now.stretches.items)
    (one_pair _ _ c.requires ∙ ap (λ p. p ∷ []) (sym c.index.ensures))

met : (c : After-close_store) → may_answer_store c.args.number c.index.result.now.stores.items ≡ true
met c = sym c.has_effect.ensures ∙ c.if-has_effect.true

pub returns-then-has_effect-clause-ok : goal.returns-then-has_effect-clause-ok
returns-then-has_effect-clause-ok c =
    let u = shown_unit c.args.self.now in
    let number = c.args.number in
    let here = store_here number u _ (one c) (met c) in (
      c.close_store.ensures ∙ ap (ways_without_store number u) (one c ∙ sym here),
      ap (λ es. has_way (ways_without_store number u es)) here,
    )

pub returns-then-has_effect-clause-few : goal.returns-then-has_effect-clause-few
returns-then-has_effect-clause-few c = λ limit l t.
    few_effects limit _ _ _ l (one c)
    (met c)
