use Rattle.std.proofs.Common.{◌≡◌, ◌∷◌, [], find, sym, ap, subst, ◌∙◌, false, Some}
use Rattle.atomic_histories.specs.Followed.{is_under, answered_load, load_needs_more, has_way, ways_without_load}
use Rattle.atomic_histories.specs.Shown.{shown, shown_all, shown_unit}
use Rattle.atomic_histories.proofs.AtOnce.{one_pair, load_left}
use Rattle.atomic_histories.proofs.kept.KeptUnit.answer_load_at_once.Goals.{In_ok-close_load-in-Some}
use Rattle.atomic_histories.proofs.kept.KeptUnit.answer_load_at_once.Goals as goal

one : (c : In_ok-close_load-in-Some) → (shown_unit c.args.self.now).pairs ≡ shown c.args.self.now.stretches.items c.index.result.now ∷ []
one c =
    ap (shown_all c.args.self.now.stretches.items)
    (one_pair _ _ c.requires ∙ ap (λ p. p ∷ []) (sym c.index.ensures))

there : (c : In_ok-close_load-in-Some)
    → (shown_unit c.args.self.now).pairs ≡ shown c.as_slice-stretches.result.now c.index.result.now ∷ []
there c = one c ∙ ap (λ xs. shown xs c.index.result.now ∷ []) (sym c.as_slice-stretches.ensures.value)

is : (c : In_ok-close_load-in-Some) → Some c.in-Some.load ≡ find (is_under c.args.number) (shown_unit c.args.self.now).loads
is c = c.in-Some.ensures ∙ ap (find (is_under c.args.number)) c.as_slice.ensures.value

pub returns-then-has_answer-clause-ok : goal.returns-then-has_answer-clause-ok
returns-then-has_answer-clause-ok c =
    let u = shown_unit c.args.self.now in
    let number = c.args.number in
    let answered = ap (λ load. answered_load c.args.place c.args.bytes.now load u) (sym (is c))
    ∙ c.has_answer.ensures.found c.if-has_answer.true u (there c) in (
      c.in_ok-close_load-in-Some.ensures.ok ∙ ap (ways_without_load number u) (sym answered),
      ap (λ es. has_way (ways_without_load number u es)) (answered ∙ one c)
          ∙ load_left number u _,
    )

pub returns-then-has_answer-clause-few : goal.returns-then-has_answer-clause-few
returns-then-has_answer-clause-few c = λ limit l t.
    subst (λ load. load_needs_more limit c.args.place c.args.bytes.now load (shown_unit c.args.self.now) ≡ false) (is c)
    (c.has_answer.ensures.few c.if-has_answer.true limit (shown_unit c.args.self.now) (there c))
