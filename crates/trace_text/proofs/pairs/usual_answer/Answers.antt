use Rattle.std.proofs.Common.{◌≡◌, refl, ap, ◌++◌, ◌∙◌}
use Rattle.std.specs.Prelude.{codes, Some}
use Rattle.std.proofs.lemmas.Bool.Decides.{Decides-eqb}
use Rattle.std.proofs.lemmas.Slice.Eq.{strip_suffix_is}
use Rattle.flat_model.specs.declared.Answer.TheVariants.{Accepted, Moved}
use Rattle.trace_text.specs.Pairs.{answer_of, answer_from}
use Rattle.trace_text.proofs.pairs.usual_answer.Goals as goal

moved : answer_of (codes "moved") ≡ Some Moved
unfolding answer_of answer_from
moved = refl

accepted : answer_of (codes "accepted") ≡ Some Accepted
unfolding answer_of answer_from
accepted = refl

pub returns-in-Some : goal.returns-in-Some
returns-in-Some c = record {
  reply = codes "moved";
  whole = strip_suffix_is Decides-eqb c.args.text.now c.as_slice.result.now (Some c.in-Some.line) c.in-Some.ensures.cases
      ∙ ap (λ p. c.in-Some.line.now ++ p) c.as_slice.ensures;
  said = moved;
}

pub returns-in-Some-strip_suffix : goal.returns-in-Some-strip_suffix
returns-in-Some-strip_suffix c = record {
  reply = codes "accepted";
  whole = strip_suffix_is Decides-eqb c.args.text.now c.as_slice-2.result.now (Some c.in-Some-strip_suffix.line)
      c.in-Some-strip_suffix.ensures.cases ∙ ap (λ p. c.in-Some-strip_suffix.line.now ++ p) c.as_slice-2.ensures;
  said = accepted;
}
