use Rattle.std.proofs.Common.{◌∷◌, [], length-append, ap, sym, subst, ◌∙◌, arith}
use Rattle.std.proofs.lemmas.Result.{on_ok_weaker}
use Rattle.history_text.specs.Histories.{HasJudged}
use Rattle.history_text.specs.declared.reading.Judging.{Judging}
use Rattle.history_text.proofs.values.WritingCollector.collect.Goals as goal

pub judge-requires : goal.judge-requires
judge-requires g c =
    let went = c.requires.went in
    omega (arith, went.3, went.2.0.begun.lines, ap (λ (j : Judging). j.lines) c.in_ok-write.ensures.judging)

pub returns-clause-kept : goal.returns-clause-kept
returns-clause-kept g c =
    let text = c.args.text.now in
    let said = sym c.in_ok-event.ensures.said in
    on_ok_weaker c.judge.result
    (λ ok start texts number went. (
      record {
        start = went.0.start;
        begun = ok went.0.start texts text said
            (subst (HasJudged went.0.start texts) (sym c.in_ok-write.ensures.judging) went.0.begun);
        each = λ other h. ok other texts text said
            (subst (HasJudged other texts) (sym c.in_ok-write.ensures.judging) (went.0.each other h));
      },
      λ other h. c.in_ok-write.ensures.ok other texts _ (went.0.each other h) (went.1 other h),
      λ due. omega (arith, length-append texts (text ∷ [])),
    ))
    c.judge.ensures.ok
