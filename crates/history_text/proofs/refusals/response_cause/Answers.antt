use Rattle.std.proofs.lemmas.Result.{IfOk-weaker}
use Rattle.std.proofs.Common.{◌∙◌, refl, sym, subst}
use Rattle.history_text.specs.declared.answers.RefusalCause.TheVariants.{NotOpen}
use Rattle.history_text.specs.Refusals.{IsResponseCause}
use Rattle.history_text.proofs.refusals.response_cause.Goals as goal

pub returns-in-None : goal.returns-in-None
returns-in-None c s st =
    subst (λ o. IsResponseCause s o c.args.bytes.now c.args.fault NotOpen) (sym c.in-None.is ∙ c.load_under.ensures s st.kept) refl

pub returns-in-Some : goal.returns-in-Some
returns-in-Some c =
    IfOk-weaker c.answer_cause.result _ _
    (λ cause is s st. subst (λ o. IsResponseCause s o c.args.bytes.now c.args.fault cause)
    (sym c.in-Some.is ∙ c.load_under.ensures s st.kept) (is s st))
    c.answer_cause.ensures
