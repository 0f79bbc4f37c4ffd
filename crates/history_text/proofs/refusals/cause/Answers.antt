use Rattle.std.proofs.lemmas.Result.{IfOk-weaker}
use Rattle.std.proofs.Common.{sym, subst}
use Rattle.history_sessions.specs.Words.{operation_under}
use Rattle.history_text.specs.Lines.{seen}
use Rattle.history_text.specs.Refusals.{IsResponseCause, IsCause}
use Rattle.history_text.proofs.refusals.cause.Goals as goal

pub returns-in-LoadResponse : goal.returns-in-LoadResponse
returns-in-LoadResponse c =
    IfOk-weaker c.response_cause.result _ _
    (λ cause is s st. subst (λ e. IsCause s (seen e) c.args.fault cause) (sym c.in-LoadResponse.is)
    (subst (λ bs. IsResponseCause s (operation_under c.in-LoadResponse.number s.loads) bs c.args.fault cause) c.as_slice.ensures.value
    (is s st)))
    c.response_cause.ensures
