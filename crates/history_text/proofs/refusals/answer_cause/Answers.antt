use Rattle.std.proofs.lemmas.Result.{IfOk-weaker}
use Rattle.std.proofs.Common.{sym, subst}
use Rattle.history_sessions.specs.Kept.{IsAllowed}
use Rattle.history_text.specs.Refusals.{IsAnswerCause}
use Rattle.history_text.proofs.refusals.answer_cause.Goals as goal

pub returns-in-WrongByte : goal.returns-in-WrongByte
returns-in-WrongByte c =
    let load = c.args.load in
    IfOk-weaker c.wrong_byte.result _ _
    (λ cause wrong s st. subst (λ f. IsAnswerCause s load c.args.bytes.now f cause) (sym c.in-WrongByte.is) (
      c.allowed-allowed.result,
      subst (λ a. IsAllowed s.history load.number a c.allowed-allowed.result) c.byte_address-address.ensures
          (c.allowed-allowed.ensures s st.kept),
      wrong s st,
    ))
    c.wrong_byte.ensures
