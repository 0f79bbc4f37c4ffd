use Rattle.std.proofs.Common.{inl, inr, refl, subst, Err}
use Rattle.history_sessions.specs.Kept.{judge_of, IsSetFound}
use Rattle.history_text.proofs.values.set_at.Goals as goal

pub returns-in-Ok : goal.returns-in-Ok
returns-in-Ok c s k = (judge_of c.args.session.now, k.judge, inl (c.in-Ok.ensures s k))

pub returns-in-Err-Undecided : goal.returns-in-Err-Undecided
returns-in-Err-Undecided c s k =
    let u = c.in-Err-Undecided in
    let j = judge_of c.args.session.now in (
      j,
      k.judge,
      inr (refl, u.field-0-0, subst (λ f. IsSetFound j s.history c.args.number c.args.address (Err f)) u.field-0-is (u.ensures s k)),
    )
