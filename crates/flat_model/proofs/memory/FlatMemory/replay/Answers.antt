use Rattle.std.proofs.Common.{◌≡◌, Result, Ok, Err, IfErr, IsErrAnd}
use Rattle.flat_model.specs.Memory.{shown, FaultIs}
use Rattle.flat_model.specs.Flat.{Flat}
use Rattle.flat_model.proofs.Replays.{uneven_run}
use Rattle.flat_model.proofs.memory.FlatMemory.replay.Goals as goal

pub returns-then-events-answers-clause-fault : goal.returns-then-events-answers-clause-fault
returns-then-events-answers-clause-fault c = (
  c.if-events-answers.true,
  uneven_run
      (shown c.args.self.now) c.args.events.now c.args.answers.now c.if-events-answers.true,
)

-- a fault that `?` passes on says what it said
passed_on : {X E : Type 0} (r : Result X E) (e : E) (s t : Flat) (says : Flat → E → Type 0) → IsErrAnd r (λ f. f ≡ e) → s ≡ t → says s e
    → IfErr r (says t)
passed_on (Ok x) e s t says h same p = tt
passed_on (Err f) e s t says h same p = rw (h, ← same) p

pub returns-in_err-follow-clause-fault : goal.returns-in_err-follow-clause-fault
returns-in_err-follow-clause-fault c =
    passed_on c.from_residual-in_err-follow.result c.in_err-follow.field-0.0 (shown c.in_ok-next.next) (shown c.args.self.now)
    (λ s. FaultIs s c.args.events.now c.args.answers.now) c.from_residual-in_err-follow.ensures.1 c.in_ok-next.ensures.same
    c.in_err-follow.ensures.fault
