use Rattle.std.specs.Prelude.{IfErr}
use Rattle.memory_histories.specs.Regular.{fault}
use Rattle.history_sessions.specs.Faults.{of_step}
use Rattle.history_sessions.specs.Kept.{ExactFaultIs}
use Rattle.history_sessions.proofs.StepFaults.{passed_on, of_regular}
use Rattle.history_sessions.proofs.steps.step_regular.Goals as goal

pub returns-in_err-step-clause-fault : goal.returns-in_err-step-clause-fault
returns-in_err-step-clause-fault c w stands =
    let f = c.in_err-step.field-0.0 in
    passed_on c.from_residual.result (λ r. IfErr r (ExactFaultIs (fault w c.args.event) w.moment)) (of_step f) c.from_residual.ensures.1
    (of_regular w c.args.event f (c.in_err-step.ensures.fault w stands))
