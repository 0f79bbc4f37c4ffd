use Rattle.std.specs.Prelude.{IfErr}
use Rattle.std.proofs.Common.{subst}
use Rattle.memory_histories.specs.Flat.{Flat, flat_fault}
use Rattle.memory_histories.specs.FlatShown.{FlatFaultIs}
use Rattle.history_sessions.specs.Faults.{of_step}
use Rattle.history_sessions.specs.Kept.{ExactFaultIs}
use Rattle.history_sessions.proofs.StepFaults.{passed_on, of_flat}
use Rattle.history_sessions.proofs.steps.step_flat.Goals as goal

pub returns-in_err-step-clause-fault : goal.returns-in_err-step-clause-fault
returns-in_err-step-clause-fault c m shows =
    let f = c.in_err-step.field-0.0 in
    let event = c.args.event in
    passed_on c.from_residual.result (λ r. IfErr r (ExactFaultIs (flat_fault m event) m.moment)) (of_step f) c.from_residual.ensures.1
    (of_flat m event f (subst (λ (n : Flat). FlatFaultIs n event f) shows c.in_err-step.ensures.fault))
