use Rattle.std.specs.Prelude.{IfErr}
use Rattle.history_sessions.specs.Faults.{of_atomic}
use Rattle.history_sessions.specs.declared.judge.Judge.TheVariants as judge
use Rattle.history_sessions.specs.Kept.{AtomicFaultIs}
use Rattle.history_sessions.proofs.StepFaults.{passed_on}
use Rattle.history_sessions.proofs.AtomicJudge.{lawful, taken, faulty}
use Rattle.history_sessions.proofs.steps.step_atomic.Goals as goal

pub returns-clause-ok : goal.returns-clause-ok
returns-clause-ok c a k =
    let m = c.args.memory.now in let e = c.step.ensures in let t = c.in_ok-step.ensures.ok_but a.lost a.events k.kept.stands in
    (lawful m a c.args.event k t.0, taken m c.step.new.self a c.args.event k e.memory e.limit t.1)

pub returns-in_err-step-clause-fault : goal.returns-in_err-step-clause-fault
returns-in_err-step-clause-fault c a k =
    let f = c.in_err-step.field-0.0 in
    passed_on c.from_residual.result (λ r. IfErr r (AtomicFaultIs (judge.Atomic c.args.memory.now) a c.args.event)) (of_atomic f)
    c.from_residual.ensures.1
    (faulty c.args.memory.now a c.args.event f k (c.in_err-step.ensures.fault_but a.lost a.events k.kept.stands))
