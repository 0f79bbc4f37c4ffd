use Rattle.history_sessions.specs.Faults.{of_atomic}
use Rattle.history_sessions.specs.declared.judge.Judge.TheVariants as judge
use Rattle.history_sessions.specs.Kept.{IsAtomicSet}
use Rattle.history_sessions.proofs.StepFaults.{passed_on}
use Rattle.history_sessions.proofs.AtomicJudge.{set_found, no_set}
use Rattle.history_sessions.proofs.steps.set_atomic.Goals as goal

pub returns : goal.returns
returns c a k =
    set_found c.args.memory.now a c.args.number c.args.address c.in_ok-set.set k (c.in_ok-set.ensures.ok a.lost a.events k.kept.stands)

pub returns-in_err-set : goal.returns-in_err-set
returns-in_err-set c a k =
    let f = c.in_err-set.field-0.0 in
    passed_on c.from_residual.result (IsAtomicSet (judge.Atomic c.args.memory.now) a c.args.number c.args.address) (of_atomic f)
    c.from_residual.ensures.1
    (no_set c.args.memory.now a c.args.number c.args.address f k c.in_err-set.ensures.asked c.in_err-set.ensures.fault)
