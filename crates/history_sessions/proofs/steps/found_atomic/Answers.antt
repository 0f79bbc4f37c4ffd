use Rattle.std.proofs.Common.{sym, subst}
use Rattle.history_sessions.specs.declared.judge.Judge.TheVariants as judge
use Rattle.history_sessions.specs.Kept.{AtomicFaultIs}
use Rattle.history_sessions.proofs.AtomicJudge.{faulty}
use Rattle.history_sessions.proofs.steps.found_atomic.Goals as goal

pub returns-in-Some : goal.returns-in-Some
returns-in-Some c a k =
    let e = c.in-Some in
    subst (AtomicFaultIs (judge.Atomic c.args.memory.now) a c.args.event) (sym c.from.ensures)
    (faulty c.args.memory.now a c.args.event e.fault k (e.ensures.some_but a.lost a.events k.kept.stands))
