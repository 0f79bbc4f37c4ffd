use Rattle.history_sessions.proofs.AtomicJudge.{forgot}
use Rattle.history_sessions.proofs.steps.forget_atomic.Goals as goal

pub returns-clause-ok : goal.returns-clause-ok
returns-clause-ok c a k =
    let e = c.forget.ensures in
    forgot c.args.memory.now c.forget.new.self a c.args.address k e.memory e.limit (c.in_ok-forget.ensures.ok a.lost a.events k.kept.stands)
