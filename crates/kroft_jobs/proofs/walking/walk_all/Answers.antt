use Rattle.kroft_jobs.specs.Walking.{walk_of}
use Rattle.kroft_jobs.proofs.Walked.{walk_more}
use Rattle.kroft_jobs.proofs.walking.walk_all.Goals as goal

pub loop-k-preserved : goal.loop-k-preserved
loop-k-preserved c =
    walk_more _ c.loop-k.k c.args.all.now _ c.loop-k.machine c.walk.new.machine (walk_of c.loop-k.run) (walk_of c.walk.new.self)
    c.loop-k-test.true c.loop-k.invariant c.walk.ensures.machine c.in_ok-walk.ensures.walk
