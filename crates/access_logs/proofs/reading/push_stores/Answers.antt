use Rattle.access_logs.specs.Requests.{store_of}
use Rattle.access_logs.proofs.Kept.{pushed_next}
use Rattle.access_logs.proofs.reading.push_stores.Goals as goal

pub loop-i-preserved : goal.loop-i-preserved
loop-i-preserved c =
    pushed_next (store_of c.args.pages.now c.args.number c.args.access) c.loop-i.i c.store.result c.args.requests.now.items
    c.loop-i.requests.items c.push.new.requests.items
    c.loop-i.invariant c.in_ok-push.ensures.ok c.store.ensures
