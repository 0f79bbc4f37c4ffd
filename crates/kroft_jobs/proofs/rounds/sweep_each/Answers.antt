use Rattle.std.proofs.Common.{refl}
use Rattle.kroft_jobs.proofs.Sweeping.{counted, swept_next}
use Rattle.kroft_jobs.proofs.rounds.sweep_each.Goals as goal

pub loop-timing-preserved : goal.loop-timing-preserved
loop-timing-preserved g c =
    let machines = c.args.machines.now in
    let requests = c.args.requests.now in
    let rows = c.in_ok-made.ensures in
    let made = counted _ requests machines _ c.requires.all rows.rows rows.over in
    swept_next c.args.timings.now c.loop-timing.timing-index _ machines requests c.loop-timing.swept.items c.push.new.self.items _
    c.loop-timing.invariant c.loop-timing-test.true refl made c.in-Ok.ensures.items
