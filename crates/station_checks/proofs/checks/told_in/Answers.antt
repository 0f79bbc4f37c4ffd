use Rattle.std.proofs.Common.{arith, append-nil}
use Rattle.station_checks.proofs.Reading.{told_more}
use Rattle.station_checks.proofs.checks.told_in.Goals as goal
use Rattle.station_checks.proofs.checks.told_in.Goals.{in-Some+in_ok-push, in_default}

pub loop-entry-preserved : goal.loop-entry-preserved
loop-entry-preserved c =
    told_more _ _ _ _ c.telling_of.result _ _ c.loop-entry-test.true c.telling_of.ensures c.loop-entry.invariant
    (elim c.match-telling_of.branch [
      | in-Some+in_ok-push w ↦ grind arith
      | in_default w ↦ grind (arith, append-nil)
    ])
