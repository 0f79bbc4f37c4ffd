use Rattle.std.proofs.Common.{append-nil, arith}
use Rattle.station_checks.proofs.Reading.{events_more, answers_more}
use Rattle.station_checks.proofs.checks.pairs_in.Goals as goal
use Rattle.station_checks.proofs.checks.pairs_in.Goals.{in-Step+in_ok-push+in_ok-push-2, in_default}

pub loop-entry-preserved : goal.loop-entry-preserved
loop-entry-preserved c =
    let within = c.loop-entry-test.true in
    elim c.match-entry.branch [
      | in-Step+in_ok-push+in_ok-push-2 w ↦
          record {
            events = events_more _ _ _ _ within w.in-Step.is _ _ c.loop-entry.invariant.events (grind arith);
            answers = answers_more _ _ _ _ within w.in-Step.is _ _ c.loop-entry.invariant.answers (grind arith);
          }
      | in_default w ↦
          record {
            events = events_more _ _ _ _ within w.in_default.is _ _ c.loop-entry.invariant.events (grind (arith, append-nil));
            answers = answers_more _ _ _ _ within w.in_default.is _ _ c.loop-entry.invariant.answers (grind (arith, append-nil));
          }
    ]
