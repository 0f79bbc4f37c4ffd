use Rattle.station_checks.proofs.Telling.{more_told}
use Rattle.station_checks.proofs.story.tell_findings.Goals as goal

pub returns : goal.returns
returns g c = more_told _ _ _ _ _ _ c.in_ok-tell_audit.ensures c.tell_judged.ensures
