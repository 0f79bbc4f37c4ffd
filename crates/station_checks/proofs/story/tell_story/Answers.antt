use Rattle.station_checks.proofs.Telling.{more_told}
use Rattle.station_checks.proofs.story.tell_story.Goals as goal

pub returns : goal.returns
returns g c = more_told _ _ _ _ _ _ c.in_ok-tell_ports.ensures c.tell_findings.ensures
