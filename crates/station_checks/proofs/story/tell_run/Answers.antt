use Rattle.std.proofs.Common.{sym}
use Rattle.station_checks.proofs.Telling.{more_told}
use Rattle.station_checks.proofs.story.tell_run.Goals as goal

pub returns : goal.returns
returns g c =
    more_told _ _ _ _ _ _ c.in_ok-tell_length.ensures (more_told _ _ _ _ _ _ (rw (sym c.last_entries.ensures) c.in_ok-tell_entries.ensures)
    (more_told _ _ _ _ _ _ c.in_ok-tell_again.ensures (rw (sym c.per_second.ensures) c.tell_rate.ensures)))
