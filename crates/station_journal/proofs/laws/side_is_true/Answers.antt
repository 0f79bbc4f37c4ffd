use Rattle.station_journal.proofs.Telling.{side_is_true}
use Rattle.station_journal.proofs.laws.side_is_true.Goals as goal

pub returns : goal.returns
returns c = side_is_true
