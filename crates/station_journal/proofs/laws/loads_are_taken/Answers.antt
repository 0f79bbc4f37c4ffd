use Rattle.station_journal.proofs.Paying.{loads_are_taken}
use Rattle.station_journal.proofs.laws.loads_are_taken.Goals as goal

pub returns : goal.returns
returns c = loads_are_taken
