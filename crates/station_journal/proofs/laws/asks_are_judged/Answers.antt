use Rattle.station_journal.proofs.Answering.{asks_are_judged}
use Rattle.station_journal.proofs.laws.asks_are_judged.Goals as goal

pub returns : goal.returns
returns c = asks_are_judged
