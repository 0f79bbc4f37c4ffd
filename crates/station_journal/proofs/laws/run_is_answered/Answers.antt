use Rattle.station_journal.proofs.Answering.{run_is_answered}
use Rattle.station_journal.proofs.laws.run_is_answered.Goals as goal

pub returns : goal.returns
returns c = run_is_answered
