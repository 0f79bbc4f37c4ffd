use Rattle.station_journal.proofs.Walking.{journal_is_flat}
use Rattle.station_journal.proofs.laws.journal_is_flat.Goals as goal

pub returns : goal.returns
returns c = journal_is_flat
