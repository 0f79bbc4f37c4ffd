use Rattle.history_laws.proofs.Flat.{flat_is_regular}
use Rattle.history_laws.proofs.flat_is_regular.Goals as goal

pub returns : goal.returns
returns c = flat_is_regular
