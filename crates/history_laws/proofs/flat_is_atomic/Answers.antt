use Rattle.history_laws.proofs.Flat.{flat_is_atomic}
use Rattle.history_laws.proofs.flat_is_atomic.Goals as goal

pub returns : goal.returns
returns c = flat_is_atomic
