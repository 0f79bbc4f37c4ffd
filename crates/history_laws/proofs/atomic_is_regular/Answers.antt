use Rattle.history_laws.proofs.Atomic.{atomic_is_regular}
use Rattle.history_laws.proofs.atomic_is_regular.Goals as goal

pub returns : goal.returns
returns c = atomic_is_regular
