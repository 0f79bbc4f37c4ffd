use Rattle.history_laws.proofs.Late.{late_is_atomic}
use Rattle.history_laws.proofs.late_is_atomic.Goals as goal

pub returns : goal.returns
returns c = late_is_atomic
