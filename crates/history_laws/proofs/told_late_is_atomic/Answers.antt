use Rattle.history_laws.proofs.Since.{told_late_is_atomic}
use Rattle.history_laws.proofs.told_late_is_atomic.Goals as goal

pub returns : goal.returns
returns c = told_late_is_atomic
