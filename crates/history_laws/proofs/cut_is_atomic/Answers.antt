use Rattle.history_laws.proofs.Cuts.{cut_is_atomic}
use Rattle.history_laws.proofs.cut_is_atomic.Goals as goal

pub returns : goal.returns
returns c = cut_is_atomic
