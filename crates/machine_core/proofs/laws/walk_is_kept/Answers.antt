use Rattle.machine_core.proofs.Whole.{walk_is_kept}
use Rattle.machine_core.proofs.laws.walk_is_kept.Goals as goal

pub returns : goal.returns
returns c = walk_is_kept
