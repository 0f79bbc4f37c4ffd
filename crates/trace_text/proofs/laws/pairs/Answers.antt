use Rattle.trace_text.proofs.Arrows.{pair_back}
use Rattle.trace_text.proofs.laws.pairs.Goals as goal

pub returns : goal.returns
returns c = pair_back
