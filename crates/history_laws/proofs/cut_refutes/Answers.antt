use Rattle.history_laws.proofs.Cuts.{cut_refutes}
use Rattle.history_laws.proofs.cut_refutes.Goals as goal

pub returns : goal.returns
returns c = cut_refutes
