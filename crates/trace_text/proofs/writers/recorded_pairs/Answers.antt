use Rattle.trace_text.proofs.Recorded.{recorded_back}
use Rattle.trace_text.proofs.writers.recorded_pairs.Goals as goal

pub returns : goal.returns
returns c pair fit = recorded_back pair fit
