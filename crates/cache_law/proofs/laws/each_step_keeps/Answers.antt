use Rattle.cache_law.proofs.EachStep.{each_step_keeps}
use Rattle.cache_law.proofs.laws.each_step_keeps.Goals as goal

pub returns : goal.returns
returns c = each_step_keeps
