use Rattle.cache_law.proofs.Requesting.{each_step}
use Rattle.cache_law.proofs.laws.each_step_makes_forms.Goals as goal

pub returns : goal.returns
returns c = each_step
