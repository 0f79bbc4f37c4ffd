use Rattle.atomic_histories.proofs.MayLaws.{units_law}
use Rattle.atomic_histories.proofs.laws.units_choose_alone.Goals as goal

pub returns : goal.returns
returns c = units_law
