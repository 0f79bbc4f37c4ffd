use Rattle.atomic_histories.proofs.MayLaws.{sets_law}
use Rattle.atomic_histories.proofs.laws.sets_are_of_answers.Goals as goal

pub returns : goal.returns
returns c = sets_law
