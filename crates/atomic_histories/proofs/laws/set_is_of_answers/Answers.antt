use Rattle.atomic_histories.proofs.MayLaws.{set_law}
use Rattle.atomic_histories.proofs.laws.set_is_of_answers.Goals as goal

pub returns : goal.returns
returns c = set_law
