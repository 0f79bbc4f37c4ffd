use Rattle.atomic_histories.proofs.Wide.{no_sets_much}
use Rattle.atomic_histories.proofs.laws.no_sets_are_much.Goals as goal

pub returns : goal.returns
returns c = no_sets_much
