use Rattle.atomic_histories.proofs.Wide.{undecided_much}
use Rattle.atomic_histories.proofs.laws.undecided_is_much.Goals as goal

pub returns : goal.returns
returns c = undecided_much
