use Rattle.atomic_histories.proofs.Verdict.{told_alike}
use Rattle.atomic_histories.proofs.laws.events_are_told_alike.Goals as goal

pub returns : goal.returns
returns c = told_alike
