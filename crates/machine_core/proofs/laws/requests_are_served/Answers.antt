use Rattle.machine_core.proofs.Whole.{requests_are_served}
use Rattle.machine_core.proofs.laws.requests_are_served.Goals as goal

pub returns : goal.returns
returns c = requests_are_served
