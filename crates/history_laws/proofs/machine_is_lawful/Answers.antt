use Rattle.history_laws.proofs.Told.{machine_is_lawful}
use Rattle.history_laws.proofs.machine_is_lawful.Goals as goal

pub returns : goal.returns
returns c = machine_is_lawful
