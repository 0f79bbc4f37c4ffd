use Rattle.history_laws.proofs.Told.{run_is_lawful}
use Rattle.history_laws.proofs.run_is_lawful.Goals as goal

pub returns : goal.returns
returns c = run_is_lawful
