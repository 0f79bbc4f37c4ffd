use Rattle.round_driver.proofs.Walks.{run_is_told}
use Rattle.round_driver.proofs.laws.run_is_told.Goals as goal

pub returns : goal.returns
returns c = run_is_told
