use Rattle.round_driver.proofs.SameRuns.{is_same_run}
use Rattle.round_driver.proofs.laws.one_at_a_time.Goals as goal

pub returns : goal.returns
returns c = is_same_run
