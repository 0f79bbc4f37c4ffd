use Rattle.round_driver.proofs.Values.{answers_one_load}
use Rattle.round_driver.proofs.laws.one_load_a_round.Goals as goal

pub returns : goal.returns
returns c = answers_one_load
