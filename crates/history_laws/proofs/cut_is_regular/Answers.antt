use Rattle.history_laws.proofs.RegularCuts.{cut_is_regular}
use Rattle.history_laws.proofs.cut_is_regular.Goals as goal

pub returns : goal.returns
returns c = cut_is_regular
