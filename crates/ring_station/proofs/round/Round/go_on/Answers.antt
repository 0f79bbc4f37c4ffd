use Rattle.std.proofs.Common.{refl}
use Rattle.ring_station.proofs.Passing.{behind_within}
use Rattle.ring_station.proofs.round.Round.go_on.Goals as goal

pub returns-in-Some-clause-stays : goal.returns-in-Some-clause-stays
returns-in-Some-clause-stays c within = rw c.go_on_behind.ensures (behind_within _ _ _ refl within)
