use Rattle.std.proofs.Common.{◌≡◌}
use Rattle.station_tour.specs.Soaks.{stations_in}
use Rattle.station_tour.proofs.soak.soak_each.Given as goal

abbrev pub invariant-loop-number : goal.invariant-loop-number
invariant-loop-number g l = stations_in l.soaked ≡ l.number
