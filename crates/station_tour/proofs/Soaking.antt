-- That each station is counted once.
use Rattle.std.proofs.Common.{◌≡◌, ◌+◌, arith}
use Rattle.station_checks.specs.declared.findings.Outcome.{Outcome}
use Rattle.station_checks.specs.declared.findings.Outcome.TheVariants.{Good, TurnLimit, Failed}
use Rattle.station_tour.specs.declared.soak.Soaked.{Soaked}
use Rattle.station_tour.specs.Soaks.{stations_in, with_outcome}

pub one_more : (soaked : Soaked) (outcome : Outcome) → stations_in (with_outcome soaked outcome) ≡ stations_in soaked + 1
one_more soaked Good = omega arith
one_more soaked TurnLimit = omega arith
one_more soaked Failed = omega arith
