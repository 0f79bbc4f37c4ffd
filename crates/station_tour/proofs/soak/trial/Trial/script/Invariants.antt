use Rattle.station_checks.specs.Scripts.{AreRequests}
use Rattle.station_tour.proofs.soak.trial.Trial.script.Given as goal

abbrev pub invariant-loop-number : goal.invariant-loop-number
invariant-loop-number l = AreRequests l.asks.items
