use Rattle.station_parts.specs.Station.{AreOneStation}
use Rattle.station_examples.proofs.tests.renewed.run_turns.Given as goal

abbrev pub invariant-loop-turn : goal.invariant-loop-turn
invariant-loop-turn g l = AreOneStation l.all.cache l.all.ports.items l.all.banks.items
