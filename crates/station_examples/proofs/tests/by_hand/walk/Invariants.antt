use Rattle.std.proofs.Common.{◌≡◌, vec_len}
use Rattle.station_parts.specs.Station.{AreOneStation}
use Rattle.station_examples.proofs.tests.by_hand.walk.Given as goal

abbrev pub invariant-loop-stage : goal.invariant-loop-stage
invariant-loop-stage g l =
    record {
      one : AreOneStation l.station.cache l.station.ports.items l.station.banks.items;
      ports : vec_len l.station.ports ≡ 1;
    }
