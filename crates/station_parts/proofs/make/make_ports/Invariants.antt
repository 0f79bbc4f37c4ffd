use Rattle.std.proofs.Common.{◌≡◌, length}
use Rattle.station_parts.specs.New.{AreNewPorts}
use Rattle.station_parts.proofs.make.make_ports.Given as goal

abbrev pub invariant-loop : goal.invariant-loop
invariant-loop l = record {
  new : AreNewPorts l.ends.ports.items l.ends.asks.items l.ends.tellings.items;
  number : length l.ends.ports.items ≡ l.counter;
}
