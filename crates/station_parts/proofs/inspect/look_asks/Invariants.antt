use Rattle.std.proofs.Common.{◌≡◌, map, take}
use Rattle.rtrb.specs.Ring.{received}
use Rattle.station_parts.specs.Rings.{pops_from}
use Rattle.station_parts.specs.Ids.{port_id}
use Rattle.station_parts.specs.Rows.{come_to}
use Rattle.station_parts.specs.Audited.{AreAtMost}
use Rattle.station_parts.specs.Words.{offered, offered_before, taken, known_places}
use Rattle.station_parts.proofs.inspect.look_asks.Given as goal

abbrev pub invariant-loop-p : goal.invariant-loop-p
invariant-loop-p l =
    record {
      same_ids : map port_id l.ports ≡ map port_id l.fn.ports;
      same_offered : map offered l.ports ≡ map offered l.fn.ports;
      same_before : map offered_before l.ports ≡ map offered_before l.fn.ports;
      same_taken : map taken l.ports ≡ map taken l.fn.ports;
      same_rings : map pops_from l.asks.items ≡ map pops_from l.fn.asks.items;
      same_received : map received l.asks.items ≡ map received l.fn.asks.items;
      more_places : AreAtMost (map known_places l.fn.ports) (map known_places l.ports);
      seen : take l.p (map come_to l.asks.items) ≡ take l.p (map offered l.ports);
    }
