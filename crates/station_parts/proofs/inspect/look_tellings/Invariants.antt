use Rattle.std.proofs.Common.{◌≡◌, map, take}
use Rattle.rtrb.specs.Ring.{sent, known_free}
use Rattle.station_parts.specs.Rings.{pushes_to}
use Rattle.station_parts.specs.Ids.{port_id}
use Rattle.station_parts.specs.Audited.{AreAtMost}
use Rattle.station_parts.specs.Words.{offered, offered_before, taken, told_in_all, known_places}
use Rattle.station_parts.proofs.inspect.look_tellings.Given as goal

abbrev pub invariant-loop-p : goal.invariant-loop-p
invariant-loop-p l =
    record {
      same_ids : map port_id l.ports ≡ map port_id l.fn.ports;
      same_offered : map offered l.ports ≡ map offered l.fn.ports;
      same_before : map offered_before l.ports ≡ map offered_before l.fn.ports;
      same_taken : map taken l.ports ≡ map taken l.fn.ports;
      same_rings : map pushes_to l.tellings.items ≡ map pushes_to l.fn.tellings.items;
      same_sent : map sent l.tellings.items ≡ map sent l.fn.tellings.items;
      more_places : AreAtMost (map known_places l.fn.ports) (map known_places l.ports);
      more_room : AreAtMost (map known_free l.fn.tellings.items) (map known_free l.tellings.items);
      seen : take l.p (map told_in_all l.ports) ≡ take l.p (map sent l.tellings.items);
    }
