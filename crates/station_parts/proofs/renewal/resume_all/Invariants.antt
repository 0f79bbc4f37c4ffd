use Rattle.std.proofs.Common.{◌≡◌, false, map}
use Rattle.std.specs.List.{AllWithin}
use Rattle.station_parts.specs.Ids.{port_id}
use Rattle.station_parts.specs.Words.{offered, offered_before, taken, has_ended, known_places, known_tellings, told_in_all}
use Rattle.station_parts.proofs.renewal.resume_all.Given as goal

abbrev pub invariant-loop-p : goal.invariant-loop-p
invariant-loop-p l =
    record {
      same_ids : map port_id l.ports ≡ map port_id l.fn.ports;
      same_offered : map offered l.ports ≡ map offered l.fn.ports;
      same_taken : map taken l.ports ≡ map taken l.fn.ports;
      same_places : map known_places l.ports ≡ map known_places l.fn.ports;
      same_tellings : map known_tellings l.ports ≡ map known_tellings l.fn.ports;
      same_told : map told_in_all l.ports ≡ map told_in_all l.fn.ports;
      before : AllWithin (λ p. offered_before p ≡ offered p) l.ports 0 l.p;
      again : AllWithin (λ p. has_ended p ≡ false) l.ports 0 l.p;
    }
