use Rattle.std.proofs.Common.{◌≡◌, map}
use Rattle.station_parts.specs.Ids.{port_id, bank_id, cache_id}
use Rattle.station_examples.proofs.tests.by_hand.make_stage.Given as goal

abbrev pub invariant-loop-time : goal.invariant-loop-time
invariant-loop-time l =
    record {
      cache : cache_id l.cache ≡ cache_id l.fn.cache;
      port : port_id l.port ≡ port_id l.fn.port;
      banks : map bank_id l.banks ≡ map bank_id l.fn.banks;
    }
