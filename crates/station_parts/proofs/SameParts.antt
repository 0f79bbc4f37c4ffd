-- Parts that keep their rings and sizes are those of one station still.
use Rattle.std.proofs.Common.{◌≡◌, List, map, refl, ◌∙◌}
use Rattle.station_parts.specs.declared.port.Port.{Port}
use Rattle.station_parts.specs.declared.bank.BankSide.{BankSide}
use Rattle.station_parts.specs.declared.parts.CacheSide.{CacheSide}
use Rattle.station_parts.specs.Ids.{port_id, bank_id, cache_id}
use Rattle.station_parts.specs.Station.{AreOneStation, AreSameParts}

pub same_parts : {cache cache' : CacheSide} {ports ports' : List Port} {banks banks' : List BankSide}
    → cache_id cache' ≡ cache_id cache → map port_id ports' ≡ map port_id ports → map bank_id banks' ≡ map bank_id banks
    → AreOneStation cache ports banks → AreSameParts cache cache' ports ports' banks banks'
same_parts cache ports banks one = record { cache = cache; ports = ports; banks = banks; one = rw (cache, ports, banks) one }

-- where nothing has moved
pub still_same : {cache : CacheSide} {ports : List Port} {banks : List BankSide} → AreOneStation cache ports banks
    → AreSameParts cache cache ports ports banks banks
still_same one = record { cache = refl; ports = refl; banks = refl; one = one }

-- and behind moves of which each kept them
pub same_still : {a b c : CacheSide} {p q r : List Port} {x y z : List BankSide} → AreSameParts a b p q x y
    → AreSameParts b c q r y z → AreSameParts a c p r x z
same_still first next = record {
  cache = next.cache ∙ first.cache;
  ports = next.ports ∙ first.ports;
  banks = next.banks ∙ first.banks;
  one = next.one;
}
