-- That a run leaves as many ports as there were.
use Rattle.std.proofs.Common.{◌≡◌, map, vec_len, sym, ◌∙◌}
use Rattle.std.specs.Global.{Vec}
use Rattle.station_parts.specs.declared.port.Port.{Port}
use Rattle.station_parts.specs.Ids.{port_id}
use Rattle.ring_station.proofs.Ending.{long_alike}

pub as_many : (new old : Vec Port) → map port_id new.items ≡ map port_id old.items → vec_len new ≡ vec_len old
as_many new old same = new.ok.0 ∙ long_alike port_id new.items old.items same ∙ sym old.ok.0
