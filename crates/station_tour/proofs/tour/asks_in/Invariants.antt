use Rattle.std.proofs.Common.{◌≡◌, take, min}
use Rattle.station_tour.specs.Asked.{asks_in}
use Rattle.station_tour.proofs.tour.asks_in.Given as goal

abbrev pub invariant-loop-script : goal.invariant-loop-script
invariant-loop-script l = l.asks ≡ min (asks_in (take l.script-index l.scripts)) 18446744073709551615
