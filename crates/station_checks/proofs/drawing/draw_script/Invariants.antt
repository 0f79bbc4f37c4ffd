use Rattle.std.proofs.Common.{◌≡◌, length}
use Rattle.station_checks.specs.Asked.{asks_drawn, drawn_past, own_word}
use Rattle.station_checks.specs.Scripts.{AreRequests}
use Rattle.station_checks.proofs.drawing.draw_script.Given as goal

abbrev pub invariant-loop-place : goal.invariant-loop-place
invariant-loop-place l =
    record {
      requests : AreRequests l.asks.items;
      count : length l.asks.items ≡ l.place;
      asks : l.asks.items ≡ asks_drawn (own_word l.port) l.initial.random l.begun l.place;
      rest : l.random ≡ drawn_past l.place l.initial.random;
    }
