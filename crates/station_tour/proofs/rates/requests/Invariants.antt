use Rattle.std.proofs.Common.{◌≡◌}
use Rattle.station_checks.specs.Asked.{asks_drawn, drawn_past}
use Rattle.station_tour.specs.Asked.{any_word, request_draws}
use Rattle.station_tour.proofs.rates.requests.Given as goal

abbrev pub invariant-loop-number : goal.invariant-loop-number
invariant-loop-number l =
    record {
      asks : l.asks.items ≡ asks_drawn any_word (request_draws l.plan) 0 l.number;
      rest : l.random ≡ drawn_past l.number (request_draws l.plan);
    }
