use Rattle.std.proofs.Common.{◌≡◌, ◌<◌, ℕ, vec_len}
use Rattle.station_parts.specs.Runs.{list_in}
use Rattle.station_tour.specs.Asked.{IsShare}
use Rattle.station_tour.proofs.rates.share.Given as goal

abbrev pub invariant-loop-port : goal.invariant-loop-port
invariant-loop-port l =
    record {
      number : vec_len l.scripts ≡ l.port;
      each : (p : ℕ) → p < l.port → IsShare l.plan.ports p l.requests (list_in l.scripts.items p);
    }
