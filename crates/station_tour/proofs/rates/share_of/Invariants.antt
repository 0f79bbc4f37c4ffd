use Rattle.std.proofs.Common.{◌≡◌, ◌+◌, ◌*◌, ◌<◌, ℕ, length, slice_index_or}
use Rattle.station_journal.specs.declared.asks.Ask.{Ask}
use Rattle.station_tour.proofs.rates.share_of.Given as goal

abbrev pub invariant-loop-place : goal.invariant-loop-place
invariant-loop-place l =
    record {
      number : length l.script.items ≡ l.place;
      each : (k : ℕ) (d : Ask) → k < l.place → slice_index_or l.script.items k d ≡ slice_index_or l.requests (l.port + k * l.ports) d;
    }
