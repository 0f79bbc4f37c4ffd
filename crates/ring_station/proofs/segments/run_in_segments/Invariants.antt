use Rattle.std.proofs.Common.{◌≡◌, ◌<◌, ◌⊎◌, ◌-◌, length, vec_len}
use Rattle.station_parts.specs.Station.{IsSameStation}
use Rattle.ring_station.specs.Segments.{EachIsHeard, longest_of}
use Rattle.ring_station.proofs.RunningOn.{HasComeTo}
use Rattle.ring_station.proofs.segments.run_in_segments.Given as goal

abbrev pub invariant-loop-begin : goal.invariant-loop-begin
invariant-loop-begin g l =
    record {
      same : IsSameStation l.fn.station l.station;
      scripts : length l.scripts ≡ vec_len l.station.ports;
      more : (l.begin ≡ 0) ⊎ (l.begin < longest_of l.scripts);
      so_far : HasComeTo l.begin l.asks l.turns l.scripts l.fn.station l.station
          (λ xs. g.K.Keeper.kept l.fn.keeper xs l.keeper × EachIsHeard (g.G.Gate.has_heard l.gate) xs);
    }

abbrev pub decreases-loop-begin : goal.decreases-loop-begin
decreases-loop-begin g l = l.longest - l.begin
