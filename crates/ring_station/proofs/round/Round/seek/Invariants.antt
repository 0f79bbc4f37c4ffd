use Rattle.std.proofs.Common.{◌≡◌, ◌<◌, ℕ, false}
use Rattle.station_parts.specs.Ids.{cache_id}
use Rattle.station_parts.specs.SideState.{state_of, OnlyLooks}
use Rattle.station_parts.specs.SideSteps.{has_item}
use Rattle.ring_station.specs.Round.{passed, source_of}
use Rattle.ring_station.proofs.round.Round.seek.Given as goal

abbrev pub invariant-loop-place : goal.invariant-loop-place
invariant-loop-place l = record {
  same : cache_id l.cache ≡ cache_id l.fn.cache;
  looks : OnlyLooks (state_of l.fn.cache) (state_of l.cache);
  passed_is : l.self ≡ passed l._place l.fn.self;
  unknown : (k : ℕ) → k < l._place → has_item (source_of (passed k l.fn.self)) (state_of l.fn.cache) ≡ false;
}
