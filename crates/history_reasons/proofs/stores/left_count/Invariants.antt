use Rattle.std.proofs.Common.{◌≡◌, ◌+◌, ◌≤◌, drop}
use Rattle.history_reasons.specs.Stores.{all_lanes, lanes_in}
use Rattle.history_reasons.proofs.StoreLemmas.{lane_count}
use Rattle.history_reasons.proofs.stores.left_count.Given as goal

-- those that are counted and those that are left are all
abbrev pub invariant-loop-place : goal.invariant-loop-place
invariant-loop-place l = record {
  all : l.count + lane_count (drop l.place (all_lanes l.store)) ≡ lane_count (lanes_in l.store);
  few : l.count + l.store.from ≤ l.place;
}
