use Rattle.std.proofs.Common.{◌≡◌, ◌+◌, drop}
use Rattle.history_reasons.specs.Stores.{all_lanes, lanes_in, lanes_with}
use Rattle.history_reasons.proofs.stores.place_behind.Given as goal

-- the lanes so far and those that are still to go make all
abbrev pub invariant-loop-place : goal.invariant-loop-place
invariant-loop-place l = record {
  all : l.place + lanes_with l.left (drop l.place (all_lanes l.store)) ≡ l.store.from + lanes_with l.count (lanes_in l.store);
  here : l.behind ≡ l.place;
}
