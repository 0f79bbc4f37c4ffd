use Rattle.std.proofs.Common.{◌≡◌, ◌<◌, ◌≤◌, ◌-◌, ℕ, false, List, length, get_or}
use Rattle.atomic_histories.specs.declared.stretches.Stretch.{Stretch}
use Rattle.atomic_histories.specs.declared.pairs.FollowedPair.{FollowedPair}
use Rattle.atomic_histories.specs.Followed.{is_same_pair}
use Rattle.atomic_histories.specs.Shown.{shown}
use Rattle.atomic_histories.proofs.followed.place_by_mark.Given as goal

-- it is none of those so far
abbrev pub invariant-loop-from : goal.invariant-loop-from
invariant-loop-from l = record {
  others : (ss : List Stretch) (d : FollowedPair) (k : ℕ) → k < l.from
      → is_same_pair (shown ss (get_or l.pairs k d)) (shown ss l.pair) ≡ false;
  most : l.from ≤ length l.pairs;
}

abbrev pub decreases-loop-from : goal.decreases-loop-from
decreases-loop-from l = length l.pairs - l.from
