use Rattle.std.proofs.Common.{◌≡◌, ◌<◌, take, List}
use Rattle.std.specs.Prelude.{vec_len, vec_capacity}
use Rattle.std.specs.List.{All}
use Rattle.atomic_histories.specs.declared.stretches.Stretch.{Stretch}
use Rattle.atomic_histories.specs.declared.pairs.FollowedPair.{FollowedPair}
use Rattle.atomic_histories.specs.Shown.{shown_all}
use Rattle.atomic_histories.proofs.kept.reserve_stores.Given as goal

-- the pairs so far have room, and all show what they did
abbrev pub invariant-loop-pair : goal.invariant-loop-pair
invariant-loop-pair l = record {
  same : (ss : List Stretch) → shown_all ss l.pairs ≡ shown_all ss l.initial.pairs;
  room : All (λ (p : FollowedPair). vec_len p.stores < vec_capacity p.stores) (take l.pair-index l.pairs);
}
