use Rattle.std.proofs.Common.{◌≡◌, ◌<◌, ◌++◌, take, drop, map, List}
use Rattle.std.specs.Prelude.{vec_len, vec_capacity}
use Rattle.std.specs.List.{All}
use Rattle.atomic_histories.specs.declared.stretches.Stretch.{Stretch}
use Rattle.atomic_histories.specs.declared.pairs.FollowedPair.{FollowedPair}
use Rattle.atomic_histories.specs.Followed.{pair_with_store}
use Rattle.atomic_histories.specs.Shown.{shown_all}
use Rattle.atomic_histories.proofs.kept.open_store.Given as goal

-- the pairs so far have the store, and those that are left have room for it
abbrev pub invariant-loop-pair : goal.invariant-loop-pair
invariant-loop-pair l = record {
  kept : (ss : List Stretch)
      → shown_all ss (take l.pair-index l.pairs) ++ map (pair_with_store l.number l.bytes) (shown_all ss (drop l.pair-index l.pairs))
      ≡ map (pair_with_store l.number l.bytes) (shown_all ss l.initial.pairs);
  room : All (λ (p : FollowedPair). vec_len p.stores < vec_capacity p.stores) (drop l.pair-index l.pairs);
}
