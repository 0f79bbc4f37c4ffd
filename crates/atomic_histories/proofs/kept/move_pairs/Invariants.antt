use Rattle.std.proofs.Common.{◌≡◌, ◌++◌, take, drop, map}
use Rattle.atomic_histories.specs.declared.pairs.FollowedPair.{FollowedPair}
use Rattle.atomic_histories.specs.Shares.{moved_to}
use Rattle.atomic_histories.proofs.kept.move_pairs.Given as goal

-- the pairs so far are moved, and those that are left are to be
abbrev pub invariant-loop-pair : goal.invariant-loop-pair
invariant-loop-pair l =
    take l.pair-index l.pairs ++ map (λ (p : FollowedPair). record { word = p.word; stores = p.stores; past = moved_to l.moved p.past })
    (drop l.pair-index l.pairs)
    ≡ map (λ (p : FollowedPair). record { word = p.word; stores = p.stores; past = moved_to l.moved p.past }) l.initial.pairs
