use Rattle.std.proofs.Common.{◌≡◌, ◌++◌, take, drop, map}
use Rattle.atomic_histories.specs.declared.pairs.FollowedPair.{FollowedPair}
use Rattle.atomic_histories.specs.declared.stretches.Before.TheVariants.{Nothing}
use Rattle.atomic_histories.proofs.kept.drop_pasts.Given as goal

-- the pairs so far have no past, and those that are left are to have none
abbrev pub invariant-loop-pair : goal.invariant-loop-pair
invariant-loop-pair l =
    take l.pair-index l.pairs ++ map (λ (p : FollowedPair). record { word = p.word; stores = p.stores; past = Nothing })
    (drop l.pair-index l.pairs)
    ≡ map (λ (p : FollowedPair). record { word = p.word; stores = p.stores; past = Nothing }) l.initial.pairs
