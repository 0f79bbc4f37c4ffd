use Rattle.std.proofs.Common.{◌≡◌, ◌++◌, drop, map, List}
use Rattle.atomic_histories.specs.declared.stretches.Before.{Before}
use Rattle.atomic_histories.specs.declared.stretches.Stretch.{Stretch}
use Rattle.atomic_histories.specs.declared.pairs.FollowedPair.{FollowedPair}
use Rattle.atomic_histories.specs.Shares.{moved_to}
use Rattle.atomic_histories.specs.Shown.{shown, shown_all, IsIn, AreIn}
use Rattle.atomic_histories.proofs.kept.moved_pairs.Given as goal

-- with those that are left it is the whole
abbrev pub invariant-loop-pair : goal.invariant-loop-pair
invariant-loop-pair l = record {
  shown : (ss : List Stretch)
      → shown_all ss l.copied.items ++ map
      (λ (p : FollowedPair). shown ss (record { word = p.word; stores = p.stores; past = moved_to l.moved p.past }))
      (drop l.pair-index l.pairs)
      ≡ map (λ (p : FollowedPair). shown ss (record { word = p.word; stores = p.stores; past = moved_to l.moved p.past })) l.pairs;
  are_in : (ss : List Stretch) → ((b : Before) → IsIn ss (moved_to l.moved b)) → AreIn ss l.copied.items;
}
