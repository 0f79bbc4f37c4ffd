use Rattle.std.proofs.Common.{◌≡◌, ◌++◌, take, drop, map, List}
use Rattle.atomic_histories.specs.declared.stretches.Stretch.{Stretch}
use Rattle.atomic_histories.specs.Followed.{pair_without_store}
use Rattle.atomic_histories.specs.Shown.{shown_all}
use Rattle.atomic_histories.proofs.kept.end_stores.Given as goal

-- the pairs so far are without the store, and those that are left are to be
abbrev pub invariant-loop-pair : goal.invariant-loop-pair
invariant-loop-pair l = (ss : List Stretch)
    → shown_all ss (take l.pair-index l.pairs) ++ map (pair_without_store l.number) (shown_all ss (drop l.pair-index l.pairs))
    ≡ map (pair_without_store l.number) (shown_all ss l.initial.pairs)
