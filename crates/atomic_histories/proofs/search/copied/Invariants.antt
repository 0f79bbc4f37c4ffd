use Rattle.std.proofs.Common.{◌≡◌, ◌++◌, List, drop}
use Rattle.atomic_histories.specs.declared.stretches.Stretch.{Stretch}
use Rattle.atomic_histories.specs.Shown.{shown_all, AreIn}
use Rattle.atomic_histories.proofs.search.copied.Given as goal

-- with those that are left it is the whole
abbrev pub invariant-loop-pair : goal.invariant-loop-pair
invariant-loop-pair l = record {
  shown : (ss : List Stretch) → shown_all ss l.same.items ++ shown_all ss (drop l.pair-index l.pairs) ≡ shown_all ss l.pairs;
  are_in : (ss : List Stretch) → AreIn ss l.pairs → AreIn ss (l.same.items ++ drop l.pair-index l.pairs);
}
