use Rattle.std.proofs.Common.{◌≡◌, ◌++◌, drop, List}
use Rattle.atomic_histories.specs.declared.stretches.Stretch.{Stretch}
use Rattle.atomic_histories.specs.Followed.{gathered, pair_got}
use Rattle.atomic_histories.specs.Parts.{AreParts}
use Rattle.atomic_histories.specs.Shown.{shown_all, AreIn}
use Rattle.atomic_histories.proofs.answers.pairs_got.Given as goal

-- with those that are left it is the whole
abbrev pub invariant-loop-pair : goal.invariant-loop-pair
invariant-loop-pair l = record {
  shown : (ss : List Stretch) → AreParts l.unit l.bytes l.load ss l.split l.pairs
      → shown_all ss l.parts.items ++ gathered (pair_got l.unit l.bytes l.load) (shown_all ss (drop l.pair-index l.pairs))
      ≡ gathered (pair_got l.unit l.bytes l.load) (shown_all ss l.pairs);
  are_in : (ss : List Stretch) → AreParts l.unit l.bytes l.load ss l.split l.pairs → AreIn ss l.parts.items;
}
