use Rattle.std.proofs.Common.{◌≡◌, ◌++◌, map, drop}
use Rattle.atomic_histories.specs.Marks.{mark}
use Rattle.atomic_histories.proofs.followed.note_pairs.Given as goal

-- with those that are left it is the whole
abbrev pub invariant-loop-pair : goal.invariant-loop-pair
invariant-loop-pair l = l.marks.items ++ map mark (drop l.pair-index l.pairs) ≡ map mark l.pairs
