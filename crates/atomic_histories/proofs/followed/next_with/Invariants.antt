use Rattle.std.proofs.Common.{◌≡◌, ◌+◌, ◌-◌, ◌≤◌, length, drop}
use Rattle.atomic_histories.specs.Marks.{before_mark}
use Rattle.atomic_histories.proofs.followed.next_with.Given as goal

-- none of the marks so far is this one
abbrev pub invariant-loop-at : goal.invariant-loop-at
invariant-loop-at l = record {
  place : l.at + before_mark l.mark (drop l.at l.marks) ≡ l.from + before_mark l.mark (drop l.from l.marks);
  least : l.from ≤ l.at;
  most : l.at ≤ length l.marks;
}

abbrev pub decreases-loop-at : goal.decreases-loop-at
decreases-loop-at l = length l.marks - l.at
