use Rattle.std.proofs.Common.{◌≡◌, ◌≤◌, length}
use Rattle.flat_judge.specs.Table.{owed_below, nth_tag}
use Rattle.flat_judge.proofs.table.open_below.Given as goal

abbrev pub invariant-loop-number : goal.invariant-loop-number
invariant-loop-number l =
    (l.open ≡ length (owed_below l.due l.number)) × (l.open ≤ l.number) × (l.nth ≡ nth_tag l.initial.nth (owed_below l.due l.number) l.n)
