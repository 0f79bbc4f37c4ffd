use Rattle.std.proofs.Common.{◌≡◌, ◌≤◌, ◌*◌, drop}
use Rattle.result_formats.specs.Accesses.{counted_all, counts_of, counts_total}
use Rattle.result_formats.proofs.accesses.count_accesses.Given as goal

-- the groups that are left count what all of them do
abbrev pub invariant-loop-group : goal.invariant-loop-group
invariant-loop-group l = record {
  counts : counts_of l.groups l.outcomes ≡ counted_all l.counts (drop l.group-index l.groups) l.left;
  total : counts_total l.counts ≤ 2 * l.group-index;
}
