use Rattle.std.proofs.Common.{◌≡◌, ◌+◌, ◌≤◌, ℕ, length, nat_eq}
use Rattle.std.specs.HashMap.{get, spare}
use Rattle.atomic_histories.specs.Judge.{put_from}
use Rattle.atomic_histories.proofs.units.put_units.Given as goal

-- with those that are left it is the whole, and there is room for them
abbrev pub invariant-loop-unit : goal.invariant-loop-unit
invariant-loop-unit l = record {
  put : (k : ℕ) → put_from (get nat_eq l.units) l.from l.changes.items k ≡ put_from
      (get nat_eq l.initial.units) l.from l.initial.changes.items k;
  room : length l.changes.items ≤ spare l.units;
  fits : l.from + length l.changes.items ≤ 18446744073709551616;
}

abbrev pub decreases-loop-unit : goal.decreases-loop-unit
decreases-loop-unit l = goal.left-loop-unit l
