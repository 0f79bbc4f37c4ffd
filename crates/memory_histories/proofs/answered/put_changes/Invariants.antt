use Rattle.std.proofs.Common.{◌≡◌, ◌≤◌, ℕ, length, nat_eq}
use Rattle.std.specs.HashMap.{get, spare}
use Rattle.memory_histories.specs.Shown.{answered_in, put_units}
use Rattle.memory_histories.proofs.answered.put_changes.Given as goal

-- with those that are left it is the whole, and there is room for them
abbrev pub invariant-loop-change : goal.invariant-loop-change
invariant-loop-change l = record {
  put : (unit : ℕ) → put_units (answered_in (get nat_eq l.units)) l.changes.items unit
      ≡ put_units (answered_in (get nat_eq l.initial.units)) l.initial.changes.items unit;
  room : length l.changes.items ≤ spare l.units;
}

abbrev pub decreases-loop-change : goal.decreases-loop-change
decreases-loop-change l = goal.left-loop-change l
