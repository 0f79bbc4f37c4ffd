use Rattle.std.proofs.Common.{◌≡◌, ◌+◌, ◌-◌, ◌≤◌, ◌++◌, vec_len, vec_capacity, nat_eq}
use Rattle.std.specs.HashMap.{get}
use Rattle.memory_histories.specs.Shown.{answered_in}
use Rattle.memory_histories.proofs.ShownSets.{sets_of, from_unit}
use Rattle.memory_histories.proofs.kept.add_pieces.Given as goal

-- the bytes in the units that are left make the whole, and there is room for them
abbrev pub invariant-loop-unit : goal.invariant-loop-unit
invariant-loop-unit l =
    let sets = sets_of l.image l.rest (answered_in (get nat_eq l.units)) in
    let from = from_unit l.address l.length l.unit in
    record {
      items : l.sets.items ++ sets from (l.address + l.length - from) ≡ l.initial.sets.items ++ sets l.address l.length;
      room : vec_len l.sets + (l.address + l.length) ≤ vec_capacity l.sets + from;
    }
