use Rattle.std.proofs.Common.{◌≡◌, ◌+◌, ◌-◌, ◌≤◌, ◌++◌, vec_len, vec_capacity, nat_eq}
use Rattle.std.specs.HashMap.{get}
use Rattle.memory_histories.specs.Flat.{asked, owed_bytes}
use Rattle.memory_histories.specs.FlatShown.{standing}
use Rattle.memory_histories.proofs.flat.add_load.Given as goal

-- what is left makes the whole, and there is room for it
abbrev pub invariant-loop-k : goal.invariant-loop-k
invariant-loop-k l =
    let owed = owed_bytes (asked (standing l.image l.rest (get nat_eq l.written)) l.address l.enables) l.number in
    record {
      items : l.loads.items ++ owed (l.address + l.k) (l.length - l.k) ≡ l.initial.loads.items ++ owed l.address l.length;
      room : vec_len l.loads + l.length ≤ vec_capacity l.loads + l.k;
    }
