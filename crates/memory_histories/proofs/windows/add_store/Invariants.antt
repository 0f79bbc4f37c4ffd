use Rattle.std.proofs.Common.{◌≡◌, ◌+◌, ◌≤◌, ◌++◌, drop, length, vec_len, vec_capacity}
use Rattle.memory_histories.specs.Windows.{store_bytes}
use Rattle.memory_histories.proofs.windows.add_store.Given as goal

-- what is left makes the whole, and there is room for it
abbrev pub invariant-loop-k : goal.invariant-loop-k
invariant-loop-k l = record {
  items : l.stores.items ++ store_bytes l.number (l.address + l.k) (drop l.k l.bytes) l.left l.moment ≡ l.initial.stores.items
      ++ store_bytes l.number l.address l.bytes l.enables l.moment;
  room : vec_len l.stores + length l.bytes ≤ vec_capacity l.stores + l.k;
}
