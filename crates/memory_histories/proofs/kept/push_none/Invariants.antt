use Rattle.std.proofs.Common.{◌≡◌, ◌+◌, ◌≤◌, ◌++◌, replicate, vec_len, vec_capacity}
use Rattle.memory_histories.specs.Sets.{no_bytes}
use Rattle.memory_histories.proofs.kept.push_none.Given as goal

-- so many are added, and there is room for the others
abbrev pub invariant-loop-k : goal.invariant-loop-k
invariant-loop-k l = record {
  items : l.sets.items ≡ l.initial.sets.items ++ replicate l._k no_bytes;
  len : vec_len l.sets ≡ vec_len l.initial.sets + l._k;
  room : vec_len l.initial.sets + 8 ≤ vec_capacity l.sets;
  capacity : vec_capacity l.sets ≡ vec_capacity l.initial.sets;
}
