use Rattle.std.proofs.Common.{◌≡◌, ◌+◌, ◌≤◌, drop, length, nat_eq, Some}
use Rattle.std.specs.HashMap.{get, spare}
use Rattle.memory_histories.specs.declared.reasons.Owed.TheVariants as owed
use Rattle.memory_histories.specs.Flat.{with_bytes}
use Rattle.memory_histories.proofs.flat.write_bytes.Given as goal

-- what is left makes the whole, and there is room for it
abbrev pub invariant-loop-k : goal.invariant-loop-k
invariant-loop-k l = record {
  bytes : with_bytes (get nat_eq l.written) (λ b. Some (owed.Stored b l.fn.store)) (l.address + l.k) (drop l.k l.bytes) l.left
      ≡ with_bytes (get nat_eq l.initial.written) (λ b. Some (owed.Stored b l.fn.store)) l.address l.bytes l.enables;
  room : length l.bytes ≤ spare l.written + l.k;
}
