use Rattle.std.proofs.Common.{ℕ, ◌≡◌, ◌+◌, ◌-◌, ◌≤◌, ◌++◌, map, vec_len, vec_capacity}
use Rattle.std.specs.List.{range_with_len}
use Rattle.memory_histories.specs.Kept.{first_set_at}
use Rattle.memory_histories.specs.Parts.{parts_bytes}
use Rattle.memory_histories.proofs.kept.add_each_first.Given as goal

-- what is left makes the whole, and there is room for it
abbrev pub invariant-loop-k : goal.invariant-loop-k
invariant-loop-k l =
    let first = λ (a n : ℕ). map (first_set_at l.memory.0.now l.memory.1 (parts_bytes l.answered)) (range_with_len a n) in
    record {
      items : l.sets.items ++ first (l.address + l.k) (l.length - l.k) ≡ l.initial.sets.items ++ first l.address l.length;
      len : vec_len l.sets ≡ vec_len l.initial.sets + l.k;
      room : vec_len l.sets + l.length ≤ vec_capacity l.sets + l.k;
      capacity : vec_capacity l.sets ≡ vec_capacity l.initial.sets;
    }
