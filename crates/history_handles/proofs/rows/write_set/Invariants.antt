use Rattle.std.proofs.Common.{◌≡◌, ℕ, ◌<◌, ◌*◌, get_or}
use Rattle.memory_histories.specs.Sets.{has}
use Rattle.history_handles.specs.Rows.{octet}
use Rattle.history_handles.proofs.rows.write_set.Given as goal

abbrev pub invariant-loop-n : goal.invariant-loop-n
invariant-loop-n l = (k : ℕ) → k < l.n → get_or l.row k 0 ≡ octet (has l.set) (8 * k)
