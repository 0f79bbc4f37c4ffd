use Rattle.std.proofs.Common.{◌≡◌, ◌≤◌, length}
use Rattle.std.specs.List.{filter, range_with_len}
use Rattle.history_sessions.specs.Words.{has}
use Rattle.history_text.proofs.answers.bytes_in_set.Given as goal

-- those of the set that are smaller
abbrev pub invariant-loop-byte : goal.invariant-loop-byte
invariant-loop-byte l = record {
  smaller : l.bytes.items ≡ filter (has l.set) (range_with_len 0 l.byte);
  few : length l.bytes.items ≤ l.byte;
}
