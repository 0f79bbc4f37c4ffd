use Rattle.std.proofs.Common.{◌≡◌, ◌+◌, ◌++◌, length, replicate}
use Rattle.trace_text.proofs.text.LineText.push_zeros.Given as goal

abbrev pub invariant-loop : goal.invariant-loop
invariant-loop l = record {
  zeros : l.self ≡ l.fn.self ++ replicate l.counter 48;
  len : length l.self ≡ length l.fn.self + l.counter;
}
