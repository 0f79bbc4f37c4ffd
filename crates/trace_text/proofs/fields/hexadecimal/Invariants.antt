use Rattle.std.proofs.Common.{◌≡◌, ◌<◌, ◌^◌, drop, length}
use Rattle.trace_text.specs.Fields.{hex_after}
use Rattle.trace_text.proofs.fields.hexadecimal.Given as goal

-- the number that the rest of the digits make of the value so far is that of them all
abbrev pub invariant-loop-byte : goal.invariant-loop-byte
invariant-loop-byte l = record {
  rest : hex_after l.value (drop l.byte-index l.text) ≡ hex_after 0 l.text;
  small : l.value < 2 ^ 64;
  some : 0 < length l.text;
}
