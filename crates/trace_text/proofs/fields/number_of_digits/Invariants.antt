use Rattle.std.proofs.Common.{◌≡◌, ◌≤◌, drop, false}
use Rattle.trace_text.specs.Fields.{begins_badly, number_after}
use Rattle.trace_text.proofs.fields.number_of_digits.Given as goal

-- the number that the rest of the digits make of the value so far is that of them all
abbrev pub invariant-loop-byte : goal.invariant-loop-byte
invariant-loop-byte l = record {
  rest : number_after l.most l.value (drop l.byte-index l.text) ≡ number_after l.most 0 l.text;
  small : l.value ≤ l.most;
  good : begins_badly l.text ≡ false;
}
