use Rattle.std.proofs.Common.{◌≡◌, ◌≤◌, drop, false}
use Rattle.trace_text.specs.Fields.{begins_badly, number_after}
use Rattle.history_text.specs.Fields.{most_number}
use Rattle.history_text.proofs.fields.decimal.Given as goal

-- the number that the rest of the digits make of the value so far is that of them all
abbrev pub invariant-loop-byte : goal.invariant-loop-byte
invariant-loop-byte l = record {
  rest : number_after most_number l.value (drop l.byte-index l.text) ≡ number_after most_number 0 l.text;
  small : l.value ≤ most_number;
  good : begins_badly l.text ≡ false;
}
