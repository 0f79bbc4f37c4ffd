use Rattle.std.proofs.Common.{◌≡◌, ◌+◌, ◌*◌, ◌≤◌, ◌++◌, length}
use Rattle.std.specs.Option.{option_map}
use Rattle.history_text.specs.Fields.{bytes_in}
use Rattle.history_text.proofs.fields.digit_pairs.Given as goal

-- the bytes so far, and those of the rest of the digits, are the bytes of them all
abbrev pub invariant-pairs : goal.invariant-pairs
invariant-pairs l = record {
  whole : bytes_in l.text ≡ option_map (λ more. l.bytes.items ++ more) (bytes_in l.rest);
  room : 2 * length l.bytes.items + length l.rest ≤ 128;
}

abbrev pub decreases-pairs : goal.decreases-pairs
decreases-pairs l = length l.rest
