use Rattle.std.proofs.Common.{arith}
use Rattle.std.proofs.lemmas.Nat.Bits.{bit_at_above}
use Rattle.memory_histories.proofs.forms.is_enabled.Goals as goal

pub returns-else-place-lt64 : goal.returns-else-place-lt64
returns-else-place-lt64 c = grind (arith, bit_at_above c.args.enables 64 c.args.place)
