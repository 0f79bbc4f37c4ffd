use Rattle.std.proofs.Common.{length}
use Rattle.history_text.proofs.fields.+enable_bits.Given as goal

abbrev pub decreases-enable_bits : goal.decreases-enable_bits
decreases-enable_bits l = length l.digits.now
