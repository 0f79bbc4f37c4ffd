use Rattle.std.proofs.Common.{◌≡◌, drop}
use Rattle.memory_histories.specs.Regular.{has_enabled}
use Rattle.memory_histories.proofs.forms.has_enabled.Given as goal

-- what is left says what the whole does
abbrev pub invariant-loop-byte : goal.invariant-loop-byte
invariant-loop-byte l = has_enabled (drop l._byte-index l.bytes) l.left ≡ has_enabled l.bytes l.enables
