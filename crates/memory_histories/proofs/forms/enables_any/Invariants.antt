use Rattle.std.proofs.Common.{◌≡◌, ◌-◌}
use Rattle.memory_histories.specs.Regular.{enables_any}
use Rattle.memory_histories.proofs.forms.enables_any.Given as goal

-- what is left says what the whole does
abbrev pub invariant-loop-k : goal.invariant-loop-k
invariant-loop-k l = enables_any (l.length - l._k) l.left ≡ enables_any l.length l.enables
