use Rattle.std.proofs.Common.{◌≡◌}
use Rattle.history_sessions.specs.Choices.{has_other}
use Rattle.history_sessions.proofs.choices.has_other.Given as goal

-- whether there was another so far
abbrev pub invariant-loop-other : goal.invariant-loop-other
invariant-loop-other l = l.found ≡ has_other l.set l.byte l.other
