use Rattle.std.proofs.Common.{◌≡◌, ◌++◌, drop}
use Rattle.memory_histories.specs.Parts.{joined_parts}
use Rattle.memory_histories.proofs.answered.add_joined.Given as goal

-- with those that are left it is the whole
abbrev pub invariant-loop-part : goal.invariant-loop-part
invariant-loop-part l = l.parts.items ++ joined_parts l.moment (drop l.part-index l.ending) l.unit
    ≡ l.initial.parts.items ++ joined_parts l.moment l.ending l.unit
