use Rattle.std.proofs.Common.{◌≡◌, ◌++◌, take, drop, map}
use Rattle.memory_histories.specs.Parts.{without_parts}
use Rattle.memory_histories.proofs.answered.clear_overwritten.Given as goal

-- the parts so far are as they are to be, and those that are left are to be changed
abbrev pub invariant-loop-part : goal.invariant-loop-part
invariant-loop-part l = take l.part-index l.parts ++ map (without_parts l.unit l.ending) (drop l.part-index l.parts)
    ≡ map (without_parts l.unit l.ending) l.initial.parts
