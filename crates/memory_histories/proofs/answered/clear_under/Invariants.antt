use Rattle.std.proofs.Common.{◌≡◌, ◌++◌, take, drop, map}
use Rattle.memory_histories.specs.Parts.{without_part}
use Rattle.memory_histories.proofs.answered.clear_under.Given as goal

-- the parts so far are as they are to be, and those that are left are to be changed
abbrev pub invariant-loop-part : goal.invariant-loop-part
invariant-loop-part l = take l.part-index l.parts ++ map (without_part l.end.unit l.end) (drop l.part-index l.parts)
    ≡ map (without_part l.end.unit l.end) l.initial.parts
