use Rattle.std.proofs.Common.{◌≡◌, ◌++◌, take, drop, map}
use Rattle.memory_histories.specs.Kept.{after_stores}
use Rattle.memory_histories.specs.Parts.{part_bytes}
use Rattle.memory_histories.specs.Loads.{loads_open}
use Rattle.memory_histories.proofs.loads.show_part.Given as goal

-- the loads so far are as they are to be, and those that are left are to be changed
abbrev pub invariant-loop-load : goal.invariant-loop-load
invariant-loop-load l = loads_open (take l.load-index l.loads)
    ++ map (after_stores (part_bytes l.part)) (loads_open (drop l.load-index l.loads))
    ≡ map (after_stores (part_bytes l.part)) (loads_open l.initial.loads)
