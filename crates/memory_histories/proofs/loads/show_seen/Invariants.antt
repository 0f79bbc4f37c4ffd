use Rattle.std.proofs.Common.{◌≡◌, drop}
use Rattle.memory_histories.specs.Loads.{all_shown_sets}
use Rattle.memory_histories.proofs.loads.show_seen.Given as goal

-- with the parts that are left they are as they are to be
abbrev pub invariant-loop-part : goal.invariant-loop-part
invariant-loop-part l = all_shown_sets (drop l.part-index l.parts) l.address l.sets ≡ all_shown_sets l.parts l.address l.initial.sets
