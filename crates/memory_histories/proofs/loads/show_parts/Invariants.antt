use Rattle.std.proofs.Common.{◌≡◌, drop, map}
use Rattle.memory_histories.specs.Kept.{after_stores}
use Rattle.memory_histories.specs.Parts.{parts_bytes}
use Rattle.memory_histories.specs.Loads.{load_open}
use Rattle.memory_histories.proofs.loads.show_parts.Given as goal

-- with the parts that are left it is as it is to be
abbrev pub invariant-loop-part : goal.invariant-loop-part
invariant-loop-part l = map (after_stores (parts_bytes (drop l.part-index l.parts))) (load_open l.load)
    ≡ map (after_stores (parts_bytes l.parts)) (load_open l.initial.load)
