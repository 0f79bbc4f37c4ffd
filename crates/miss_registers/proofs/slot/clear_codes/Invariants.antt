use Rattle.std.proofs.Common.{◌≡◌, ◌++◌, map, take, drop}
use Rattle.miss_registers.specs.Targets.{marks_without_code}
use Rattle.miss_registers.proofs.slot.clear_codes.Given as goal

abbrev pub invariant-loop-word : goal.invariant-loop-word
invariant-loop-word l =
    l.word-items ≡ map marks_without_code (take l.word-index l.initial.word-items) ++ drop l.word-index l.initial.word-items
