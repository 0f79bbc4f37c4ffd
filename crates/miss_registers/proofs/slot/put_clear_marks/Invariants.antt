use Rattle.std.proofs.Common.{◌≡◌, replicate}
use Rattle.miss_registers.specs.Targets.{clear_marks}
use Rattle.miss_registers.proofs.slot.put_clear_marks.Given as goal

abbrev pub invariant-loop : goal.invariant-loop
invariant-loop l = l.marks.items ≡ replicate l.counter clear_marks
