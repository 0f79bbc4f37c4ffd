use Rattle.std.proofs.Common.{◌≡◌, ◌+◌, ◌-◌, ◌≤◌}
use Rattle.round_driver.specs.Machines.{used_among}
use Rattle.round_driver.proofs.machine.used_among.Given as goal

-- what is counted, and what is left, is all of it
abbrev pub invariant-loop-slot : goal.invariant-loop-slot
invariant-loop-slot l = (used_among l.machine l.number 0 ≡ l.used + used_among l.machine (l.number - l.slot) l.slot) × (l.used ≤ l.slot)
