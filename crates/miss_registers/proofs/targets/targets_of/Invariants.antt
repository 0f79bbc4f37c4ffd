use Rattle.std.proofs.Common.{◌≡◌, take}
use Rattle.miss_registers.specs.Targets.{waiting_for}
use Rattle.miss_registers.proofs.targets.targets_of.Given as goal

abbrev pub invariant-loop-target : goal.invariant-loop-target
invariant-loop-target l = l.found ≡ waiting_for l.i (take l.target-index l.targets)
