use Rattle.std.proofs.Common.{◌≡◌, take}
use Rattle.kroft_jobs.specs.Jobs.{swept}
use Rattle.kroft_jobs.proofs.jobs.swept_machines.Given as goal

-- the machines so far
abbrev pub invariant-loop-regs : goal.invariant-loop-regs
invariant-loop-regs l = l.machines.items ≡ swept l.sizes (take l.regs-index l.registers)
