use Rattle.std.proofs.Common.{take}
use Rattle.kroft_jobs.specs.Sweeping.{AreSwept}
use Rattle.kroft_jobs.proofs.rounds.sweep_each.Given as goal

-- the times of memory so far were swept
abbrev pub invariant-loop-timing : goal.invariant-loop-timing
invariant-loop-timing g l = AreSwept (take l.timing-index l.timings) l.machines l.requests l.swept.items
