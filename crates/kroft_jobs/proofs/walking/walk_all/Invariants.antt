use Rattle.std.proofs.Common.{◌≡◌, drop}
use Rattle.kroft_jobs.specs.Walking.{walked, walk_along, walk_of}
use Rattle.kroft_jobs.proofs.walking.walk_all.Given as goal

abbrev pub invariant-loop-k : goal.invariant-loop-k
invariant-loop-k l = walked l.initial.machine l.all ≡ walk_along l.k l.machine (drop l.k l.all) (walk_of l.run)
