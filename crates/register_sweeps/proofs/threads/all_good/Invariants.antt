use Rattle.std.proofs.Common.{◌≡◌, drop}
use Rattle.register_sweeps.specs.Sweep.{bad_from}
use Rattle.register_sweeps.proofs.threads.all_good.Given as goal

-- none so far has a number out of its range
abbrev pub invariant-loop-place : goal.invariant-loop-place
invariant-loop-place g l = bad_from g.S.Ranged.bad 0 l.all ≡ bad_from g.S.Ranged.bad l.place (drop l.place l.all)
