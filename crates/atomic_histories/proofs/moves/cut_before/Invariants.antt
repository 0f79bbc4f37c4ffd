use Rattle.std.proofs.Common.{true}
use Rattle.atomic_histories.specs.Pasts.{cut}
use Rattle.atomic_histories.specs.Shares.{AreMoved}
use Rattle.atomic_histories.proofs.moves.cut_before.Given as goal

-- the stretches so far were moved
abbrev pub invariant-loop-stretch : goal.invariant-loop-stretch
invariant-loop-stretch l = AreMoved (λ b. true) (cut l.since) l.stretch-index l.stretches l.moved
