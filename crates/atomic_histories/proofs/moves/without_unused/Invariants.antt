use Rattle.atomic_histories.specs.Shares.{AreMoved, is_used}
use Rattle.atomic_histories.proofs.moves.without_unused.Given as goal

-- the stretches so far were moved
abbrev pub invariant-loop-place : goal.invariant-loop-place
invariant-loop-place l = AreMoved (is_used l.used.items) (λ p. p) l.place l.stretches l.moved
