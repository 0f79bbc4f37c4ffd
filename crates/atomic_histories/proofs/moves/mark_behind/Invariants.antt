use Rattle.atomic_histories.specs.Shares.{AreClosed, StayUsed}
use Rattle.atomic_histories.proofs.moves.mark_behind.Given as goal

-- from here on those that are used refer to used ones
abbrev pub invariant-loop-place : goal.invariant-loop-place
invariant-loop-place l = record {
  closed : AreClosed l.used l.place l.stretches;
  stay : StayUsed l.initial.used l.used;
}
