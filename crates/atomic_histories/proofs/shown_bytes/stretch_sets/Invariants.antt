use Rattle.std.proofs.Common.{◌≡◌, ◌++◌, ◌∷◌, [], fold, drop}
use Rattle.atomic_histories.specs.MaySets.{stretch_set, stretch_sets}
use Rattle.atomic_histories.proofs.shown_bytes.stretch_sets.Given as goal

-- with those that are left it is the whole
abbrev pub invariant-loop-stretch : goal.invariant-loop-stretch
invariant-loop-stretch l =
    fold (λ sets s. sets ++ stretch_set l.since l.lane sets s ∷ []) l.sets.items (drop l.stretch-index l.stretches) ≡ stretch_sets l.since
    l.lane l.stretches
