use Rattle.std.proofs.Common.{◌≡◌, true, take}
use Rattle.atomic_histories.specs.Stands.{Each}
use Rattle.atomic_histories.specs.Shares.{is_used}
use Rattle.atomic_histories.proofs.moves.mark_pairs.Given as goal

-- what the pairs so far refer to is used
abbrev pub invariant-loop-pair : goal.invariant-loop-pair
invariant-loop-pair l = Each (λ p. is_used l.used p.past ≡ true) (take l.pair-index l.pairs)
