use Rattle.std.proofs.Common.{◌≡◌, take, nat_lt}
use Rattle.std.specs.Prelude.{count_by}
use Rattle.uses.specs.Lookups.{total}
use Rattle.uses.proofs.own_order.count_lookups.Given as goal

abbrev pub invariant-loop-k : goal.invariant-loop-k
invariant-loop-k l = (total l.lookups ≡ count_by (λ at. nat_lt at l.initial.machine.sizes.words) (take l.k l.addresses)) ×
    (l.machine.sizes ≡ l.initial.machine.sizes)
