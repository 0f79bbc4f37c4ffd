use Rattle.std.proofs.Common.{◌≡◌, ◌++◌, drop}
use Rattle.history_reasons.specs.Sources.{at_request}
use Rattle.history_reasons.proofs.givers.at_request.Given as goal

-- those that are taken, and those of the stores that are left, are all of them
abbrev pub invariant-loop-store : goal.invariant-loop-store
invariant-loop-store l = l.taken.items ++ at_request l.load (drop l.store-index l.stores) ≡ at_request l.load l.stores
