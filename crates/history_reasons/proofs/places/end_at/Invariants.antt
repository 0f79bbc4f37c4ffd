use Rattle.std.proofs.Common.{◌≡◌, drop}
use Rattle.history_reasons.specs.Places.{ended_at}
use Rattle.history_reasons.proofs.places.end_at.Given as goal

-- the places that are left make of the bytes what all were to
abbrev pub invariant-loop-place : goal.invariant-loop-place
invariant-loop-place l =
    ended_at (drop l.place-index l.places) l.number l.moment l.stores ≡ ended_at l.places l.number l.moment l.initial.stores
