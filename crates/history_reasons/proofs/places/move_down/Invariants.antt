use Rattle.std.proofs.Common.{◌≡◌, ◌++◌, take, drop, map}
use Rattle.history_reasons.specs.Places.{moved_down}
use Rattle.history_reasons.proofs.places.move_down.Given as goal

-- the places so far are as they are to be, and those that are left are to be moved
abbrev pub invariant-loop-place : goal.invariant-loop-place
invariant-loop-place l =
    take l.place-index l.places ++ map (moved_down l.count) (drop l.place-index l.places) ≡ map (moved_down l.count) l.initial.places
