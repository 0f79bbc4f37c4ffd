use Rattle.std.proofs.Common.{◌≡◌, ◌++◌}
use Rattle.run_pictures.specs.Places.{all}
use Rattle.run_pictures.proofs.place.push_all.Given as goal

-- the places so far
abbrev pub invariant-loop-n : goal.invariant-loop-n
invariant-loop-n l = l.places.items ≡ l.initial.places.items ++ all l.first l.n
