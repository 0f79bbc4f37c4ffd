use Rattle.std.proofs.Common.{◌≡◌, ◌++◌}
use Rattle.run_pictures.specs.Places.{of_each, field_places}
use Rattle.run_pictures.proofs.place.push_register.Given as goal

-- the words so far
abbrev pub invariant-loop-i : goal.invariant-loop-i
invariant-loop-i l = l.places.items ≡ l.initial.places.items ++ of_each (field_places l.slot) l.i
