use Rattle.std.proofs.Common.{◌≡◌, ◌++◌}
use Rattle.run_pictures.specs.Places.{of_each, register_places}
use Rattle.run_pictures.proofs.place.push_registers.Given as goal

-- the registers so far
abbrev pub invariant-loop-slot : goal.invariant-loop-slot
invariant-loop-slot l = l.places.items ≡ l.initial.places.items ++ of_each (register_places l.sizes.block_words) l.slot
