use Rattle.std.proofs.Common.{◌≡◌, ◌++◌}
use Rattle.run_pictures.specs.Places.{of_each, bank_places}
use Rattle.run_pictures.proofs.place.push_banks.Given as goal

-- the banks so far
abbrev pub invariant-loop-bank : goal.invariant-loop-bank
invariant-loop-bank l = l.places.items ≡ l.initial.places.items ++ of_each (bank_places l.sizes) l.bank
