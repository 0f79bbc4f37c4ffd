use Rattle.std.proofs.Common.{◌≡◌, ◌++◌}
use Rattle.run_pictures.specs.Places.{of_each, frame_places}
use Rattle.run_pictures.proofs.place.push_frames.Given as goal

-- the frames so far
abbrev pub invariant-loop-frame : goal.invariant-loop-frame
invariant-loop-frame l = l.places.items ≡ l.initial.places.items ++ of_each (frame_places l.sizes.block_words) l.frame
