-- A picture: what stands at each place, and whether the last step changed it.
use Rattle.std.specs.Prelude.{◌≡◌, map, Some}
use Rattle.flat_model.specs.Flat.{flat_step}
use Rattle.flat_model.specs.Memory.{shown}
use Rattle.flat_model.specs.declared.image.Image.{Image}
use Rattle.flat_model.specs.Images.{flat_from}
use Rattle.machine_core.specs.Machine.{MachineState}
use Rattle.run_pictures.specs.declared.film.Film.{Film}
use Rattle.run_pictures.specs.declared.step.Made.{Made}
use Rattle.run_pictures.specs.Cells.{first_cell, cell_behind}
use Rattle.run_pictures.specs.Places.{places_in}

-- the film of a new machine over an image, with all places of its pictures
pub record Begins (image : Image) (s : MachineState) (f : Film) : Type 0 where
  pub owed : shown f.flat ≡ flat_from image s.sizes.words
  pub cells : f.cells.items ≡ map (first_cell s (shown f.flat)) (places_in s.sizes)

-- A film goes on by one picture: that of the machine behind an event, with what flat memory owes behind it.
pub record GoesOn (s : MachineState) (made : Made) (old new : Film) : Type 0 where
  pub owed : flat_step (shown old.flat) made.event made.answer ≡ Some (shown new.flat)
  pub cells : new.cells.items ≡ map (cell_behind s (shown new.flat)) old.cells.items
