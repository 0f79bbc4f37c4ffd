-- The machine that is opened.
use Rattle.std.specs.Prelude.{ℕ, List, Option, Some, None}
use Rattle.machine_core.specs.Words.{Word, Sizes}
use Rattle.flat_model.specs.declared.ShapeField.{ShapeField}
use Rattle.flat_model.specs.declared.MakeFault as make
use Rattle.flat_model.specs.declared.MakeFault.TheVariants as make_fault
use Rattle.machine_core.specs.Machine.{MachineState, opening}
use Rattle.machine_core.specs.Whole.{bad_size}
use Rattle.machine_handles.specs.declared.made.OpenFault.{OpenFault}
use Rattle.machine_handles.specs.declared.made.OpenFault.TheVariants.{BadShape, OutOfMemory}

-- the machine of these numbers over an image, before its first event
abbrev pub opened : Sizes → List Word → MachineState
opened z image = record { sizes = z; machine = opening z image }

-- why it isn't made: `None`, where only memory can be wanting
abbrev pub refused_for : Option ShapeField → Option OpenFault
refused_for None = None
refused_for (Some field) = Some (BadShape field)

abbrev pub fault_in : Sizes → ℕ → Option OpenFault
fault_in z image = refused_for (bad_size z image)

abbrev pub why : Option OpenFault → OpenFault
why (Some fault) = fault
why None = OutOfMemory

abbrev pub open_fault_of : make.MakeFault → OpenFault
open_fault_of (make_fault.BadShape field) = BadShape field
open_fault_of make_fault.OutOfMemory = OutOfMemory
