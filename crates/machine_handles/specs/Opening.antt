-- How C is told of a machine that it opens.
use Rattle.std.specs.Prelude.{◌≡◌, ◌≢◌, ℕ, if◌then◌else◌, Option, Some, None, is_some}
use Rattle.flat_model.specs.declared.ShapeField.{ShapeField}
use Rattle.flat_model.specs.declared.ShapeField.TheVariants.{BlockWords, Ways, Regs, Depth, Words, Sets, Banks, BankQueue, WriteQueue}
use Rattle.flat_model.specs.declared.ShapeField.TheVariants.{Replies, Ports, Journal, Image}
use Rattle.machine_core.specs.Machine.{MachineState}
use Rattle.machine_handles.specs.declared.views.ShapeRow.{ShapeRow}
use Rattle.machine_handles.specs.declared.made.OpenFault.{OpenFault}
use Rattle.machine_handles.specs.declared.made.OpenFault.TheVariants.{BadShape, OutOfMemory, OpenAlready}
use Rattle.machine_handles.specs.Rows.{sizes_of}
use Rattle.machine_handles.specs.Made.{fault_in}

abbrev pub field_number : ShapeField → ℕ
field_number BlockWords = 111
field_number Ways = 112
field_number Regs = 113
field_number Depth = 114
field_number Words = 115
field_number Sets = 116
field_number Banks = 117
field_number BankQueue = 118
field_number WriteQueue = 119
field_number Replies = 120
field_number Ports = 122
field_number Journal = 123
field_number Image = 121

abbrev pub fault_number : OpenFault → ℕ
fault_number (BadShape field) = field_number field
fault_number OutOfMemory = 101
fault_number OpenAlready = 102

-- why no machine is opened, by what stands behind the handle: `None`, where only memory can be wanting
abbrev pub open_fault : Option MachineState → ShapeRow → ℕ → Option OpenFault
open_fault m r image = if is_some m then Some OpenAlready else fault_in (sizes_of r) image

-- C is told of a fault by its number, and of none by 0, where there was memory
abbrev pub IsTold : ℕ → Option OpenFault → Type 0
IsTold status (Some fault) = status ≡ fault_number fault
IsTold status None = status ≢ fault_number OutOfMemory → status ≡ 0
