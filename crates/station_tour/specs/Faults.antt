-- Which fault of the program another's is, and the status with which it ends.
use Rattle.std.specs.Prelude.{ℕ, Bool, true, false}
use Rattle.clap.specs.declared.error.kind.ErrorKind.{ErrorKind}
use Rattle.clap.specs.declared.error.kind.ErrorKind.TheVariants.{DisplayHelp, DisplayVersion}
use Rattle.clap.specs.Values.{kind_of}
use Rattle.flat_model.specs.declared.MakeFault.{MakeFault}
use Rattle.flat_model.specs.declared.MakeFault.TheVariants as made
use Rattle.station_parts.specs.declared.renewal.RenewFault.{RenewFault}
use Rattle.station_parts.specs.declared.renewal.RenewFault.TheVariants as renewed
use Rattle.ring_station.specs.declared.fault.RunFault.{RunFault}
use Rattle.ring_station.specs.declared.fault.RunFault.TheVariants as ran
use Rattle.ring_station.specs.declared.fault.SegmentFault.{SegmentFault}
use Rattle.ring_station.specs.declared.fault.SegmentFault.TheVariants.{Run, Renewal}
use Rattle.station_tour.specs.declared.fault.StationFault.{StationFault}
use Rattle.station_tour.specs.declared.fault.StationFault.TheVariants as program

-- of a station that isn't made
abbrev pub fault_of_making : MakeFault → StationFault
fault_of_making (made.BadShape field) = program.Shape
fault_of_making made.OutOfMemory = program.OutOfMemory

-- of a run
abbrev pub fault_of_run : RunFault → StationFault
fault_of_run ran.TurnLimit = program.TurnLimit
fault_of_run ran.OutOfMemory = program.OutOfMemory

-- of a run with a renewal behind it: want of memory is told as such
abbrev pub fault_of_renewal : RenewFault → StationFault
fault_of_renewal renewed.OutOfMemory = program.OutOfMemory
fault_of_renewal fault = program.Renewal fault

abbrev pub fault_of_segment : SegmentFault → StationFault
fault_of_segment (Run fault) = fault_of_run fault
fault_of_segment (Renewal fault) = fault_of_renewal fault

-- 1 is for an audit that isn't clean
abbrev pub status_of_renewal : RenewFault → ℕ
status_of_renewal (renewed.NotClean found) = 1
status_of_renewal fault = 5

abbrev pub status_of : StationFault → ℕ
status_of (program.Renewal fault) = status_of_renewal fault
status_of (program.CommandLine fault) = 2
status_of program.Shape = 3
status_of (program.Journal fault) = 4
status_of (program.Io fault) = 4
status_of program.TurnLimit = 5
status_of program.OutOfMemory = 5

-- help or the version, which were asked for
abbrev pub is_help_kind : ErrorKind → Bool
is_help_kind DisplayHelp = true
is_help_kind DisplayVersion = true
is_help_kind kind = false

abbrev pub is_help : StationFault → Bool
is_help (program.CommandLine told) = is_help_kind (kind_of told)
is_help fault = false
