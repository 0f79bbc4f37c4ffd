-- The texts of faults.
use Rattle.std.specs.Prelude.{ℕ, List, codes}
use Rattle.ring_station.specs.declared.fault.RunFault.{RunFault}
use Rattle.ring_station.specs.declared.fault.RunFault.TheVariants.{TurnLimit, OutOfMemory}
use Rattle.ring_station.specs.declared.fault.SegmentFault.{SegmentFault}
use Rattle.ring_station.specs.declared.fault.SegmentFault.TheVariants.{Run, Renewal}
use Rattle.station_parts.specs.Texts.{renew_fault_text}

-- why a run gave no lists
abbrev pub run_fault_text : RunFault → List ℕ
run_fault_text TurnLimit = codes "turn limit"
run_fault_text OutOfMemory = codes "out of memory"

-- why a run gave no lists and no journal
abbrev pub segment_fault_text : SegmentFault → List ℕ
segment_fault_text (Run fault) = run_fault_text fault
segment_fault_text (Renewal fault) = renew_fault_text fault
