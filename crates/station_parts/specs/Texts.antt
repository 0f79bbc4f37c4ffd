-- The texts of what an audit finds, and of why a station wasn't renewed.
use Rattle.std.specs.Prelude.{ℕ, List, ◌++◌, codes, decimal}
use Rattle.station_parts.specs.declared.parts.Ring.{Ring}
use Rattle.station_parts.specs.declared.parts.Ring.TheVariants.{Asks, Told, Commands, Answers}
use Rattle.station_parts.specs.declared.parts.Audit.{Audit}
use Rattle.station_parts.specs.declared.parts.Audit.TheVariants.{Faulted, Left, Owed, Clean}
use Rattle.station_parts.specs.declared.renewal.RenewFault.{RenewFault}
use Rattle.station_parts.specs.declared.renewal.RenewFault.TheVariants.{WornOut, OutOfMemory, NotClean}

-- a ring, by its kind and its port or bank
abbrev pub ring_text : Ring → List ℕ
ring_text (Asks port) = codes "asks of port " ++ decimal port
ring_text (Told port) = codes "tellings of port " ++ decimal port
ring_text (Commands bank) = codes "commands of bank " ++ decimal bank
ring_text (Answers bank) = codes "answers of bank " ++ decimal bank

-- what an audit finds
abbrev pub audit_text : Audit → List ℕ
audit_text Faulted = codes "faulted"
audit_text (Left ring) = codes "left: " ++ ring_text ring
audit_text (Owed count) = codes "owed: " ++ decimal count
audit_text Clean = codes "clean"

-- why a station wasn't renewed
abbrev pub renew_fault_text : RenewFault → List ℕ
renew_fault_text WornOut = codes "worn out"
renew_fault_text OutOfMemory = codes "out of memory"
renew_fault_text (NotClean found) = codes "not clean, " ++ audit_text found
