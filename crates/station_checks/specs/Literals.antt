-- What was found of a station, as the values are written in the code.
use Rattle.std.specs.Prelude.{ℕ, Bool, if◌then◌else◌, List, ◌++◌, Option, Some, None, codes, decimal}
use Rattle.station_parts.specs.declared.parts.Ring.{Ring}
use Rattle.station_parts.specs.declared.parts.Ring.TheVariants.{Asks, Told, Commands, Answers}
use Rattle.station_parts.specs.declared.parts.Audit.{Audit}
use Rattle.station_parts.specs.declared.parts.Audit.TheVariants.{Faulted, Left, Owed, Clean}
use Rattle.station_checks.specs.declared.findings.Findings.{Findings}

abbrev pub ring_literal : Ring → List ℕ
ring_literal (Asks port) = codes "Asks(" ++ decimal port ++ codes ")"
ring_literal (Told port) = codes "Told(" ++ decimal port ++ codes ")"
ring_literal (Commands bank) = codes "Commands(" ++ decimal bank ++ codes ")"
ring_literal (Answers bank) = codes "Answers(" ++ decimal bank ++ codes ")"

abbrev pub audit_literal : Audit → List ℕ
audit_literal Faulted = codes "Faulted"
audit_literal (Left ring) = codes "Left { ring: " ++ ring_literal ring ++ codes " }"
audit_literal (Owed count) = codes "Owed { count: " ++ decimal count ++ codes " }"
audit_literal Clean = codes "Clean"

-- a field with a truth value
abbrev pub field_literal : List ℕ → Bool → List ℕ
field_literal name b = name ++ (codes ": " ++ (if b then codes "true" else codes "false"))

abbrev pub told_literal : Option Bool → List ℕ
told_literal None = codes "None"
told_literal (Some told) = codes "Some(" ++ (if told then codes "true" else codes "false") ++ codes ")"

abbrev pub findings_literal : Findings → List ℕ
findings_literal found =
    codes "Findings { audit: " ++ (audit_literal found.audit ++ (codes ", " ++ (field_literal (codes "is_flat") found.is_flat
    ++ (codes ", are_told: " ++ (told_literal found.are_told ++ codes " }")))))
