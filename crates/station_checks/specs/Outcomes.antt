-- What the findings of a run come to.
use Rattle.std.specs.Prelude.{Bool, true, Option, Some, None}
use Rattle.station_parts.specs.declared.parts.Audit.{Audit}
use Rattle.station_parts.specs.declared.parts.Audit.TheVariants.{Clean, Faulted}
use Rattle.station_checks.specs.declared.findings.Findings.{Findings}
use Rattle.station_checks.specs.declared.findings.Outcome.{Outcome}
use Rattle.station_checks.specs.declared.findings.Outcome.TheVariants.{Good, TurnLimit, Failed}

-- by the audit, whether the journal is flat, and whether the lists are its parts, if there are lists
abbrev pub outcome_by : Audit → Bool → Option Bool → Outcome
outcome_by Clean true (Some true) = Good
outcome_by Faulted true None = Failed
outcome_by audit true None = TurnLimit
outcome_by audit flat told = Failed

abbrev pub outcome_of : Findings → Outcome
outcome_of found = outcome_by found.audit found.is_flat found.are_told
