-- The status with which the program ends.
use Rattle.std.specs.Prelude.{◌≡◌, ◌↔◌, ◌⊎◌, ◌≤◌, ℕ, true, MatchBool}
use Rattle.std.specs.declared.result.Result.{Result}
use Rattle.std.specs.declared.result.Result.TheVariants.{Ok, Err}
use Rattle.station_checks.specs.declared.findings.Outcome.TheVariants.{Good}
use Rattle.station_checks.specs.Outcomes.{outcome_of}
use Rattle.station_tour.specs.declared.fault.StationFault.{StationFault}
use Rattle.station_tour.specs.declared.seen.Seen.{Seen}
use Rattle.station_tour.specs.declared.seen.Seen.TheVariants.{Tour, Soak, Rates}
use Rattle.station_tour.specs.Faults.{status_of, is_help}

-- nothing wrong was found
abbrev pub IsGood : Seen → Type 0
IsGood (Tour found) = outcome_of found ≡ Good
IsGood (Soak soaked) = soaked.failed ≡ 0
IsGood (Rates all_good) = all_good ≡ true

-- 0 if nothing wrong was found, and else 1
pub record IsStatus (seen : Seen) (status : ℕ) : Type 0 where
  pub good : (status ≡ 0) ↔ IsGood seen
  pub few : status ≤ 1

-- the program ends with this status: help that was asked for is told with 0, or with 4 if the stream failed
abbrev pub ComesTo : Result Seen StationFault → ℕ → Type 0
ComesTo (Ok seen) status = IsStatus seen status
ComesTo (Err fault) status = MatchBool (is_help fault) ((status ≡ 0) ⊎ (status ≡ 4)) (status ≡ status_of fault)
