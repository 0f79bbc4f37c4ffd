-- What the stations of a soak come to, and what is told of them.
use Rattle.std.specs.Prelude.{ℕ, ◌+◌, ◌-◌, ◌%◌, ◌==◌, Bool, true, false, if◌then◌else◌, List, [], ◌++◌, codes, decimal}
use Rattle.station_checks.specs.declared.findings.Outcome.{Outcome}
use Rattle.station_checks.specs.declared.findings.Outcome.TheVariants.{Good, TurnLimit, Failed}
use Rattle.station_checks.specs.Texts.{line_of}
use Rattle.station_checks.specs.Outcomes.{outcome_of}
use Rattle.station_checks.specs.Literals.{field_literal, findings_literal}
use Rattle.station_tour.specs.declared.soak.TheConstants.{STEP}
use Rattle.station_tour.specs.declared.soak.Looked.{Looked}
use Rattle.station_tour.specs.declared.soak.Soaked.{Soaked}

-- how many stations were counted
abbrev pub stations_in : Soaked → ℕ
stations_in soaked = soaked.good + soaked.turn_limits + soaked.failed

-- with one station more
abbrev pub with_outcome : Soaked → Outcome → Soaked
with_outcome soaked Good = record soaked { good = soaked.good + 1 }
with_outcome soaked TurnLimit = record soaked { turn_limits = soaked.turn_limits + 1 }
with_outcome soaked Failed = record soaked { failed = soaked.failed + 1 }

-- what was looked at comes to this: a run that has to come to its end comes to no limit
abbrev pub without_limit : Bool → Outcome → Outcome
without_limit true TurnLimit = Failed
without_limit has_to_end outcome = outcome

abbrev pub looked_outcome : Looked → Outcome
looked_outcome looked = without_limit looked.has_to_end (outcome_of looked.findings)

abbrev pub is_failed : Outcome → Bool
is_failed Failed = true
is_failed outcome = false

-- ---- texts

abbrev pub looked_literal : Looked → List ℕ
looked_literal looked =
    codes "Looked { findings: " ++ (findings_literal looked.findings ++ (codes ", "
    ++ (field_literal (codes "has_to_end") looked.has_to_end ++ codes " }")))

-- a station is told of if something wrong was found in it
abbrev pub looked_text : ℕ → Looked → List ℕ
looked_text number looked =
    if is_failed (looked_outcome looked) then codes "station " ++ (decimal number ++ (codes ": " ++ line_of (looked_literal looked)))
    else []

-- the last station of each step tells how far the soak is
abbrev pub step_text : ℕ → ℕ → List ℕ
step_text number failed =
    if number % STEP == STEP - 1 then codes "station " ++ (decimal number ++ (codes ": " ++ (decimal failed ++ line_of (codes " failed so far"))))
    else []

abbrev pub soak_text : ℕ → Soaked → List ℕ
soak_text stations soaked =
    decimal stations ++ (codes " stations, " ++ (decimal soaked.failed ++ (codes " failed, "
    ++ (decimal soaked.turn_limits ++ line_of (codes " turn limits")))))
