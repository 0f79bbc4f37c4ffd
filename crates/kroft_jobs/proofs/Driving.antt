-- What was read and what was driven, as one answer.
use Rattle.std.proofs.Common.{◌≡◌, ℕ, true, List, [], ◌∷◌, ◌≤◌, Option, length, refl, sym, subst, inr}
use Rattle.std.specs.List.{AllByRecursion, list_all}
use Rattle.std.specs.Prelude.{Result, Ok, Err, IfErr}
use Rattle.kroft_jobs.specs.Words.{Event, TraceFault, LineFault, Access, LogFault, AccessGroup, Timing}
use Rattle.flat_model.specs.declared.Event.TheVariants.{Load, Store, Prefetch, Evict}
use Rattle.register_sweeps.specs.Machine.{MachineState}
use Rattle.trace_text.specs.Requests.{IsRequest}
use Rattle.trace_text.specs.Codes.{most_lines}
use Rattle.access_logs.specs.Formats.{lackey_access, din_access}
use Rattle.access_logs.specs.Reads.{LogSays, LogFails}
use Rattle.access_logs.specs.declared.fault.LogFault.TheVariants as log
use Rattle.round_driver.specs.Walks.{is_request}
use Rattle.kroft_jobs.specs.Asking.{Asks, AsksNothing}
use Rattle.kroft_jobs.specs.Driving.{IsToldAndDriven, DrivesAll}
use Rattle.kroft_jobs.specs.declared.asked.RequestText.{RequestText}
use Rattle.kroft_jobs.specs.declared.asked.RequestText.TheVariants.{Lackey, Din}

-- what is read as requests is asked as requests
pub all_requests : (events : List Event) → AllByRecursion IsRequest events → list_all is_request events ≡ true
all_requests [] all = refl
all_requests (Load tag at ∷ events) all = all_requests events all.1
all_requests (Store at word lanes ∷ events) all = all_requests events all.1
all_requests (Prefetch at ∷ events) all = all_requests events all.1
all_requests (Evict block ∷ events) all = all_requests events all.1
all_requests (event ∷ events) all = absurd all.0

-- a log has as many requests at most as a trace has lines
pub log_few : {R : Type 0} (gave : R → List ℕ → R → Type 0) (access_in : List ℕ → Result (Option Access) LineFault) (room : ℕ) (r r' : R)
    (requests : List Event) (groups : List AccessGroup)
    → LogSays gave access_in room r r' requests groups → length requests ≤ most_lines
log_few gave access_in room r r' requests groups said = subst (λ l. length l ≤ most_lines) (sym said.requests) said.fits.requests

module _ {R W E : Type 0} (gave : R → List ℕ → R → Type 0) (failed : R → R → Type 0) (took : W → List ℕ → W → Type 0)
    (refused : W → W → Type 0) (noted : E → List ℕ → E → Type 0) (unnoted unsettled : E → E → Type 0) (from : RequestText)
    (room : ℕ) (timing : Timing) (s : MachineState) (input input' : R) (output output' : W) (errors errors' : E)
    (requests : List Event) (groups : List AccessGroup) (asks : Asks gave from room input input' requests groups) where
  pub driven : (rounds : ℕ)
      → IsToldAndDriven took refused noted unnoted unsettled timing s requests output output' errors errors' (Ok rounds)
      → DrivesAll gave failed took refused noted unnoted unsettled from room timing s input input' output output' errors errors' (Ok rounds)
  driven rounds d = (requests, groups, asks, d)

  pub driven_not : (f : TraceFault)
      → IsToldAndDriven took refused noted unnoted unsettled timing s requests output output' errors errors' (Err f)
      → DrivesAll gave failed took refused noted unnoted unsettled from room timing s input input' output output' errors errors'
      (Err (log.Trace f))
  driven_not f d = inr (requests, groups, f, asks, refl, d)

-- a log that can't be read asks nothing
module _ {A R : Type 0} (gave : R → List ℕ → R → Type 0) (failed : R → R → Type 0) (from : RequestText) (room room' : ℕ) (input input' : R)
    (same : room ≡ room') where
  pub lackey_fails : from ≡ Lackey → (result : Result A LogFault) → IfErr result (LogFails gave failed lackey_access room input input')
      → IfErr result (AsksNothing gave failed from room' input input')
  lackey_fails is (Ok log) fails = fails
  lackey_fails is (Err f) fails =
      subst (λ k. AsksNothing gave failed k room' input input' f) (sym is)
      (subst (λ n. LogFails gave failed lackey_access n input input' f) same fails)

  pub din_fails : from ≡ Din → (result : Result A LogFault) → IfErr result (LogFails gave failed din_access room input input')
      → IfErr result (AsksNothing gave failed from room' input input')
  din_fails is (Ok log) fails = fails
  din_fails is (Err f) fails =
      subst (λ k. AsksNothing gave failed k room' input input' f) (sym is)
      (subst (λ n. LogFails gave failed din_access n input input' f) same fails)
