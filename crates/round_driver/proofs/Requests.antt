-- A request that isn't ended leaves the machine as it was, and one to a machine at rest ends.
use Rattle.std.proofs.Common.{◌≡◌, true, false, List, Option, Some, None, refl, arith}
use Rattle.std.proofs.Common.{lt-ltb, le-ltb}
use Rattle.std.proofs.lemmas.Bool.{cases_lt}
use Rattle.machine_core.specs.Words.{Cause, Event, Load, Store, Prefetch, Evict, Answer, Accepted}
use Rattle.machine_core.specs.Banks.{Bank}
use Rattle.machine_core.specs.State.{Cache}
use Rattle.machine_core.specs.Causes.{load_cause, store_cause, prefetch_cause}
use Rattle.machine_core.specs.Steps.{Stepped, unless, load_step, store_step, prefetch_step, evict_step}
use Rattle.machine_core.specs.Machine.{MachineState, apply, joined_with}
use Rattle.machine_core.specs.Law.{serves_eviction, ServesRequests}
use Rattle.machine_core.specs.AnyMachine.{answered, after_event}
use Rattle.round_driver.specs.Rounds.{is_end}
use Rattle.round_driver.specs.Walks.{is_request}

-- ---- a request that isn't ended leaves the machine as it was

refused_stays : (banks : List Bank) (c : Cache) (why : Option Cause) (step : Stepped) → step.answer ≡ Accepted
    → is_end (joined_with banks (unless why c step)).answer ≡ false
    → (joined_with banks (unless why c step)).machine ≡ record { cache = c; banks = banks }
refused_stays banks c (Some why) step e h = refl
refused_stays banks c None step e h = cc

pub request_stays : (s : MachineState) (event : Event) → is_request event ≡ true → is_end (answered s event) ≡ false
    → after_event s event ≡ s
unfolding answered after_event load_step store_step prefetch_step evict_step
request_stays s (Load tag at) r h = grind (arith, refused_stays)
request_stays s event r h = grind (arith, refused_stays)

-- ---- a request ends where the machine serves requests, as it does where nothing is on its way

eviction_ends : (answer : Answer) → serves_eviction answer ≡ true → is_end answer ≡ true
eviction_ends Accepted e = refl
eviction_ends answer e = grind arith

module _ (s : MachineState) (served : ServesRequests s.sizes s.machine) where
  pub request_ends : (event : Event) → is_request event ≡ true → is_end (answered s event) ≡ true
  unfolding answered load_step load_cause store_step store_cause prefetch_step prefetch_cause
  request_ends (Load tag at) r = grind (arith, served.loads, le-ltb, cases_lt at s.sizes.words)
  request_ends (Store at word lanes) r = grind (arith, served.stores, lt-ltb, le-ltb, cases_lt at s.sizes.words)
  request_ends (Prefetch at) r = grind (arith, served.prefetches, le-ltb, cases_lt at s.sizes.words)
  request_ends (Evict block) r = eviction_ends (apply s.sizes s.machine (Evict block)).answer (served.evictions block)
  request_ends event r = cc
