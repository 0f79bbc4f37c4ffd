-- What is asked of the servers, and how it is shared.
use Rattle.std.specs.Prelude.{◌≡◌, ℕ, ◌+◌, ◌-◌, ◌*◌, ◌/◌, ◌%◌, ◌<◌, List, length, slice_index_or, Option, Some, None}
use Rattle.std.specs.Int.{div_ceil}
use Rattle.std.specs.List.{sum_by}
use Rattle.std.specs.Global.{Vec}
use Rattle.rand_pcg.specs.Lcg.{Lcg, started, increment_of}
use Rattle.rand_pcg.specs.Pcg.{multiplier_64}
use Rattle.flat_model.specs.declared.Event.{Event}
use Rattle.station_journal.specs.declared.asks.Ask.{Ask}
use Rattle.station_journal.specs.declared.asks.Ask.TheVariants.{Done}
use Rattle.station_parts.specs.declared.make.TheConstants.{MAX_PORTS}
use Rattle.station_parts.specs.Asking.{event_for}
use Rattle.station_checks.specs.declared.plan.TheConstants.{WORDS}
use Rattle.station_checks.specs.declared.plan.Plan.{Plan}
use Rattle.station_checks.specs.Asked.{asks_drawn}

-- the event of an ask of port 0
abbrev pub event_of : Ask → Option Event
event_of Done = None
event_of ask = Some (event_for 0 ask)

-- how many asks there are in all scripts
abbrev pub asks_in : List (Vec Ask) → ℕ
asks_in scripts = sum_by (λ script. length script.items) scripts

-- the word that a picked number names, of all of memory
abbrev pub any_word : ℕ → ℕ
any_word pick = pick / 8 % WORDS

-- as many requests as the most ports have asks, by the first stream of the plan's seed
abbrev pub request_draws : Plan → Lcg
request_draws plan = started 64 multiplier_64 plan.seed (increment_of 64 0)

abbrev pub requests_of : Plan → List Ask
requests_of plan = asks_drawn any_word (request_draws plan) 0 (plan.asks * MAX_PORTS)

-- a port's share of the requests, which are dealt out in turn to so many
pub record IsShare (ports port : ℕ) (requests script : List Ask) : Type 0 where
  pub number : length script ≡ div_ceil (length requests - port) ports
  pub each : (k : ℕ) (d : Ask) → k < length script → slice_index_or script k d ≡ slice_index_or requests (port + k * ports) d
