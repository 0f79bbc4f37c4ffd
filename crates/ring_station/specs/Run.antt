-- What a run of a station came to.
use Rattle.std.specs.Prelude.{◌≡◌, ◌⊎◌, ℕ, Bool, true, false, ◌&&◌, ◌||◌, if◌then◌else◌, List, ◌<◌, length, slice_index_or, Option}
use Rattle.std.specs.Prelude.{Some, None}
use Rattle.std.specs.Global.{Vec}
use Rattle.std.specs.List.{list_all, list_any}
use Rattle.station_journal.specs.declared.asks.Ask.{Ask}
use Rattle.station_parts.specs.declared.bank.BankSide.{BankSide}
use Rattle.station_parts.specs.declared.parts.Audit.{Audit}
use Rattle.station_parts.specs.declared.parts.Audit.TheVariants.{Clean}
use Rattle.station_parts.specs.declared.parts.Station.{Station}
use Rattle.station_parts.specs.Promises.{IsAudited}
use Rattle.station_parts.specs.Station.{IsUnmoved}
use Rattle.ring_station.specs.declared.fault.RunFault.{RunFault}
use Rattle.ring_station.specs.declared.fault.RunFault.TheVariants.{TurnLimit, OutOfMemory}
use Rattle.ring_station.specs.declared.report.Run.{Run}
use Rattle.ring_station.specs.declared.report.Stop.{Stop}
use Rattle.ring_station.specs.declared.report.Stop.TheVariants as stops
use Rattle.ring_station.specs.Ends.{is_over, lacks_memory, is_full}
use Rattle.ring_station.specs.PartRuns.{BanksRan, CacheRan, HasFinished}
use Rattle.ring_station.specs.PortRuns.{PortsRan}

abbrev pub is_clean : Audit → Bool
is_clean Clean = true
is_clean found = false

-- some thread found no memory
abbrev pub lacks : Run → Bool
lacks run = lacks_memory run.cache || (list_any lacks_memory run.ports.items || list_any lacks_memory run.banks.items)

-- every thread came to its end
abbrev pub are_over : Run → Bool
are_over run = is_over run.cache && (list_all is_over run.ports.items && list_all is_over run.banks.items)

-- and nothing is left and nothing owed behind them
abbrev pub is_whole : Run → Bool
is_whole run = is_clean run.audit && are_over run

-- why a run has no lists: want of memory goes before a limit
abbrev pub fault_of : Run → Option RunFault
fault_of run = if lacks run then Some OutOfMemory else (if is_whole run then None else Some TurnLimit)

-- what kept a run from its end: want of memory goes before a full journal, and that before a thread's turns
abbrev pub stop_of : Run → Option Stop
stop_of run =
    if lacks run then Some stops.OutOfMemory
    else (if is_whole run then None
    else (if is_full run.cache.fault then Some stops.JournalFull else (if are_over run then Some stops.NotClean else Some stops.TurnLimit)))

-- as which of its two faults `run_threads` tells it
abbrev pub told_as : Stop → RunFault
told_as stops.OutOfMemory = OutOfMemory
told_as stops.JournalFull = TurnLimit
told_as stops.TurnLimit = TurnLimit
told_as stops.NotClean = TurnLimit

-- each bank has served all that it could
abbrev pub HaveFinished : List BankSide → Type 0
HaveFinished banks = (b : ℕ) (d : BankSide) → b < length banks → HasFinished (slice_index_or banks b d)

-- a run of a station came to this: each thread did and ended as it is told, and an audit behind them found what is told
pub record CameTo (scripts : List (Vec Ask)) (turns : ℕ) (old new : Station) (run : Run) : Type 0 where
  pub ports : PortsRan scripts turns old.ports.items new.ports.items run.lists.items run.ports.items
  pub cache : CacheRan (length old.ports.items) turns old.cache new.cache run.cache
  pub banks : BanksRan turns old.banks.items new.banks.items run.banks.items
  pub audited : IsAudited new.cache new.ports.items new.banks.items run.audit

-- why a run gave no lists: memory was short before a thread began, and no part has moved; or it came to something that has this fault
abbrev pub FailsBy : List (Vec Ask) → ℕ → Station → Station → RunFault → Type 0
FailsBy scripts turns old new fault =
    ((fault ≡ OutOfMemory) × IsUnmoved old new) ⊎ ((run : Run) × CameTo scripts turns old new run × (fault_of run ≡ Some fault))
