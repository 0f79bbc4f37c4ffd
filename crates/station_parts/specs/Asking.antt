-- What an ask makes of the unit.
use Rattle.std.specs.Prelude.{◌≡◌, ℕ, ◌+◌, ◌*◌, List, [], ◌++◌, length}
use Rattle.flat_model.specs.declared.Event.{Event}
use Rattle.flat_model.specs.declared.Event.TheVariants as events
use Rattle.flat_model.specs.declared.Answer.{Answer}
use Rattle.flat_model.specs.declared.Answer.TheVariants.{Nothing}
use Rattle.memory_banks.specs.Banks.{commands_for}
use Rattle.cache_law.specs.declared.Sizes.{Sizes}
use Rattle.cache_law.specs.State.{Cache, UnitState}
use Rattle.cache_law.specs.Steps.{Stepped, load_step, store_step, prefetch_step, evict_step}
use Rattle.cache_unit.specs.Makes.{Makes}
use Rattle.station_journal.specs.declared.asks.Ask.{Ask}
use Rattle.station_journal.specs.declared.asks.Ask.TheVariants.{Load, Store, Prefetch, Evict, Done}
use Rattle.station_journal.specs.declared.asks.TheConstants.{PORT_TAGS}
use Rattle.station_parts.specs.declared.row.Line.{Line}
use Rattle.station_parts.specs.Rows.{sent_at, free_at, OnlySent}

-- the event that an ask of a port is; Done is none
abbrev pub event_for : ℕ → Ask → Event
event_for port (Load tag at) = events.Load (port * PORT_TAGS + tag) at
event_for port (Store at word lanes) = events.Store at word lanes
event_for port (Prefetch at) = events.Prefetch at
event_for port (Evict block) = events.Evict block
event_for port Done = events.Drain

-- what it makes of the unit, with the rooms that are known
abbrev pub asked_step : Sizes → (ℕ → ℕ) → ℕ → Cache → Ask → Stepped
asked_step z room port c (Load tag at) = load_step z room c (port * PORT_TAGS + tag) at
asked_step z room port c (Store at word lanes) = store_step z room c at word lanes
asked_step z room port c (Prefetch at) = prefetch_step z room c at
asked_step z room port c (Evict block) = evict_step z c block
asked_step z room port c Done = record { answer = Nothing; cache = c; sent = [] }

-- the unit has made this step, and its commands have gone over the lines
pub record MakesStep (d : Stepped) (old new : UnitState) (xs ys : List Line) (answer : Answer) : Type 0 where
  pub made : Makes d old answer new
  pub kept : OnlySent xs ys
  pub sent : (b : ℕ) → sent_at ys b ≡ sent_at xs b ++ commands_for b d.sent
  pub rooms : (b : ℕ) → free_at ys b + length (commands_for b d.sent) ≡ free_at xs b
