-- What an ask makes of the unit, and what its port is told.
use Rattle.std.proofs.Common.{◌≡◌, ◌≢◌, ℕ, ◌+◌, List, [], ◌∷◌, ◌++◌, Option, refl, arith}
use Rattle.flat_model.specs.declared.Event.{Event}
use Rattle.flat_model.specs.declared.Answer.{Answer}
use Rattle.memory_banks.specs.declared.Command.{Command}
use Rattle.memory_banks.specs.declared.BankAnswer.{BankAnswer}
use Rattle.cache_law.specs.declared.Request.TheVariants as requests
use Rattle.cache_law.specs.declared.Sizes.{Sizes}
use Rattle.cache_law.specs.State.{Cache, UnitState}
use Rattle.cache_law.specs.Steps.{load_step, store_step, prefetch_step, evict_step}
use Rattle.station_journal.specs.declared.journal.Source.TheVariants as sources
use Rattle.station_journal.specs.declared.journal.Entry.{Entry}
use Rattle.station_journal.specs.declared.journal.Entry.TheVariants.{Step, Ended}
use Rattle.station_journal.specs.declared.journal.SideFault.{SideFault}
use Rattle.station_journal.specs.declared.asks.Ask.{Ask}
use Rattle.station_journal.specs.declared.asks.Ask.TheVariants.{Load, Store, Prefetch, Evict, Done}
use Rattle.station_journal.specs.declared.asks.Told.{Told}
use Rattle.station_journal.specs.Journal.{Stand, Brings}
use Rattle.station_parts.specs.Asking.{event_for, asked_step}
use Rattle.station_journal.specs.Parts.{verdict, IsVerdict, asks_of, told_of}
use Rattle.station_parts.specs.Rows.{only}
use Rattle.station_journal.specs.Side.{SideTells}
use Rattle.station_journal.proofs.Recording.{Recorded, request_recorded, evict_recorded}
use Rattle.station_journal.proofs.Telling.{tells_ended}

-- ---- the unit

pub asked_recorded : (z : Sizes) (brings : Brings) (s : Stand) (room : ℕ → ℕ) (port : ℕ) (ask : Ask) → ask ≢ Done
    → Recorded z brings s (event_for port ask) (asked_step z room port s.cache ask)
asked_recorded z brings s room port (Load tag at) n = request_recorded z brings s room (requests.Load _ at)
asked_recorded z brings s room port (Store at word lanes) n = request_recorded z brings s room (requests.Store at word lanes)
asked_recorded z brings s room port (Prefetch at) n = request_recorded z brings s room (requests.Prefetch at)
asked_recorded z brings s room port (Evict block) n = evict_recorded z brings s block
asked_recorded z brings s room port Done n = absurd (n refl)

pub asked_verdict : (z : Sizes) (room : ℕ → ℕ) (port : ℕ) (c : Cache) (ask : Ask) → ask ≢ Done
    → IsVerdict (asked_step z room port c ask).answer
unfolding load_step store_step prefetch_step evict_step
asked_verdict z room port c ask n = grind arith

pub side_ended : (u : UnitState) (sent : ℕ → List Command) (popped : ℕ → List BankAnswer) (fault : Option SideFault)
    (entries entries' : List Entry) (port : ℕ) → entries' ≡ entries ++ Ended port ∷ [] → SideTells u.sizes u.cache sent popped fault entries
    → SideTells u.sizes u.cache sent popped fault entries'
side_ended u sent popped fault entries entries' port is h = grind (arith, u.sizes, u.cache, tells_ended)

-- ---- the ports

-- the entry of an ask tells what was popped, and that nothing else was
pub only_asked : (port : ℕ) (ask : Ask) (event : Event) (answer : Answer) → ask ≢ Done → event ≡ event_for port ask → (p : ℕ)
    → only port (ask ∷ []) p ≡ asks_of p (Step (sources.Ask port) event answer ∷ [])
only_asked port ask event answer n event_is = grind arith

-- and what its port is told, and no other
pub only_told : (port : ℕ) (event : Event) (answer : Answer) (told : Told) → verdict answer ≡ told ∷ [] → (p : ℕ)
    → only port (told ∷ []) p ≡ told_of p (Step (sources.Ask port) event answer ∷ [])
only_told port event answer told is p = grind arith
