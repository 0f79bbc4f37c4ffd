-- What a cache side shows to its contracts, and what it knows of its rings.
use Rattle.std.specs.Prelude.{◌≡◌, ℕ, ◌≤◌, List, Option}
use mathlib.Core.List.{IsPrefix}
use Rattle.memory_banks.specs.declared.Command.{Command}
use Rattle.memory_banks.specs.declared.BankAnswer.{BankAnswer}
use Rattle.cache_law.specs.declared.Sizes.{Sizes}
use Rattle.cache_law.specs.State.{Cache}
use Rattle.station_journal.specs.declared.asks.Ask.{Ask}
use Rattle.station_journal.specs.declared.asks.Told.{Told}
use Rattle.station_journal.specs.declared.journal.Entry.{Entry}
use Rattle.station_journal.specs.declared.journal.SideFault.{SideFault}
use Rattle.station_parts.specs.declared.parts.CacheSide.{CacheSide}
use Rattle.station_parts.specs.Words.{earlier_of, held_of, journal_limit, fault_in, sizes_in, cache_in, asked_at, told_at, known_asks}
use Rattle.station_parts.specs.Words.{telling_places, commands_at, words_at, command_places, known_words}

-- the asks and words that can be popped, by port and by bank, and for how many tellings and commands there are free
-- places. Of a port or a bank that isn't there nothing is known
pub record Known : Type 0 where
  pub asks : ℕ → List Ask
  pub words : ℕ → List BankAnswer
  pub telling_places : ℕ → ℕ
  pub command_places : ℕ → ℕ

-- the first of them is known still, and perhaps more
pub record KnowsMore (old new : Known) : Type 0 where
  pub asks : (p : ℕ) → IsPrefix (old.asks p) (new.asks p)
  pub words : (b : ℕ) → IsPrefix (old.words b) (new.words b)
  pub telling_places : (p : ℕ) → old.telling_places p ≤ new.telling_places p
  pub command_places : (b : ℕ) → old.command_places b ≤ new.command_places b

pub record SideState : Type 0 where
  pub sizes : Sizes
  pub cache : Cache
  -- the entries that were handed out, those noted since, and how many of these it holds
  pub earlier : List Entry
  pub held : List Entry
  pub limit : ℕ
  pub fault : Option SideFault
  -- what was popped of each port's asks, and what the port was told
  pub asked : ℕ → List Ask
  pub told : ℕ → List Told
  -- what was sent to each bank, and the words that were popped of it
  pub commands : ℕ → List Command
  pub words : ℕ → List BankAnswer
  pub known : Known

abbrev pub state_of : CacheSide → SideState
state_of side =
    record {
      sizes = sizes_in side;
      cache = cache_in side;
      earlier = earlier_of side;
      held = held_of side;
      limit = journal_limit side;
      fault = fault_in side;
      asked = asked_at side;
      told = told_at side;
      commands = commands_at side;
      words = words_at side;
      known = record {
        asks = known_asks side;
        words = known_words side;
        telling_places = telling_places side;
        command_places =
            command_places side;
      };
    }

-- more may be known, and nothing else has changed
pub record OnlyLooks (old new : SideState) : Type 0 where
  pub earlier : new.earlier ≡ old.earlier
  pub held : new.held ≡ old.held
  pub cache : new.cache ≡ old.cache
  pub fault : new.fault ≡ old.fault
  pub asked : (p : ℕ) → new.asked p ≡ old.asked p
  pub told : (p : ℕ) → new.told p ≡ old.told p
  pub commands : (b : ℕ) → new.commands b ≡ old.commands b
  pub words : (b : ℕ) → new.words b ≡ old.words b
  pub known : KnowsMore old.known new.known
