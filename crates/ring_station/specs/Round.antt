-- The round of the cache side: which source is next.
use Rattle.std.specs.Prelude.{◌≡◌, ◌⊎◌, ℕ, zero, suc, ◌+◌, ◌*◌, ◌<◌, ◌==◌, nat_lt, Bool, true, false, not, ◌&&◌, ◌||◌, if◌then◌else◌}
use Rattle.std.specs.Prelude.{Option, Some, None}
use Rattle.station_journal.specs.declared.journal.Source.{Source}
use Rattle.station_journal.specs.declared.journal.Source.TheVariants as sources
use Rattle.station_parts.specs.declared.parts.CacheSide.{CacheSide}
use Rattle.station_parts.specs.declared.parts.Stepped.{Stepped}
use Rattle.station_parts.specs.declared.parts.Stepped.TheVariants.{Did}
use Rattle.station_parts.specs.SideState.{SideState, OnlyLooks, state_of}
use Rattle.station_parts.specs.SideSteps.{has_item, SideSteps}
use Rattle.ring_station.specs.declared.round.TheConstants.{OTHER_SOURCES}
use Rattle.ring_station.specs.declared.round.Round.{Round}
use Rattle.ring_station.specs.declared.round.Place.{Place}
use Rattle.ring_station.specs.declared.round.Place.TheVariants.{Ports, Bank, Stack, WriteQueue, Replies}
use Rattle.ring_station.specs.Turns.{IsTurn}

-- before the first step: at the first port
abbrev pub first_round : ℕ → ℕ → Round
first_round ports banks = record { ports = ports; banks = banks; port = 0; place = Ports; has_word = false }

-- the source at a place; the port is the one that is asked next
abbrev pub source_at : Place → ℕ → Source
source_at Ports port = sources.Ask port
source_at (Bank bank) port = sources.Word bank
source_at Stack port = sources.Stack 0
source_at WriteQueue port = sources.Drain
source_at Replies port = sources.Reply 0

-- the source of the next step: behind a word of a bank it is the stack
abbrev pub source_of : Round → Source
source_of round = if round.has_word then sources.Stack 0 else source_at round.place round.port

-- the banks are next
abbrev pub is_first_bank : Place → Bool
is_first_bank (Bank bank) = bank == 0
is_first_bank place = false

abbrev pub is_at_banks : Round → Bool
is_at_banks round = not round.has_word && is_first_bank round.place

-- the banks beside the cache side have a turn if the round comes to them, and behind a turn without a step
abbrev pub are_banks_due : Round → Option Stepped → Bool
are_banks_due round (Some Did) = is_at_banks round
are_banks_due round stepped = true

-- the sources of a round
abbrev pub HasSource : Round → Source → Type 0
HasSource round (sources.Ask port) = port < round.ports
HasSource round (sources.Word bank) = bank < round.banks
HasSource round (sources.Stack place) = place ≡ 0
HasSource round sources.Drain = Unit {0}
HasSource round (sources.Reply place) = place ≡ 0

-- it stands at one of them, and asks one of its ports next
pub record StandsWithin (round : Round) : Type 0 where
  pub ports : round.port < round.ports
  pub banks : 0 < round.banks
  pub source : HasSource round (source_at round.place round.port)

-- ---- the order

-- the place behind one that has no more
abbrev pub place_behind : ℕ → Place → Place
place_behind banks Ports = Ports
place_behind banks (Bank bank) = if nat_lt (bank + 1) banks then Bank (bank + 1) else Stack
place_behind banks Stack = WriteQueue
place_behind banks WriteQueue = Replies
place_behind banks Replies = Ports

-- the port that is asked behind this one
abbrev pub port_behind : ℕ → ℕ → ℕ
port_behind ports port = if nat_lt (port + 1) ports then port + 1 else 0

-- behind an ask, and behind the last port, the banks come
abbrev pub behind_port : Bool → ℕ → Round → Round
behind_port did next round = record round { port = next; place = if did || next == 0 then Bank 0 else round.place }

-- any other place has its turn again as long as a step there did something, a bank behind a word of the stack
abbrev pub behind_place : Bool → Place → Round → Round
behind_place did Ports round = behind_port did (port_behind round.ports round.port) round
behind_place true (Bank bank) round = record round { has_word = true }
behind_place true place round = round
behind_place false place round = record round { place = place_behind round.banks place }

-- the round behind a step that did something, or behind none or one that found nothing
abbrev pub round_behind : Bool → Round → Round
round_behind did round = if round.has_word then record round { has_word = false } else behind_place did round.place round

-- the round behind a turn: it stays if there was no step
abbrev pub is_done : Stepped → Bool
is_done Did = true
is_done stepped = false

abbrev pub round_after : Option Stepped → Round → Round
round_after None round = round
round_after (Some stepped) round = round_behind (is_done stepped) round

-- ---- what is passed by

-- the round behind so many places at which no step was made
abbrev pub passed : ℕ → Round → Round
passed zero round = round
passed (suc count) round = round_behind false (passed count round)

-- how many places there are at most from one to its next time
abbrev pub most_places : Round → ℕ
most_places round = round.ports + 2 * (round.banks + OTHER_SOURCES)

-- the round went by places of which no item was known, to one of which one is, or once round all; so it passes no source of
-- which one was known
pub record Seeks (old new : Round) (before after : SideState) : Type 0 where
  pub count : ℕ
  pub passed_is : new ≡ passed count old
  pub unknown : (k : ℕ) → k < count → has_item (source_of (passed k old)) before ≡ false
  pub ended : (has_item (source_of new) after ≡ true) ⊎ (count ≡ most_places old)
  pub all : StandsWithin old → has_item (source_of new) after ≡ false → (source : Source) → HasSource old source
      → has_item source before ≡ false

-- a turn of the cache side: if it may make a step it goes on to the next source of which an item is known, and makes one there;
-- and then the round goes on behind it
pub record TurnsRound (may : Bool) (old new : Round) (before after : CacheSide) (stepped : Option Stepped) : Type 0
  where
    pub at : Round
    pub looked : CacheSide
    pub looks : OnlyLooks (state_of before) (state_of looked)
    pub seeks : may ≡ true → Seeks old at (state_of before) (state_of looked)
    pub held : may ≡ false → (looked ≡ before) × (at ≡ old)
    pub turn : IsTurn (SideSteps (source_of at)) may looked after stepped
    pub goes_on : new ≡ round_after stepped at
    pub stays : StandsWithin old → StandsWithin new

-- ---- turn by turn

-- how the cache side's thread stands between two turns: its round, what its last turn came to, and how many turns the banks beside
-- it have had
pub record Standing : Type 0 where
  pub round : Round
  pub stepped : Option Stepped
  pub had : ℕ
  pub cache : CacheSide

-- before its first turn
abbrev pub standing_first : ℕ → ℕ → CacheSide → Standing
standing_first ports banks cache = record { round = first_round ports banks; stepped = None; had = 0; cache = cache }

-- a turn: the banks have theirs first, if it is due; then the gate is asked
pub record TakesTurn (CanAnswer : Bool → Type 0) (old new : Standing) : Type 0 where
  pub may : Bool
  pub answered : CanAnswer may
  pub had : new.had ≡ (if are_banks_due old.round old.stepped then old.had + 1 else old.had)
  pub turns : TurnsRound may old.round new.round old.cache new.cache new.stepped

abbrev pub TakesTurns : (Bool → Type 0) → ℕ → Standing → Standing → Type 0
TakesTurns CanAnswer zero first last = last ≡ first
TakesTurns CanAnswer (suc turns) first last =
    (before : Standing) × TakesTurns CanAnswer turns first before × TakesTurn CanAnswer before last

-- so many turns of the thread, in which the banks beside it had so many
pub record HasGoneRound (CanAnswer : Bool → Type 0) (ports banks turns had : ℕ) (old new : CacheSide) : Type 0 where
  pub last : Standing
  pub taken : TakesTurns CanAnswer turns (standing_first ports banks old) last
  pub had_is : last.had ≡ had
  pub cache_is : last.cache ≡ new
