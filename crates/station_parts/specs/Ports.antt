-- What the journal says of each port's rings.
use Rattle.std.specs.Prelude.{◌≡◌, ℕ, ◌<◌, Bool, true, false, List, [], length, slice_index_or, map}
use Rattle.std.specs.declared.alloc.Global.{Global}
use Rattle.rtrb.specs.Ring.{received, sent}
use Rattle.rtrb.specs.declared.consumer.Consumer.{Consumer}
use Rattle.rtrb.specs.declared.producer.Producer.{Producer}
use Rattle.rtrb.specs.declared.AnyItems.{AnyItems}
use Rattle.station_journal.specs.declared.journal.Entry.{Entry}
use Rattle.station_journal.specs.declared.asks.Ask.{Ask}
use Rattle.station_journal.specs.declared.asks.Ask.TheVariants.{Done}
use Rattle.station_journal.specs.declared.asks.Told.{Told}
use Rattle.station_journal.specs.Parts.{asks_of, told_of, IsOfPorts}

-- the journal has what was popped of each port's asks, and what was pushed to it
pub record PortsTell (asks : List (Consumer Ask Global AnyItems)) (tellings : List (Producer Told Global AnyItems))
    (journal : List Entry) : Type 0 where
  pub number : length tellings ≡ length asks
  pub asked : (p : ℕ) → p < length asks → slice_index_or (map received asks) p [] ≡ asks_of p journal
  pub told : (p : ℕ) → p < length asks → slice_index_or (map sent tellings) p [] ≡ told_of p journal
  -- and each of its events is its source's
  pub sources : IsOfPorts (length asks) journal

-- the ask by which a port says that it asks nothing more
abbrev pub is_done : Ask → Bool
is_done Done = true
is_done ask = false
