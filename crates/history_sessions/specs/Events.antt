-- Events, wherever their bytes lie.
use Rattle.std.specs.Prelude.{ℕ, List}
use Rattle.std.specs.Borrow.{Bor}
use Rattle.memory_histories.specs.declared.events.HistoryEvent.{HistoryEvent}
use Rattle.memory_histories.specs.declared.events.HistoryEvent.TheVariants.{LoadRequest, LoadResponse, StoreRequest, StoreResponse}

-- these bytes, as an event holds them
abbrev pub held : List ℕ → Bor (List ℕ)
held bytes = record { ref_ptr = (0, 0); now = bytes }

-- an event by its numbers and bytes alone
abbrev pub plain : HistoryEvent → HistoryEvent
plain (LoadRequest number address length enables) = LoadRequest number address length enables
plain (LoadResponse number bytes) = LoadResponse number (held bytes.now)
plain (StoreRequest number address bytes enables) = StoreRequest number address (held bytes.now) enables
plain (StoreResponse number) = StoreResponse number
