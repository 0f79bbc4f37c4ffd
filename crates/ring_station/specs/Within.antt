-- To what a run's turns keep it.
use Rattle.std.specs.Prelude.{◌≡◌, ℕ, ◌+◌, ◌<◌, ◌≤◌, List, ◌++◌, length, slice_index_or}
use Rattle.station_journal.specs.declared.asks.Told.{Told}
use Rattle.station_parts.specs.declared.port.Port.{Port}
use Rattle.station_parts.specs.declared.bank.BankSide.{BankSide}
use Rattle.station_parts.specs.declared.parts.Station.{Station}
use Rattle.station_parts.specs.Words.{taken, received_by, journal_of}
use Rattle.ring_station.specs.PortRuns.{moves_of}

-- between these two at most so many items went over the rings of each port, which took what it took behind what it had; at most
-- so many entries were noted, and each bank served at most so many commands
pub record KeepsTo (turns : ℕ) (old new : Station) : Type 0 where
  pub ports : length new.ports.items ≡ length old.ports.items
  pub banks : length new.banks.items ≡ length old.banks.items
  pub moved : (p : ℕ) (d : Port) → p < length old.ports.items
      → moves_of (slice_index_or new.ports.items p d) ≤ moves_of (slice_index_or old.ports.items p d) + turns
  pub took : (p : ℕ) (d : Port) → p < length old.ports.items
      → (list : List Told) × (taken (slice_index_or new.ports.items p d) ≡ taken (slice_index_or old.ports.items p d) ++ list)
  pub noted : length (journal_of new.cache) ≤ length (journal_of old.cache) + turns
  pub served : (b : ℕ) (d : BankSide) → b < length old.banks.items
      → length (received_by (slice_index_or new.banks.items b d)) ≤ length (received_by (slice_index_or old.banks.items b d)) + turns
