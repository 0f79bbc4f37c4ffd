-- What a part keeps whatever it does: the rings that its ends belong to, and its sizes.
use Rattle.std.specs.Prelude.{ℕ, List, map, length}
use Rattle.cache_law.specs.declared.Sizes.{Sizes}
use Rattle.station_parts.specs.declared.port.Port.{Port}
use Rattle.station_parts.specs.declared.row.Line.{Line}
use Rattle.station_parts.specs.declared.bank.BankSide.{BankSide}
use Rattle.station_parts.specs.declared.parts.CacheSide.{CacheSide}
use Rattle.station_parts.specs.Rings.{RingId, pushes_to, pops_from}

-- the ring of a line
abbrev pub line_ring : Line → RingId
line_ring line = pushes_to line.ring

-- the rings of a port
pub record PortId : Type 0 where
  pub asks : RingId
  pub told : RingId

abbrev pub port_id : Port → PortId
port_id p = record { asks = pushes_to p.asks; told = pops_from p.tellings }

-- the rings of a bank, and how many words it has
pub record BankId : Type 0 where
  pub commands : RingId
  pub answers : RingId
  pub words : ℕ

abbrev pub bank_id : BankSide → BankId
bank_id b = record { commands = pops_from b.commands; answers = pushes_to b.answers; words = length b.words.items }

-- the cache side's rings, by the numbers of ports and banks, its sizes, and how long its journal may get
pub record CacheId : Type 0 where
  pub asks : List RingId
  pub told : List RingId
  pub commands : List RingId
  pub answers : List RingId
  pub sizes : Sizes
  pub limit : ℕ

abbrev pub cache_id : CacheSide → CacheId
cache_id c =
    record {
      asks = map pops_from c.asks.items;
      told = map pushes_to c.tellings.items;
      commands = map line_ring c.row.lines.items;
      answers = map pops_from c.answers.items;
      sizes = c.unit.sizes;
      limit = c.limit;
    }
