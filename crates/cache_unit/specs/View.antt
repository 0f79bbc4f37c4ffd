-- What the unit shows, and what holds of it: what holds of any unit's parts, with numbers in their ranges.
use Rattle.std.specs.Prelude.{◌≡◌}
use Rattle.cache_unit.specs.declared.unit.ShapedUnit.TheInside.{Inside}
use Rattle.cache_law.specs.State.{Cache, UnitState}
use Rattle.cache_law.specs.Sound.{InRange, IsSound}

abbrev pub cache_of : Inside → Cache
cache_of u =
    record { directory = u.directory; registers = u.registers; stack = u.stack; queue = u.queue.entries; ready = u.ready.items }

abbrev pub unit_shown : Inside → UnitState
unit_shown u = record { sizes = u.sizes; cache = cache_of u }

pub record IsSoundUnit (u : Inside) : Type 0 where
  pub ranges : InRange u.sizes
  pub sound : IsSound u.sizes (cache_of u)
  pub limit : u.queue.limit ≡ u.sizes.write_queue
