-- When nothing is under way in the unit.
use Rattle.std.specs.Prelude.{Bool, ◌&&◌, ◌==◌, not, length}
use Rattle.std.specs.List.{list_all}
use Rattle.cache_law.specs.State.{Cache, tags}

-- no load is owed its value, the write queue is empty, and no register is valid
abbrev pub is_at_rest : Cache → Bool
is_at_rest c = (length (tags c) == 0) && ((length c.queue == 0) && list_all (λ r. not r.valid) c.registers)
