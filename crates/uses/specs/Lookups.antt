-- What requests found, counted.
use Rattle.std.specs.Prelude.{ℕ, ◌+◌, Option, Some, None}
use Rattle.machine_core.specs.Words.{Lookup, Hit, Join, Miss}
use Rattle.uses.specs.declared.own_order.Lookups.{Lookups}

-- all that was counted
abbrev pub total : Lookups → ℕ
total l = l.hits + l.joins + l.misses

-- one more request
abbrev pub counted : Lookups → Option Lookup → Lookups
counted l (Some Hit) = record l { hits = l.hits + 1 }
counted l (Some Join) = record l { joins = l.joins + 1 }
counted l (Some Miss) = record l { misses = l.misses + 1 }
counted l None = l
