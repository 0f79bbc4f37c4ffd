-- What is counted of the lists that the ports took.
use Rattle.std.specs.Prelude.{ℕ, Bool, false, List}
use Rattle.std.specs.List.{count_by, sum_by}
use Rattle.std.specs.Global.{Vec}
use Rattle.flat_model.specs.Causes.{passes}
use Rattle.station_journal.specs.declared.asks.Told.{Told}
use Rattle.station_journal.specs.declared.asks.Told.TheVariants.{Refused}

-- behind this telling a port offers its ask again: a refusal for a cause that passes
abbrev pub is_asked_again : Told → Bool
is_asked_again (Refused cause) = passes cause
is_asked_again told = false

-- how often the ports offered an ask again
abbrev pub again_in : List (Vec Told) → ℕ
again_in lists = sum_by (λ list. count_by is_asked_again list.items) lists
