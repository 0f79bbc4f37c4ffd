-- Why an answer is wrong, and where a byte may come from.
use Rattle.std.specs.Prelude.{ℕ, ◌&&◌, Bool, true, false, List, [], Option, Some, None}
use Rattle.std.specs.List.{find}
use Rattle.std.specs.Option.{option_and_then}
use Rattle.memory_histories.specs.declared.windows.LoadByte.{LoadByte}
use Rattle.memory_histories.specs.Windows.{Windows, is_at}
use Rattle.atomic_histories.specs.Judge.{bytes_of}
use Rattle.history_reasons.specs.declared.givers.Source.{Source}
use Rattle.history_reasons.specs.declared.units.FoundReason.{FoundReason}
use Rattle.history_reasons.specs.Log.{has_all, told_sources, told_at_request}
use Rattle.history_reasons.specs.Open.{operation_under}
use Rattle.history_reasons.specs.Units.{unit_reason}
use Rattle.history_sessions.specs.declared.judge.HistoryLaw.{HistoryLaw}
use Rattle.history_sessions.specs.declared.judge.HistoryLaw.TheVariants.{Flat, Atomic, Regular}
use Rattle.history_sessions.specs.Session.{Session}

-- how many bytes a unit has: by the regular and the flat law each byte is one
abbrev pub unit_bytes : HistoryLaw → ℕ
unit_bytes Regular = 1
unit_bytes Flat = 1
unit_bytes (Atomic unit limit) = bytes_of unit

abbrev pub is_atomic : HistoryLaw → Bool
is_atomic Regular = false
is_atomic Flat = false
is_atomic (Atomic unit limit) = true

abbrev pub is_flat : HistoryLaw → Bool
is_flat Regular = false
is_flat Flat = true
is_flat (Atomic unit limit) = false

-- the first byte of an answer for which there is a reason, of those from this place on that lie in one unit
abbrev pub reason_for : Session → ℕ → List ℕ → ℕ → Option FoundReason
reason_for s number bytes place =
    option_and_then (λ o. unit_reason s.seen (unit_bytes s.law) number o.address bytes place) (operation_under number s.loads)

-- if there is none, the regular law allows each of these bytes for itself, as long as no store is forgotten. By the atomic law they stood
-- there together at no moment
abbrev pub is_together : Session → Bool
is_together s = is_atomic s.law && has_all s.seen.stores

-- all that a load may get a byte from: by the flat law what stood there at its request
abbrev pub sources_by : Bool → Windows → Option LoadByte → ℕ → List Source
sources_by at_request w None b = []
sources_by true w (Some l) b = told_at_request w l b
sources_by false w (Some l) b = told_sources w l b

-- the same of the load that is open under a number, at an address
abbrev pub sources_for : Session → ℕ → ℕ → ℕ → List Source
sources_for s number address b = sources_by (is_flat s.law) s.seen (find (is_at number address) s.seen.loads) b
