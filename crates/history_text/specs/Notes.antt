-- Who is to blame for a wrong byte, over the lines of a history.
use Rattle.std.specs.Prelude.{ℕ, ◌+◌, ◌%◌, min, List, [], ◌∷◌, map, Option, Some, None, slice_get}
use Rattle.std.specs.List.{flat_map}
use Rattle.history_sessions.specs.Words.{StoreByte, Reason, NeverThere, InitialOverwritten, StoreOverwritten, Source, Initial, Store}
use Rattle.history_sessions.specs.Words.{OpenOperation, FoundReason}
use Rattle.history_sessions.specs.Reasons.{reason_for, sources_for}
use Rattle.history_sessions.specs.Session.{Session}
use Rattle.history_text.specs.declared.answers.ByteSource.{ByteSource}
use Rattle.history_text.specs.declared.answers.ByteSource.TheVariants as source
use Rattle.history_text.specs.declared.answers.AllowedByte.{AllowedByte}
use Rattle.history_text.specs.declared.answers.OverwrittenByte.{OverwrittenByte}

-- the address of the byte at this place of a load. No load that a judge takes goes round behind the last address
abbrev pub byte_address : OpenOperation → ℕ → ℕ
byte_address l place = (l.address + place) % 18446744073709551616

-- ---- where a byte comes from that a load may return

-- the number of the line that requested a store, counted from 1
abbrev pub line_number : StoreByte → ℕ
line_number s = min (s.began + 1) 18446744073709551615

abbrev pub source_named : Source → ByteSource
source_named Initial = source.Initial
source_named (Store s) = source.Store s.number (line_number s)

abbrev pub named_with : ℕ → Source → AllowedByte
named_with b x = record { byte = b; source = source_named x }

-- a byte with each of its sources, or without one if none is known
abbrev pub alternatives_for : ℕ → List Source → List AllowedByte
alternatives_for b [] = record { byte = b; source = source.Unknown } ∷ []
alternatives_for b (x ∷ xs) = map (named_with b) (x ∷ xs)

-- the same of each of these bytes
abbrev pub alternatives_of : Session → ℕ → ℕ → List ℕ → List AllowedByte
alternatives_of s number address bytes = flat_map (λ b. alternatives_for b (sources_for s number address b)) bytes

-- ---- who overwrote a byte that a load may not return

abbrev pub overwriter_of : Reason → Option StoreByte
overwriter_of NeverThere = None
overwriter_of (InitialOverwritten by) = Some by
overwriter_of (StoreOverwritten stored by) = Some by

abbrev pub overwritten_by : OpenOperation → ℕ → Option StoreByte → Option ℕ → Option OverwrittenByte
overwritten_by load place (Some by) (Some b) =
    Some (record { byte = b; address = byte_address load place; number = by.number })
overwritten_by load place by b = None

abbrev pub overwritten_of : OpenOperation → List ℕ → Option FoundReason → Option OverwrittenByte
overwritten_of load bytes None = None
overwritten_of load bytes (Some found) = overwritten_by load found.place (overwriter_of found.reason) (slice_get bytes found.place)

-- of the bytes of an answer from a place on that lie in one unit, the first for which there is a reason by the regular law, and who
-- overwrote it, if it stood there before
abbrev pub overwritten_in : Session → OpenOperation → List ℕ → ℕ → Option OverwrittenByte
overwritten_in s load bytes place = overwritten_of load bytes (reason_for s load.number bytes place)
