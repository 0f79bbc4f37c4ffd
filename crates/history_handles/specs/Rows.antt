-- Operations, counts and sets of bytes as rows.
use Rattle.std.specs.Prelude.{ℕ, ◌≡◌, ◌+◌, ◌*◌, ◌<◌, Bool, if◌then◌else◌, List, length, slice_index}
use Rattle.history_reasons.specs.declared.open.OpenOperation.{OpenOperation}
use Rattle.history_sessions.specs.declared.coverage.Counts.{Counts}
use Rattle.history_handles.specs.declared.rows.HistoryCounts.{HistoryCounts}
use Rattle.history_handles.specs.declared.rows.Operation.{Operation}

-- an open operation
abbrev pub row_of : OpenOperation → Operation
row_of o = record { number = o.number; address = o.address; length = o.length }

-- what was counted
abbrev pub counts_row : Counts → HistoryCounts
counts_row n = record { loads = n.loads; choices = n.choices; beside_store = n.beside_store; overtaking = n.overtaking }

-- this weight for a byte that is in a set, else 0
abbrev pub weight_in : (ℕ → Bool) → ℕ → ℕ → ℕ
weight_in is_in byte weight = if is_in byte then weight else 0

-- which of the four bytes from the first on are in a set, as the lower and as the upper half of an octet
abbrev pub low_half : (ℕ → Bool) → ℕ → ℕ
low_half is_in first =
    weight_in is_in first 1 + weight_in is_in (first + 1) 2 + weight_in is_in (first + 2) 4
    + weight_in is_in (first + 3) 8

abbrev pub high_half : (ℕ → Bool) → ℕ → ℕ
high_half is_in first =
    weight_in is_in (first + 4) 16 + weight_in is_in (first + 5) 32 + weight_in is_in (first + 6) 64
    + weight_in is_in (first + 7) 128

-- which of the eight bytes from the first on are in a set: bit `k` is the one of byte `first + k`
unfoldable pub octet : (ℕ → Bool) → ℕ → ℕ
octet is_in first = low_half is_in first + high_half is_in first

-- a row is of the set: bit `k` of its byte `n` is the one of byte `8n + k`
pub record IsOctets (row : List ℕ) (is_in : ℕ → Bool) : Type 0 where
  pub whole : length row ≡ 32
  pub each : (n : ℕ) → n < 32 → slice_index row n ≡ octet is_in (8 * n)
