-- Why a load may not return a byte by the regular law.
use Rattle.std.specs.Prelude.{ℕ, ◌≡◌, ◌<◌, ◌==◌, ◌&&◌, if◌then◌else◌, Bool, true, false, List, length, Option, Some, None, reverse}
use Rattle.std.specs.Prelude.{slice_get}
use Rattle.std.specs.List.{Any, find, slice_index_or}
use Rattle.std.specs.Option.{option_map}
use Rattle.memory_histories.specs.declared.events.Rest.{Rest}
use Rattle.memory_histories.specs.declared.windows.StoreByte.{StoreByte}
use Rattle.memory_histories.specs.declared.windows.LoadByte.{LoadByte}
use Rattle.memory_histories.specs.Regular.{IsBefore, IsInitial, is_before, is_initial, overwrites, may_return_byte}
use Rattle.history_reasons.specs.declared.Reason.{Reason}
use Rattle.history_reasons.specs.declared.Reason.TheVariants.{NeverThere, InitialOverwritten, StoreOverwritten}

-- a store put this byte at an address
abbrev pub Stores : ℕ → ℕ → StoreByte → Type 0
Stores address b s = (s.address ≡ address) × (s.byte ≡ b)

-- a store overwrote another before the moment: it was requested after the other's response, and answered before the moment
abbrev pub Overwrote : StoreByte → StoreByte → ℕ → Type 0
Overwrote by s moment = (by.address ≡ s.address) × (IsBefore s.ended by.began × IsBefore by.ended moment)

-- a store to the load's byte was answered before the load's request
abbrev pub Covered : LoadByte → StoreByte → Type 0
Covered l by = (by.address ≡ l.address) × IsBefore by.ended l.began

-- of the stores in the order of their requests this is the last that is so: it is, and none behind it
abbrev pub IsLast : (StoreByte → Type 0) → List StoreByte → StoreByte → Type 0
IsLast P stores s =
    (k : ℕ) × (k < length stores) × (slice_index_or stores k s ≡ s) × P s
    × ((j : ℕ) (d : StoreByte) → k < j → j < length stores → ¬ (P (slice_index_or stores j d)))

-- what each reason says of the stores so far
abbrev pub HasReason : List ℕ → Rest → List StoreByte → LoadByte → ℕ → Reason → Type 0
HasReason image rest stores l b NeverThere = (¬ (Any (Stores l.address b) stores)) × ¬ (IsInitial (slice_get image l.address) rest b)
HasReason image rest stores l b (InitialOverwritten by) =
    (¬ (Any (Stores l.address b) stores)) × (IsInitial (slice_get image l.address) rest b × IsLast (Covered l) stores by)
HasReason image rest stores l b (StoreOverwritten stored by) =
    IsLast (Stores l.address b) stores stored × IsLast (λ other. Overwrote other stored l.began) stores by

-- The same as tests. ----

abbrev pub stores_byte : ℕ → ℕ → StoreByte → Bool
stores_byte address b s = (s.address == address) && (s.byte == b)

abbrev pub covers : LoadByte → StoreByte → Bool
covers l s = (s.address == l.address) && is_before s.ended l.began

-- the last store that passes, if one does
abbrev pub last_that : (StoreByte → Bool) → List StoreByte → Option StoreByte
last_that p stores = find p (reverse stores)

abbrev pub reason_by : Option StoreByte → (StoreByte → Option StoreByte) → Bool → Option StoreByte → Option Reason
reason_by (Some s) overwriting initial covering = option_map (λ o. StoreOverwritten s o) (overwriting s)
reason_by None overwriting true covering = option_map (λ o. InitialOverwritten o) covering
reason_by None overwriting false covering = Some NeverThere

-- of the stores that put the byte there the last, and of those that overwrote it
abbrev pub last_reason : List ℕ → Rest → List StoreByte → LoadByte → ℕ → Option Reason
last_reason image rest stores l b =
    if may_return_byte image rest stores l b then None
    else reason_by (last_that (stores_byte l.address b) stores) (λ s.
    last_that (overwrites s l.began) stores) (is_initial (slice_get image l.address) rest b) (last_that (covers l) stores)
