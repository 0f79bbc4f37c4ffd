-- Where a load may get a byte from by the regular law.
use Rattle.std.specs.Prelude.{ℕ, ◌≡◌, ◌==◌, ◌&&◌, not, nat_lt, if◌then◌else◌, Bool, List, [], ◌∷◌, ◌++◌, map, slice_get, Some}
use Rattle.std.specs.List.{Contains, filter}
use Rattle.memory_histories.specs.declared.events.Rest.{Rest}
use Rattle.memory_histories.specs.declared.windows.StoreByte.{StoreByte}
use Rattle.memory_histories.specs.declared.windows.LoadByte.{LoadByte}
use Rattle.memory_histories.specs.Regular.{IsOverwritten, IsInitial, IsCovered, is_overwritten, is_initial, is_covered}
use Rattle.history_reasons.specs.declared.givers.Source.{Source}
use Rattle.history_reasons.specs.declared.givers.Source.TheVariants.{Initial, Store}

-- a store may give a load this byte: it put it there, and it wasn't overwritten before the load's request
abbrev pub Gives : List StoreByte → LoadByte → ℕ → StoreByte → Type 0
Gives stores l b s = (s.address ≡ l.address) × ((s.byte ≡ b) × ¬ (IsOverwritten stores s l.began))

-- where the load may get the byte from
abbrev pub IsSource : List ℕ → Rest → List StoreByte → LoadByte → ℕ → Source → Type 0
-- memory had it before the first store, and no store to the byte was answered before the load's request
IsSource image rest stores l b Initial = IsInitial (slice_get image l.address) rest b × ¬ (IsCovered stores l)
-- or one of the stores may give it
IsSource image rest stores l b (Store s) = Contains stores s × Gives stores l b s

-- The same as functions. ----

abbrev pub gives : List StoreByte → LoadByte → ℕ → StoreByte → Bool
gives stores l b s = (s.address == l.address) && ((s.byte == b) && not (is_overwritten stores s l.began))

-- the stores that may give the byte, in the order of their requests
abbrev pub givers : List StoreByte → LoadByte → ℕ → List StoreByte
givers stores l b = filter (gives stores l b) stores

abbrev pub initial_source : Bool → List Source
initial_source is_one = if is_one then Initial ∷ [] else []

-- memory before the first store, and then those stores
abbrev pub sources : List ℕ → Rest → List StoreByte → LoadByte → ℕ → List Source
sources image rest stores l b =
    initial_source (is_initial (slice_get image l.address) rest b && not (is_covered stores l)) ++ map Store (givers stores l b)

-- By the flat law. ----

-- a store as if it were answered at its request, at which it takes effect
abbrev pub taken_at_once : StoreByte → StoreByte
taken_at_once s = record { number = s.number; address = s.address; byte = s.byte; began = s.began; ended = Some s.began }

-- the stores as the flat law has them for a load: those that were requested before it
abbrev pub at_request : LoadByte → List StoreByte → List StoreByte
at_request l stores = map taken_at_once (filter (λ s. nat_lt s.began l.began) stores)
