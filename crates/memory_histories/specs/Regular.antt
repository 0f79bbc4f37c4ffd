-- The regular law: which byte a load may return, each byte for itself.
use Rattle.std.specs.Prelude.{ℕ, ◌≡◌, ◌+◌, ◌/◌, ◌%◌, ◌<◌, ◌⊎◌, Bool, true, false, ◌&&◌, ◌||◌, not, if◌then◌else◌, ◌==◌, nat_lt, nat_le}
use Rattle.std.specs.Prelude.{zero, suc, List, [], ◌∷◌, length, Option, Some, None, is_none, slice_get}
use Rattle.std.specs.List.{Any, filter, list_any, zip, position}
use Rattle.std.specs.Option.{option_and_then}
use Rattle.memory_histories.specs.declared.events.HistoryEvent.{HistoryEvent}
use Rattle.memory_histories.specs.declared.events.HistoryEvent.TheVariants.{LoadRequest, LoadResponse, StoreRequest, StoreResponse}
use Rattle.memory_histories.specs.declared.events.HistoryFault.{HistoryFault}
use Rattle.memory_histories.specs.declared.events.HistoryFault.TheVariants.{OutOfRange, NoByteEnabled, NumberInUse, NotOpen, WrongLength}
use Rattle.memory_histories.specs.declared.events.HistoryFault.TheVariants.{WrongByte}
use Rattle.memory_histories.specs.declared.events.Rest.{Rest}
use Rattle.memory_histories.specs.declared.events.Rest.TheVariants.{Zeros, Unknown}
use Rattle.memory_histories.specs.declared.windows.StoreByte.{StoreByte}
use Rattle.memory_histories.specs.declared.windows.LoadByte.{LoadByte}
use Rattle.memory_histories.specs.Windows.{Windows, is_open, is_of, windows_after}

-- The law, to be read aloud. ----

-- an operation was answered before the moment
abbrev pub IsBefore : Option ℕ → ℕ → Type 0
IsBefore None moment = ⊥
IsBefore (Some end) moment = end < moment

-- a byte that was stored was overwritten before the moment: another store to its address was requested after the response
-- of its store, and answered before the moment
abbrev pub IsOverwritten : List StoreByte → StoreByte → ℕ → Type 0
IsOverwritten stores s moment =
    Any (λ other. (other.address ≡ s.address) × (IsBefore s.ended other.began × IsBefore other.ended moment)) stores

-- a load may return what a store left there, if it wasn't overwritten before the load's request
abbrev pub IsLeft : List StoreByte → LoadByte → ℕ → Type 0
IsLeft stores l b = Any (λ s. (s.address ≡ l.address) × ((s.byte ≡ b) × ¬ (IsOverwritten stores s l.began))) stores

-- a store to the byte was answered before the load's request
abbrev pub IsCovered : List StoreByte → LoadByte → Type 0
IsCovered stores l = Any (λ s. (s.address ≡ l.address) × IsBefore s.ended l.began) stores

-- memory may have had the byte at an address before the first store: it is the image's, or the one beyond the image
abbrev pub IsBeyond : Rest → ℕ → Type 0
IsBeyond Zeros b = b ≡ 0
IsBeyond Unknown b = b < 256

abbrev pub IsInitial : Option ℕ → Rest → ℕ → Type 0
IsInitial None rest b = IsBeyond rest b
IsInitial (Some i) rest b = i ≡ b

-- a load may return this byte if it is answered now, and asks for it
abbrev pub MayReturn : List ℕ → Rest → List StoreByte → LoadByte → ℕ → Type 0
MayReturn image rest stores l b = IsLeft stores l b ⊎ (IsInitial (slice_get image l.address) rest b × ¬ (IsCovered stores l))

-- The same as functions. ----

abbrev pub is_rest : Rest → ℕ → Bool
is_rest Zeros b = b == 0
is_rest Unknown b = nat_lt b 256

-- whether memory may have had the byte before the first store, where this is the image's, if it has one there
abbrev pub is_initial : Option ℕ → Rest → ℕ → Bool
is_initial None rest b = is_rest rest b
is_initial (Some i) rest b = i == b

abbrev pub is_before : Option ℕ → ℕ → Bool
is_before None moment = false
is_before (Some end) moment = nat_lt end moment

abbrev pub overwrites : StoreByte → ℕ → StoreByte → Bool
overwrites s moment other = (other.address == s.address) && (is_before s.ended other.began && is_before other.ended moment)

abbrev pub is_overwritten : List StoreByte → StoreByte → ℕ → Bool
is_overwritten stores s moment = list_any (overwrites s moment) stores

abbrev pub is_left : List StoreByte → LoadByte → ℕ → Bool
is_left stores l b = list_any (λ s. (s.address == l.address) && ((s.byte == b) && not (is_overwritten stores s l.began))) stores

abbrev pub is_covered : List StoreByte → LoadByte → Bool
is_covered stores l = list_any (λ s. (s.address == l.address) && is_before s.ended l.began) stores

-- whether a load may return this byte if it is answered now, and asks for it
abbrev pub may_return_byte : List ℕ → Rest → List StoreByte → LoadByte → ℕ → Bool
may_return_byte image rest stores l b = is_left stores l b || (is_initial (slice_get image l.address) rest b && not (is_covered stores l))

-- and what is answered of a byte that isn't enabled may be anything
abbrev pub may_return : Windows → LoadByte → ℕ → Bool
may_return w l b = not l.enabled || may_return_byte w.image w.rest w.stores l b

-- whether a byte is in the set of what a load may return, which then has all 256
abbrev pub is_allowed : Windows → LoadByte → ℕ → Bool
is_allowed w l b = if l.enabled then may_return_byte w.image w.rest w.stores l b else nat_lt b 256

-- Faults. ----

-- an operation lies within memory
abbrev pub is_inside : ℕ → ℕ → Bool
is_inside address length = nat_le 1 length && (nat_le length 64 && nat_le (address + length) 18446744073709551616)

-- whether one of these bytes is enabled
abbrev pub has_enabled : List ℕ → ℕ → Bool
has_enabled [] enables = false
has_enabled (b ∷ bs) enables = (enables % 2 == 1) || has_enabled bs (enables / 2)

-- whether one of so many bytes is
abbrev pub enables_any : ℕ → ℕ → Bool
enables_any zero enables = false
enables_any (suc n) enables = (enables % 2 == 1) || enables_any n (enables / 2)

-- of the faults of an event, the first in the order of its own list
abbrev pub request_fault : Bool → Bool → Bool → Option HistoryFault
request_fault false any used = Some OutOfRange
request_fault true false used = Some NoByteEnabled
request_fault true true true = Some NumberInUse
request_fault true true false = None

abbrev pub store_response_fault : Bool → Option HistoryFault
store_response_fault true = None
store_response_fault false = Some NotOpen

abbrev pub wrong_byte : Option ℕ → Option HistoryFault
wrong_byte None = None
wrong_byte (Some place) = Some (WrongByte place)

-- the first byte that may not be returned
abbrev pub wrong_place : {L : Type 0} → (L → ℕ → Bool) → List L → List ℕ → Option ℕ
wrong_place may loads bytes = position (λ p. not (may p.0 p.1)) (zip loads bytes)

abbrev pub load_response_fault : {L : Type 0} → (L → ℕ → Bool) → List L → List ℕ → Option HistoryFault
load_response_fault may loads bytes =
    if length loads == 0 then Some NotOpen
    else if length loads == length bytes then wrong_byte (wrong_place may loads bytes)
    else Some WrongLength

-- why the history with this event is none of the law
abbrev pub fault : Windows → HistoryEvent → Option HistoryFault
fault w (LoadRequest number address n enables) =
    request_fault (is_inside address n) (enables_any n enables) (list_any (is_of number) w.loads)
fault w (LoadResponse number bytes) = load_response_fault (may_return w) (filter (is_of number) w.loads) bytes.now
fault w (StoreRequest number address bytes enables) =
    request_fault (is_inside address (length bytes.now)) (has_enabled bytes.now enables) (list_any (is_open number) w.stores)
fault w (StoreResponse number) = store_response_fault (list_any (is_open number) w.stores)

-- one event, where it is one of the law
abbrev pub regular_step : Windows → HistoryEvent → Option Windows
regular_step w event = if is_none (fault w event) then Some (windows_after w event) else None

-- a whole history of the law: the windows after it
abbrev pub regular_run : Windows → List HistoryEvent → Option Windows
regular_run w [] = Some w
regular_run w (event ∷ events) = option_and_then (λ v. regular_run v events) (regular_step w event)
