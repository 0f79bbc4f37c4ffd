-- The flat law: an operation takes effect at its request, so a load is owed the bytes that stand there then.
use Rattle.std.specs.Int.{bit_at}
use Rattle.std.specs.Prelude.{ℕ, ◌+◌, ◌-◌, ◌/◌, ◌%◌, Bool, ◌&&◌, not, if◌then◌else◌, ◌==◌, nat_lt, List, [], ◌∷◌, ◌++◌, map, length, Option}
use Rattle.std.specs.Prelude.{Some, None, is_none, slice_get}
use Rattle.std.specs.List.{filter, list_any, range_with_len}
use Rattle.std.specs.Option.{option_and_then}
use Rattle.memory_histories.specs.declared.events.HistoryEvent.{HistoryEvent}
use Rattle.memory_histories.specs.declared.events.HistoryEvent.TheVariants.{LoadRequest, LoadResponse, StoreRequest, StoreResponse}
use Rattle.memory_histories.specs.declared.events.HistoryFault.{HistoryFault}
use Rattle.memory_histories.specs.declared.events.Rest.{Rest}
use Rattle.memory_histories.specs.declared.events.Rest.TheVariants.{Zeros, Unknown}
use Rattle.memory_histories.specs.declared.reasons.Owed.{Owed}
use Rattle.memory_histories.specs.declared.reasons.StoreName.{StoreName}
use Rattle.memory_histories.specs.declared.reasons.Owed.TheVariants as owed
use Rattle.memory_histories.specs.declared.flat.OwedByte.{OwedByte}
use Rattle.memory_histories.specs.Regular.{is_inside, has_enabled, enables_any, request_fault, load_response_fault}
use Rattle.memory_histories.specs.Regular.{store_response_fault}

-- what stands at each address, how many events there were, the numbers of the open stores, and what the open loads are owed
pub record Flat : Type 0 where
  pub memory : ℕ → Owed
  pub moment : ℕ
  pub stores : List ℕ
  pub loads : List OwedByte

-- before the first store there is the image, and beyond it zeros, or nothing is known
abbrev pub beyond : Rest → Owed
beyond Zeros = owed.Initial 0
beyond Unknown = owed.Unknown

abbrev pub initial : Option ℕ → Rest → Owed
initial (Some b) rest = owed.Initial b
initial None rest = beyond rest

abbrev pub opening : List ℕ → Rest → Flat
opening image rest = record { memory = λ a. initial (slice_get image a) rest; moment = 0; stores = []; loads = [] }

-- a function of addresses with another value at one of them
abbrev pub with_value : {X : Type 0} → (ℕ → X) → ℕ → X → (ℕ → X)
with_value at address new a = if address == a then new else at a

-- and with those of the enabled bytes that lie from an address on
abbrev pub with_bytes : {X : Type 0} → (ℕ → X) → (ℕ → X) → ℕ → List ℕ → ℕ → (ℕ → X)
with_bytes at value address [] enables = at
with_bytes at value address (b ∷ bs) enables =
    with_bytes (if enables % 2 == 1 then with_value at address (value b) else at) value (address + 1) bs (enables / 2)

-- memory once a store is requested
abbrev pub stored : (ℕ → Owed) → StoreName → ℕ → List ℕ → ℕ → (ℕ → Owed)
stored memory store address bytes enables = with_bytes memory (λ b. owed.Stored b store) address bytes enables

-- what a load from an address on asks for: of a byte that isn't enabled nothing is known
abbrev pub asked : (ℕ → Owed) → ℕ → ℕ → (ℕ → Owed)
asked memory address enables a = if bit_at enables (a - address) == 1 then memory a else owed.Unknown

-- a load that is requested now is owed what stands there
abbrev pub owed_bytes : (ℕ → Owed) → ℕ → ℕ → ℕ → List OwedByte
owed_bytes memory number address n = map (λ a. record { number = number; address = a; owed = memory a }) (range_with_len address n)

-- whether a load that is owed this may return a byte
abbrev pub is_paid_by : Owed → ℕ → Bool
is_paid_by owed.Unknown b = nat_lt b 256
is_paid_by (owed.Initial byte) b = byte == b
is_paid_by (owed.Stored byte store) b = byte == b

abbrev pub may_return : OwedByte → ℕ → Bool
may_return l b = is_paid_by l.owed b

abbrev pub is_of : ℕ → OwedByte → Bool
is_of number l = l.number == number

abbrev pub is_at : ℕ → ℕ → OwedByte → Bool
is_at number address l = is_of number l && (l.address == address)

abbrev pub is_open : ℕ → ℕ → Bool
is_open number n = n == number

-- why the history with this event is none of the law
abbrev pub flat_fault : Flat → HistoryEvent → Option HistoryFault
flat_fault f (LoadRequest number address n enables) =
    request_fault (is_inside address n) (enables_any n enables) (list_any (is_of number) f.loads)
flat_fault f (LoadResponse number bytes) = load_response_fault may_return (filter (is_of number) f.loads) bytes.now
flat_fault f (StoreRequest number address bytes enables) =
    request_fault (is_inside address (length bytes.now)) (has_enabled bytes.now enables) (list_any (is_open number) f.stores)
flat_fault f (StoreResponse number) = store_response_fault (list_any (is_open number) f.stores)

-- what an event changes
abbrev pub memory_after : Flat → HistoryEvent → (ℕ → Owed)
memory_after f (StoreRequest number address bytes enables) =
    stored f.memory (record { number = number; requested = f.moment }) address bytes.now enables
memory_after f event = f.memory

abbrev pub stores_after : Flat → HistoryEvent → List ℕ
stores_after f (StoreRequest number address bytes enables) = f.stores ++ number ∷ []
stores_after f (StoreResponse number) = filter (λ n. not (is_open number n)) f.stores
stores_after f event = f.stores

abbrev pub loads_after : Flat → HistoryEvent → List OwedByte
loads_after f (LoadRequest number address n enables) = f.loads ++ owed_bytes (asked f.memory address enables) number address n
loads_after f (LoadResponse number bytes) = filter (λ l. not (is_of number l)) f.loads
loads_after f event = f.loads

abbrev pub flat_after : Flat → HistoryEvent → Flat
flat_after f event =
    record {
      memory = memory_after f event;
      moment = f.moment + 1;
      stores = stores_after f event;
      loads = loads_after f event;
    }

-- one event, where it is one of the law
abbrev pub flat_step : Flat → HistoryEvent → Option Flat
flat_step f event = if is_none (flat_fault f event) then Some (flat_after f event) else None

-- a whole history of the law: memory after it
abbrev pub flat_run : Flat → List HistoryEvent → Option Flat
flat_run f [] = Some f
flat_run f (event ∷ events) = option_and_then (λ g. flat_run g events) (flat_step f event)
