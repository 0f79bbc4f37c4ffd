-- What a history adds up to: each byte that was stored, and each byte of an open load, with the window of its operation.
use Rattle.std.specs.Int.{bit_at}
use Rattle.std.specs.Prelude.{ℕ, ◌+◌, ◌-◌, ◌/◌, ◌%◌, Bool, ◌&&◌, if◌then◌else◌, ◌==◌, List, [], ◌∷◌, ◌++◌, map, length, Some, None}
use Rattle.std.specs.Prelude.{is_none, not}
use Rattle.std.specs.List.{filter, range_with_len}
use Rattle.memory_histories.specs.declared.events.HistoryEvent.{HistoryEvent}
use Rattle.memory_histories.specs.declared.events.HistoryEvent.TheVariants.{LoadRequest, LoadResponse, StoreRequest, StoreResponse}
use Rattle.memory_histories.specs.declared.events.Rest.{Rest}
use Rattle.memory_histories.specs.declared.windows.StoreByte.{StoreByte}
use Rattle.memory_histories.specs.declared.windows.LoadByte.{LoadByte}

-- memory before the first store, how many events there were, and the bytes of all stores so far and of the open loads.
-- A moment is the number of an event, counted from 0
pub record Windows : Type 0 where
  pub image : List ℕ
  pub rest : Rest
  pub moment : ℕ
  pub stores : List StoreByte
  pub loads : List LoadByte

-- no event yet
abbrev pub opening : List ℕ → Rest → Windows
opening image rest = record { image = image; rest = rest; moment = 0; stores = []; loads = [] }

abbrev pub cons_if : {X : Type 0} → Bool → X → List X → List X
cons_if b x xs = if b then x ∷ xs else xs

-- the enabled bytes of a store that is requested at this moment: the lowest bit of `enables` is the first byte's
abbrev pub store_bytes : ℕ → ℕ → List ℕ → ℕ → ℕ → List StoreByte
store_bytes number address [] enables moment = []
store_bytes number address (b ∷ bs) enables moment =
    cons_if (enables % 2 == 1) (record { number = number; address = address; byte = b; began = moment; ended = None })
    (store_bytes number (address + 1) bs (enables / 2) moment)

-- the bytes of a load that is requested at this moment: bit k of `enables` is the enable of byte k
abbrev pub load_byte : ℕ → ℕ → ℕ → ℕ → ℕ → LoadByte
load_byte number first enables moment a =
    record { number = number; address = a; began = moment; enabled = bit_at enables (a - first) == 1 }

abbrev pub load_bytes : ℕ → ℕ → ℕ → ℕ → ℕ → List LoadByte
load_bytes number address length enables moment = map (load_byte number address enables moment) (range_with_len address length)

-- whether a byte's store is open, under this number
abbrev pub is_open : ℕ → StoreByte → Bool
is_open number s = is_none s.ended && (s.number == number)

-- whether a byte is of the load that is open under this number
abbrev pub is_of : ℕ → LoadByte → Bool
is_of number l = l.number == number

-- whether it is the one at this address
abbrev pub is_at : ℕ → ℕ → LoadByte → Bool
is_at number address l = is_of number l && (l.address == address)

-- the byte after the response of the store that is open under this number
abbrev pub after_response : ℕ → ℕ → StoreByte → StoreByte
after_response number moment s = if is_open number s
    then record { number = s.number; address = s.address; byte = s.byte; began = s.began; ended = Some moment } else s

-- what an event changes
abbrev pub stores_after : Windows → HistoryEvent → List StoreByte
stores_after w (StoreRequest number address bytes enables) = w.stores ++ store_bytes number address bytes.now enables w.moment
stores_after w (StoreResponse number) = map (after_response number w.moment) w.stores
stores_after w event = w.stores

abbrev pub loads_after : Windows → HistoryEvent → List LoadByte
loads_after w (LoadRequest number address length enables) = w.loads ++ load_bytes number address length enables w.moment
loads_after w (LoadResponse number bytes) = filter (λ l. not (is_of number l)) w.loads
loads_after w event = w.loads

-- the windows after an event
abbrev pub windows_after : Windows → HistoryEvent → Windows
windows_after w event =
    record {
      image = w.image;
      rest = w.rest;
      moment = w.moment + 1;
      stores = stores_after w event;
      loads = loads_after w event;
    }
