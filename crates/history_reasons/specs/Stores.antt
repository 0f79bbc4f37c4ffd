-- The stores of a log, each kept whole.
use Rattle.std.specs.Prelude.{ℕ, ◌+◌, ◌-◌, ◌==◌, ◌&&◌, nat_le, min, if◌then◌else◌, Bool, List, [], ◌∷◌, ◌++◌, take, drop, length, Option}
use Rattle.std.specs.Prelude.{Some, None, suc, zero, is_none, reverse}
use Rattle.std.specs.List.{flat_map, filter_map, find}
use Rattle.std.specs.Option.{option_map}
use Rattle.memory_histories.specs.declared.windows.StoreByte.{StoreByte}
use Rattle.memory_histories.specs.Parts.{lane_bytes, lanes_of, lane_at}
use Rattle.history_reasons.specs.declared.stores.KeptStore.{KeptStore}

-- the bytes of a store, which has room for 64
abbrev pub bytes_in : KeptStore → List ℕ
bytes_in s = take (min s.length 64) s.bytes

-- a byte that is enabled, or none
abbrev pub all_lanes : KeptStore → List (Option ℕ)
all_lanes s = lanes_of (bytes_in s) s.enables

-- those from the first on that isn't forgotten, and its address
abbrev pub lanes_in : KeptStore → List (Option ℕ)
lanes_in s = drop s.from (all_lanes s)

abbrev pub first_in : KeptStore → ℕ
first_in s = s.address + s.from

-- the bytes that a store stands for, and all that these stores do
abbrev pub bytes_of : KeptStore → List StoreByte
bytes_of s = lane_bytes s.number (first_in s) (lanes_in s) s.began s.ended

abbrev pub all_bytes : List KeptStore → List StoreByte
all_bytes stores = flat_map bytes_of stores

-- the one at an address, and those of all these stores
abbrev pub byte_of : KeptStore → ℕ → ℕ → StoreByte
byte_of s address b = record { number = s.number; address = address; byte = b; began = s.began; ended = s.ended }

abbrev pub stored_at : ℕ → KeptStore → Option StoreByte
stored_at address s = option_map (byte_of s address) (lane_at (first_in s) (lanes_in s) address)

abbrev pub stored_there : ℕ → List KeptStore → List StoreByte
stored_there address stores = filter_map (stored_at address) stores

-- of these the last that passes
abbrev pub last_there : (StoreByte → Bool) → ℕ → List KeptStore → Option StoreByte
last_there p address stores = find p (filter_map (stored_at address) (reverse stores))

-- Requests and answers. ----

-- with this store, if it has a byte
abbrev pub with_store : KeptStore → List KeptStore → List KeptStore
with_store s stores = if length (bytes_of s) == 0 then stores else stores ++ s ∷ []

abbrev pub is_open_store : ℕ → KeptStore → Bool
is_open_store number s = is_none s.ended && (s.number == number)

-- a store once the one that is open under this number is answered
abbrev pub after_answer : ℕ → ℕ → KeptStore → KeptStore
after_answer number moment s = if is_open_store number s
    then record {
      number = s.number;
      address = s.address;
      bytes = s.bytes;
      length = s.length;
      enables = s.enables;
      from = s.from;
      began = s.began;
      ended = Some moment;
    }
    else s

-- What is forgotten. ----

-- how many lanes have so many bytes
abbrev pub lanes_with : ℕ → List (Option ℕ) → ℕ
lanes_with zero lanes = 0
lanes_with (suc n) [] = 0
lanes_with (suc n) (None ∷ lanes) = suc (lanes_with (suc n) lanes)
lanes_with (suc n) (Some b ∷ lanes) = suc (lanes_with n lanes)

-- a store without its first so many bytes, and such a list
abbrev pub without_first : ℕ → KeptStore → KeptStore
without_first count s = record {
  number = s.number;
  address = s.address;
  bytes = s.bytes;
  length = s.length;
  enables = s.enables;
  from = s.from + lanes_with count (lanes_in s);
  began = s.began;
  ended = s.ended;
}

abbrev pub cut : ℕ → List KeptStore → List KeptStore
cut count [] = []
cut count (s ∷ stores) = without_first count s ∷ stores

-- how many stores have all their bytes among so many first ones, and how many of those are then of the next store
abbrev pub gone_stores : ℕ → List KeptStore → ℕ
gone_stores count [] = 0
gone_stores count (s ∷ stores) =
    if nat_le (length (bytes_of s)) count then suc (gone_stores (count - length (bytes_of s)) stores) else 0

abbrev pub gone_bytes : ℕ → List KeptStore → ℕ
gone_bytes count [] = count
gone_bytes count (s ∷ stores) = if nat_le (length (bytes_of s)) count then gone_bytes (count - length (bytes_of s)) stores else count

-- the stores without so many first bytes
abbrev pub without_bytes : ℕ → List KeptStore → List KeptStore
without_bytes count stores = cut (gone_bytes count stores) (drop (gone_stores count stores) stores)
