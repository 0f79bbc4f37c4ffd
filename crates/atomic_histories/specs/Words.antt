-- The bytes of one aligned unit of memory: what stands there, what a store writes there and what a load's answer says of them.
use Rattle.std.specs.Prelude.{ℕ, ◌+◌, ◌-◌, Bool, true, ◌&&◌, if◌then◌else◌, ◌==◌, nat_lt, nat_le, List, [], ◌∷◌, map, Option, Some, None}
use Rattle.std.specs.Prelude.{slice_get, length}
use Rattle.std.specs.List.{range_with_len}
use Rattle.std.specs.Int.{bit_at}
use Rattle.memory_histories.specs.declared.events.Rest.{Rest}
use Rattle.memory_histories.specs.declared.events.Rest.TheVariants.{Zeros, Unknown}
use Rattle.atomic_histories.specs.declared.unit.UnitPlace.{UnitPlace}
use Rattle.atomic_histories.specs.declared.unit.LoadAddress.{LoadAddress}

-- what is said of each byte of a unit, where it is said of each address. A word has eight places, and nothing is said of those
-- beyond the unit's size
abbrev pub at_lane : UnitPlace → (ℕ → Option ℕ) → ℕ → Option ℕ
at_lane unit f k = if nat_lt k unit.size then f (unit.first + k) else None

abbrev pub at_unit : UnitPlace → (ℕ → Option ℕ) → List (Option ℕ)
at_unit unit f = map (at_lane unit f) (range_with_len 0 8)

-- the byte that memory has at an address before the first store: there is none where nothing is known
abbrev pub rest_byte : Rest → Option ℕ
rest_byte Zeros = Some 0
rest_byte Unknown = None

abbrev pub first_byte : Option ℕ → Rest → Option ℕ
first_byte (Some b) rest = Some b
first_byte None rest = rest_byte rest

abbrev pub initial_byte : List ℕ → Rest → ℕ → Option ℕ
initial_byte image rest a = first_byte (slice_get image a) rest

-- the byte that stands for an address in bytes from another address on
abbrev pub byte_for : ℕ → List ℕ → ℕ → Option ℕ
byte_for address bytes a = if nat_le address a then slice_get bytes (a - address) else None

-- byte k of a store, if it is enabled: bit k of `enables` is its enable
abbrev pub enabled_byte : List ℕ → ℕ → ℕ → Option ℕ
enabled_byte bytes enables k = if bit_at enables k == 1 then slice_get bytes k else None

-- the byte that a store writes at an address
abbrev pub stored_byte : ℕ → List ℕ → ℕ → ℕ → Option ℕ
stored_byte address bytes enables a = if nat_le address a then enabled_byte bytes enables (a - address) else None

-- where a load reads that is requested so
abbrev pub reads_from : ℕ → ℕ → LoadAddress
reads_from address enables = record { first = address; enables = enables }

-- the byte that a load's answer gives for an address: there is none if it isn't enabled
abbrev pub read_byte : LoadAddress → List ℕ → ℕ → Option ℕ
read_byte from bytes a = stored_byte from.first bytes from.enables a

-- whether an operation of so many bytes has one at the unit
abbrev pub is_at : UnitPlace → ℕ → ℕ → Bool
is_at unit address length = nat_lt address (unit.first + unit.size) && nat_lt unit.first (address + length)

-- a word once a store has written there
abbrev pub written_byte : Option ℕ → Option ℕ → Option ℕ
written_byte (Some b) old = Some b
written_byte None old = old

unfoldable pub written : List (Option ℕ) → List (Option ℕ) → List (Option ℕ)
written [] word = word
written (b ∷ bs) [] = []
written (b ∷ bs) (w ∷ ws) = written_byte b w ∷ written bs ws

-- whether an answer gives a byte as it stood there: what isn't known may be anything, and of a byte that isn't asked for nothing is said
abbrev pub is_as_it_stood : Option ℕ → Option ℕ → Bool
is_as_it_stood None answer = true
is_as_it_stood (Some b) None = true
is_as_it_stood (Some b) (Some c) = b == c

-- whether these bytes of an answer are the word's, as far as they lie in the unit, which begins at `first`, and are enabled
unfoldable pub is_word_of : ℕ → List (Option ℕ) → LoadAddress → List ℕ → Bool
is_word_of first [] from bytes = true
is_word_of first (b ∷ bs) from bytes = is_as_it_stood b (read_byte from bytes first) && is_word_of (first + 1) bs from bytes

-- the same of bytes that are all enabled, from this one on, if they begin with the unit
unfoldable pub is_first_word : List (Option ℕ) → List ℕ → ℕ → Bool
is_first_word [] bytes k = true
is_first_word (b ∷ bs) bytes k = is_as_it_stood b (slice_get bytes k) && is_first_word bs bytes (k + 1)
