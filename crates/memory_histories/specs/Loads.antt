-- The open loads, as the judge of the regular law keeps them: of each load one set for each of its bytes.
use Rattle.std.specs.Prelude.{ℕ, ◌≡◌, ◌<◌, not, take, ◌+◌, ◌-◌, ◌*◌, Bool, ◌&&◌, ◌==◌, nat_le, nat_lt, min, drop, List, [], ◌∷◌, ◌++◌}
use Rattle.std.specs.Prelude.{length, Option, Some, None, slice_get, if◌then◌else◌}
use Rattle.std.specs.List.{filter}
use Rattle.memory_histories.specs.declared.loads.OpenLoad.{OpenLoad}
use Rattle.memory_histories.specs.declared.kept.OpenByte.{OpenByte}
use Rattle.memory_histories.specs.declared.parts.StorePart.{StorePart}
use Rattle.memory_histories.specs.declared.sets.ByteSet.{ByteSet}
use Rattle.memory_histories.specs.declared.events.HistoryFault.{HistoryFault}
use Rattle.memory_histories.specs.declared.events.HistoryFault.TheVariants.{NotOpen, WrongLength}
use Rattle.memory_histories.specs.declared.windows.LoadByte.{LoadByte}
use Rattle.memory_histories.specs.Windows.{load_byte}
use Rattle.memory_histories.specs.Kept.{may_have, enabled_set}
use Rattle.std.specs.Int.{bit_at}
use Rattle.std.specs.Option.{option_map}
use Rattle.memory_histories.specs.Regular.{wrong_place, wrong_byte}
use Rattle.memory_histories.specs.Parts.{part_at, with_known}

-- the bytes of a load from an address on, of which these are the sets
abbrev pub set_bytes : (ℕ → LoadByte) → ℕ → List ByteSet → List OpenByte
set_bytes byte address [] = []
set_bytes byte address (s ∷ ss) = (record { load = byte address; may = s }) ∷ set_bytes byte (address + 1) ss

abbrev pub load_open : OpenLoad → List OpenByte
load_open o = set_bytes (load_byte o.number o.address o.enables o.began) o.address o.sets.items

abbrev pub loads_open : List OpenLoad → List OpenByte
loads_open [] = []
loads_open (o ∷ os) = load_open o ++ loads_open os

abbrev pub is_load_of : ℕ → OpenLoad → Bool
is_load_of number o = o.number == number

-- one of these loads alone is open under a number, and it stands at this place
abbrev pub IsOnlyLoad : ℕ → List OpenLoad → ℕ → Type 0
IsOnlyLoad number os place = (place < length os) × ((filter (is_load_of number) os ≡ take 1 (drop place os))
    × (filter (λ o. not (is_load_of number o)) os ≡ take place os ++ drop (place + 1) os))

-- how many bytes these loads have together, as far as can be counted
abbrev pub counted : ℕ → OpenLoad → ℕ
counted total o = min (total + length o.sets.items) 340282366920938463463374607431768211455

-- the sets from an address on once a part of a store is requested
abbrev pub shown_sets : StorePart → ℕ → List ByteSet → List ByteSet
shown_sets p address [] = []
shown_sets p address (s ∷ ss) = with_known s (part_at p address) ∷ shown_sets p (address + 1) ss

-- the sets from an address on once these parts are seen
abbrev pub all_shown_sets : List StorePart → ℕ → List ByteSet → List ByteSet
all_shown_sets [] address sets = sets
all_shown_sets (p ∷ ps) address sets = all_shown_sets ps address (shown_sets p address sets)

-- the sets beside these lanes once their bytes are stored
abbrev pub shown_lanes : List (Option ℕ) → List ByteSet → List ByteSet
shown_lanes [] ss = ss
shown_lanes (l ∷ ls) [] = []
shown_lanes (l ∷ ls) (s ∷ ss) = with_known s l ∷ shown_lanes ls ss

-- the set of an open load's byte at an address
abbrev pub set_at : ℕ → ℕ → OpenLoad → Option ByteSet
set_at number address o =
    if is_load_of number o && nat_le o.address address
    then option_map (enabled_set (bit_at o.enables (address - o.address) == 1)) (slice_get o.sets.items (address - o.address)) else None

abbrev pub or_next : Option ByteSet → Option ByteSet → Option ByteSet
or_next (Some s) next = Some s
or_next None next = next

abbrev pub first_set_at : ℕ → ℕ → List OpenLoad → Option ByteSet
first_set_at number address [] = None
first_set_at number address (o ∷ os) = or_next (set_at number address o) (first_set_at number address os)

-- whether one of so many bytes from an address on lies in the unit of a part
abbrev pub is_near : ℕ → ℕ → StorePart → Bool
is_near address length p = nat_lt (8 * p.unit) (address + length) && nat_lt address (8 * p.unit + 8)

-- the first of these bytes that a load may not return, and the bytes behind its own, if it is open under a number
abbrev pub wrong_in : ℕ → OpenLoad → List ℕ → Option ℕ
wrong_in number o bytes = if is_load_of number o then wrong_place may_have (load_open o) bytes else None

abbrev pub behind : ℕ → OpenLoad → List ℕ → List ℕ
behind number o bytes = if is_load_of number o then drop (min (length o.sets.items) (length bytes)) bytes else bytes

-- why the load that has so many bytes may not be answered with so many of which this is the first wrong one
abbrev pub response_fault : ℕ → ℕ → Option ℕ → Option HistoryFault
response_fault count given place =
    if count == 0 then Some NotOpen else if count == given then wrong_byte place else Some WrongLength
