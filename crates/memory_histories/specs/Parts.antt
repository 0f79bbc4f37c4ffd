-- The bytes of a store by unit of eight aligned addresses, as the judge of the regular law keeps them.
use Rattle.std.specs.Prelude.{ℕ, ◌≡◌, ◌<◌, ◌+◌, ◌*◌, ◌/◌, ◌%◌, Bool, ◌&&◌, not, if◌then◌else◌, ◌==◌, List, [], ◌∷◌, ◌++◌, map, take, drop}
use Rattle.std.specs.Prelude.{length, Option, Some, None, is_none, is_some}
use Rattle.std.specs.List.{filter, list_any, fold, range_with_len}
use Rattle.memory_histories.specs.declared.windows.StoreByte.{StoreByte}
use Rattle.memory_histories.specs.declared.parts.StorePart.{StorePart}
use Rattle.memory_histories.specs.declared.sets.ByteSet.{ByteSet}
use Rattle.memory_histories.specs.Sets.{with_byte}
use Rattle.memory_histories.specs.Regular.{is_before}

-- the bytes of a store from an address on, lane by lane: a lane without a byte is none of the store's
abbrev pub lane_bytes : ℕ → ℕ → List (Option ℕ) → ℕ → Option ℕ → List StoreByte
lane_bytes number address [] began ended = []
lane_bytes number address (None ∷ ls) began ended = lane_bytes number (address + 1) ls began ended
lane_bytes number address (Some b ∷ ls) began ended =
    (record { number = number; address = address; byte = b; began = began; ended = ended }) ∷ lane_bytes number (address + 1) ls began ended

-- the enabled bytes of a store as lanes
abbrev pub lanes_of : List ℕ → ℕ → List (Option ℕ)
lanes_of [] enables = []
lanes_of (b ∷ bs) enables = (if enables % 2 == 1 then Some b else None) ∷ lanes_of bs (enables / 2)

-- the byte at an address, where these are the lanes from another address on
abbrev pub lane_at : ℕ → List (Option ℕ) → ℕ → Option ℕ
lane_at address [] a = None
lane_at address (l ∷ ls) a = if address == a then l else lane_at (address + 1) ls a

-- the lanes of a unit
abbrev pub unit_lanes : ℕ → (ℕ → Option ℕ) → List (Option ℕ)
unit_lanes unit at = map at (range_with_len (8 * unit) 8)

-- the lanes of a part: a unit has eight
abbrev pub eight : StorePart → List (Option ℕ)
eight p = take 8 p.lanes

-- the bytes of a part, and of parts
abbrev pub part_bytes : StorePart → List StoreByte
part_bytes p = lane_bytes p.number (8 * p.unit) (eight p) p.began p.ended

abbrev pub parts_bytes : List StorePart → List StoreByte
parts_bytes [] = []
parts_bytes (p ∷ ps) = part_bytes p ++ parts_bytes ps

-- a part with other lanes
abbrev pub with_lanes : List (Option ℕ) → StorePart → StorePart
with_lanes lanes p = record { number = p.number; unit = p.unit; lanes = lanes; began = p.began; ended = p.ended }

-- no part at all
abbrev pub nothing : StorePart
nothing = record { number = 0; unit = 0; lanes = []; began = 0; ended = None }

-- the part of a store that lies in a unit, before it has a byte, and once it has what the store with these bytes writes there
abbrev pub empty_part : ℕ → ℕ → ℕ → StorePart
empty_part number unit moment = record {
  number = number;
  unit = unit;
  lanes = None ∷ None ∷ None ∷ None ∷ None ∷ None ∷ None ∷ None ∷ [];
  began = moment;
  ended = None;
}

abbrev pub written : ℕ → List ℕ → ℕ → StorePart → StorePart
written from bytes enables p = with_lanes (unit_lanes p.unit (lane_at from (lanes_of bytes enables))) p

-- whether a part is of a store that is open under this number
abbrev pub is_open_part : ℕ → StorePart → Bool
is_open_part number p = is_none p.ended && (p.number == number)

abbrev pub has_lane : StorePart → Bool
has_lane p = list_any is_some (eight p)

-- whether it has a byte, too
abbrev pub is_open_with : ℕ → StorePart → Bool
is_open_with number p = is_open_part number p && has_lane p

-- the byte of a part at an address
abbrev pub part_at : StorePart → ℕ → Option ℕ
part_at p a = lane_at (8 * p.unit) (eight p) a

-- the set with this byte, if it is one
abbrev pub with_known : ByteSet → Option ℕ → ByteSet
with_known set None = set
with_known set (Some b) = with_byte set b

-- a lane that is written over
abbrev pub cleared : Option ℕ → Option ℕ → Option ℕ
cleared None lane = lane
cleared (Some b) lane = None

-- what is left of a part of a unit once a part is answered, and once all of these are
abbrev pub clears : ℕ → StorePart → StorePart → Bool
clears unit end p = (end.unit == unit) && ((p.unit == end.unit) && is_before p.ended end.began)

abbrev pub cleared_lanes : List (Option ℕ) → List (Option ℕ) → List (Option ℕ)
cleared_lanes [] ls = ls
cleared_lanes (e ∷ es) [] = []
cleared_lanes (e ∷ es) (l ∷ ls) = cleared e l ∷ cleared_lanes es ls

abbrev pub without_part : ℕ → StorePart → StorePart → StorePart
without_part unit end p = if clears unit end p
    then record { number = p.number; unit = p.unit; lanes = cleared_lanes end.lanes p.lanes; began = p.began; ended = p.ended }
    else p

abbrev pub without_parts : ℕ → List StorePart → StorePart → StorePart
without_parts unit ending p = fold (λ q end. without_part unit end q) p ending

-- a part whose store is answered at a moment, and those of these parts that lie in a unit
abbrev pub answered_part : ℕ → StorePart → StorePart
answered_part moment p = record { number = p.number; unit = p.unit; lanes = p.lanes; began = p.began; ended = Some moment }

abbrev pub is_part_in : ℕ → StorePart → Bool
is_part_in unit p = p.unit == unit

abbrev pub joined_parts : ℕ → List StorePart → ℕ → List StorePart
joined_parts moment ending unit = map (answered_part moment) (filter (is_part_in unit) ending)

-- one of these parts alone is of the store that is open under a number, and it stands at this place
abbrev pub IsOnly : ℕ → List StorePart → ℕ → Type 0
IsOnly number ps place = (place < length ps) × ((filter (is_open_part number) ps ≡ take 1 (drop place ps))
    × (filter (λ p. not (is_open_part number p)) ps ≡ take place ps ++ drop (place + 1) ps))
