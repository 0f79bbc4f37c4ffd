-- The fields of a line: numbers, masks and words.
use Rattle.std.specs.Prelude.{ℕ, ◌+◌, ◌-◌, ◌*◌, ◌^◌, ◌==◌, Bool, true, false, ◌&&◌, if◌then◌else◌, Option, Some, None, List, [], ◌∷◌}
use Rattle.std.specs.Prelude.{◌++◌, length, nat_le, nat_lt, decimal, replicate}
use Rattle.std.specs.Option.{option_and_then}
use Rattle.flat_model.specs.declared.Word.{Word}
use Rattle.flat_model.specs.declared.Lanes.{Lanes}

-- ---- what digits say

-- a digit `0` to `9`
abbrev pub is_digit : ℕ → Bool
is_digit b = nat_le 48 b && nat_lt b 58

-- the number that these digits make behind n, at most `most`
abbrev pub number_after : ℕ → ℕ → List ℕ → Option ℕ
number_after most n [] = Some n
number_after most n (b ∷ bs) = if is_digit b && nat_le (n * 10 + (b - 48)) most then number_after most (n * 10 + (b - 48)) bs else None

-- no digit at all, or a zero before further digits
abbrev pub begins_badly : List ℕ → Bool
begins_badly [] = true
begins_badly (b ∷ []) = false
begins_badly (b ∷ c ∷ bs) = b == 48

-- the number whose decimal digits these are, at most `most`
abbrev pub number_of : ℕ → List ℕ → Option ℕ
number_of most bs = if begins_badly bs then None else number_after most 0 bs

-- a digit `0` to `9` or `a` to `f` as a number
abbrev pub nibble_of : ℕ → Option ℕ
nibble_of b = if is_digit b then Some (b - 48) else if nat_le 97 b && nat_lt b 103 then Some (b - 87) else None

-- one hexadecimal digit more, if the number stays below 2^64
abbrev pub with_digit : ℕ → Option ℕ → Option ℕ
with_digit n None = None
with_digit n (Some d) = if nat_lt n (2 ^ 60) then Some (n * 16 + d) else None

-- the number that these hexadecimal digits make behind n
abbrev pub hex_after : ℕ → List ℕ → Option ℕ
hex_after n [] = Some n
hex_after n (b ∷ bs) = option_and_then (λ k. hex_after k bs) (with_digit n (nibble_of b))

-- the number of hexadecimal digits, at least one
abbrev pub hex_of : List ℕ → Option ℕ
hex_of bs = if length bs == 0 then None else hex_after 0 bs

-- a lane's digit as the lane's bit
abbrev pub bit_of : ℕ → Option ℕ
bit_of b = if b == 48 then Some 0 else if b == 49 then Some 1 else None

abbrev pub lanes_from : Option ℕ → Option ℕ → Option ℕ → Option ℕ → Option Lanes
lanes_from (Some a) (Some b) (Some c) (Some d) = Some (record { 0 = a + 2 * b + 4 * c + 8 * d })
lanes_from a b c d = None

-- the lanes of four digits, lane 0 first
abbrev pub lanes_of : List ℕ → Option Lanes
lanes_of (a ∷ b ∷ c ∷ d ∷ []) = lanes_from (bit_of a) (bit_of b) (bit_of c) (bit_of d)
lanes_of bs = None

-- the byte of two digits
abbrev pub byte_from : Option ℕ → Option ℕ → Option ℕ
byte_from (Some high) (Some low) = Some (high * 16 + low)
byte_from high low = None

abbrev pub byte_of : ℕ → ℕ → Option ℕ
byte_of high low = byte_from (nibble_of high) (nibble_of low)

abbrev pub word_from : Option ℕ → Option ℕ → Option ℕ → Option ℕ → Option Word
word_from (Some a) (Some b) (Some c) (Some d) = Some (record { b0 = a; b1 = b; b2 = c; b3 = d })
word_from a b c d = None

-- the word of eight digits, byte 0 first
abbrev pub word_of : List ℕ → Option Word
word_of (a ∷ b ∷ c ∷ d ∷ e ∷ f ∷ g ∷ h ∷ []) = word_from (byte_of a b) (byte_of c d) (byte_of e f) (byte_of g h)
word_of bs = None

-- ---- the digits of a value

-- the digits of n, with zeros before them up to a width
abbrev pub padded : ℕ → ℕ → List ℕ
padded width n = replicate (width - length (decimal n)) 48 ++ decimal n
