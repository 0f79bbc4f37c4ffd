-- The fields of a line of a history: numbers, bytes and enables.
use Rattle.std.specs.Prelude.{ℕ, ◌+◌, ◌*◌, ◌==◌, ◌&&◌, if◌then◌else◌, Option, Some, None, List, [], ◌∷◌, length, nat_le}
use Rattle.trace_text.specs.Fields.{number_of, hex_of, bit_of, byte_of}

-- ---- numbers

-- the largest number of 64 bits
abbrev pub most_number : ℕ
most_number = 18446744073709551615

-- a number of 64 bits: hexadecimal behind `0x`, and else decimal
abbrev pub value_of : List ℕ → Option ℕ
value_of (a ∷ b ∷ digits) = if (a == 48) && (b == 120) then hex_of digits else number_of most_number (a ∷ b ∷ digits)
value_of text = number_of most_number text

-- ---- bytes

abbrev pub cons_byte : Option ℕ → Option (List ℕ) → Option (List ℕ)
cons_byte (Some b) (Some bs) = Some (b ∷ bs)
cons_byte b bs = None

-- the bytes of these digits, two digits a byte
abbrev pub bytes_in : List ℕ → Option (List ℕ)
bytes_in [] = Some []
bytes_in (a ∷ []) = None
bytes_in (a ∷ b ∷ rest) = cons_byte (byte_of a b) (bytes_in rest)

-- 1 to 64 bytes
abbrev pub bytes_of : List ℕ → Option (List ℕ)
bytes_of text = if nat_le 2 (length text) && nat_le (length text) 128 then bytes_in text else None

-- ---- enables

abbrev pub enable_before : Option ℕ → Option ℕ → Option ℕ
enable_before (Some bit) (Some enables) = Some (bit + 2 * enables)
enable_before bit enables = None

-- the enables of these digits: the first is the lowest bit
abbrev pub enables_in : List ℕ → Option ℕ
enables_in [] = Some 0
enables_in (b ∷ bs) = enable_before (bit_of b) (enables_in bs)

-- one digit for each of so many bytes; all are enabled if there is no such field
abbrev pub enables_of : ℕ → Option (List ℕ) → Option ℕ
enables_of count None = Some most_number
enables_of count (Some digits) = if length digits == count then enables_in digits else None
