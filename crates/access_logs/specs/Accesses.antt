-- An access, and the words that it touches. Word w of a program has the bytes from 4 w to 4 w + 3.
use Rattle.std.specs.Prelude.{ℕ, ◌+◌, ◌-◌, ◌*◌, ◌/◌, ◌%◌, ◌^◌, ◌≤◌, Bool, ◌&&◌, if◌then◌else◌, nat_le, nat_lt}
use Rattle.flat_model.specs.declared.Word.{Word}
use Rattle.flat_model.specs.declared.Lanes.{Lanes}
use Rattle.access_logs.specs.declared.access.Access.{Access}
use Rattle.access_logs.specs.declared.access.TheConstants.{MAX_SIZE, WORD_BYTES}

-- it touches 1 to 512 bytes, all of them below 2^64
pub record IsWithin (a : Access) : Type 0 where
  pub some : 1 ≤ a.size
  pub few : a.size ≤ MAX_SIZE
  pub last : a.address + a.size ≤ 2 ^ 64

-- ---- the words from the first to the last

abbrev pub first_word_of : Access → ℕ
first_word_of a = a.address / WORD_BYTES

abbrev pub last_word_of : Access → ℕ
last_word_of a = (a.address + (a.size - 1)) / WORD_BYTES

abbrev pub word_count_of : Access → ℕ
word_count_of a = last_word_of a - first_word_of a + 1

-- ---- bytes

abbrev pub is_touched : Access → ℕ → Bool
is_touched a byte = nat_le a.address byte && nat_lt byte (a.address + a.size)

-- a lane's bit in a mask
abbrev pub bit_at : Access → ℕ → ℕ
bit_at a byte = if is_touched a byte then 1 else 0

-- the lanes of a word that are touched
abbrev pub lanes_at : Access → ℕ → Lanes
lanes_at a w =
    record {
      0 = bit_at a (w * WORD_BYTES) + 2 * bit_at a (w * WORD_BYTES + 1) + 4 * bit_at a (w * WORD_BYTES + 2)
          + 8 * bit_at a (w * WORD_BYTES + 3);
    }

-- What a store in the line of this number writes: no log has its data, so each byte is its address and the line's number.
abbrev pub byte_at : Access → ℕ → ℕ → ℕ
byte_at a number byte = if is_touched a byte then (byte + number) % 256 else 0

abbrev pub word_at : Access → ℕ → ℕ → Word
word_at a number w = record {
  b0 = byte_at a number (w * WORD_BYTES);
  b1 = byte_at a number (w * WORD_BYTES + 1);
  b2 = byte_at a number (w * WORD_BYTES + 2);
  b3 = byte_at a number (w * WORD_BYTES + 3);
}
