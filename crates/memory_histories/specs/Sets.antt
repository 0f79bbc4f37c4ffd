-- Sets of bytes, as four words of 64 bits.
use Rattle.std.specs.Prelude.{ℕ, ◌-◌, ◌*◌, ◌/◌, ◌^◌, Bool, ◌==◌, List, [], ◌∷◌, get_or, set, min, bit_or}
use Rattle.std.specs.Int.{bit_at}
use Rattle.memory_histories.specs.declared.sets.ByteSet.{ByteSet}

-- the word that a byte lies in, and its bit there
abbrev pub word_of : ℕ → ℕ
word_of b = min (b / 64) 3

abbrev pub bit_of : ℕ → ℕ
bit_of b = b - 64 * word_of b

-- the words of a set: it has four
abbrev pub four : List ℕ → List ℕ
four words = get_or words 0 0 ∷ get_or words 1 0 ∷ get_or words 2 0 ∷ get_or words 3 0 ∷ []

abbrev pub no_bytes : ByteSet
no_bytes = record { words = 0 ∷ 0 ∷ 0 ∷ 0 ∷ [] }

abbrev pub all_bytes : ByteSet
all_bytes = record { words = 18446744073709551615 ∷ 18446744073709551615 ∷ 18446744073709551615 ∷ 18446744073709551615 ∷ [] }

-- whether a set has a byte
unfoldable pub has : ByteSet → ℕ → Bool
has s b = bit_at (get_or s.words (word_of b) 0) (bit_of b) == 1

-- the set with this byte
unfoldable pub with_byte : ByteSet → ℕ → ByteSet
with_byte s b = record { words = set (four s.words) (word_of b) (bit_or (get_or s.words (word_of b) 0) (2 ^ bit_of b)) }

-- the words of two sets that have the bytes of both
abbrev pub word_with : ByteSet → ByteSet → ℕ → ℕ
word_with s t i = bit_or (get_or s.words i 0) (get_or t.words i 0)

-- the set of the bytes that are in one of two
unfoldable pub union : ByteSet → ByteSet → ByteSet
union s t = record { words = word_with s t 0 ∷ word_with s t 1 ∷ word_with s t 2 ∷ word_with s t 3 ∷ [] }
