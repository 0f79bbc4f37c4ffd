-- Sets of bytes as their tests.
use Rattle.std.proofs.Common.{◌≡◌, ℕ, ◌<◌, ◌||◌, ◌==◌, false, nat_lt, if◌then◌else◌, get_or, set, arith}
use Rattle.std.specs.Prelude.{bit_or}
use Rattle.std.specs.Int.{bit_at}
use Rattle.std.proofs.lemmas.Nat.Bits.{bit_at_or, bit_at-pow_same, bit_at-pow_other, bit_at-lt, bit_at_ones, bit_at_ones_above}
use Rattle.memory_histories.specs.declared.sets.ByteSet.{ByteSet}
use Rattle.memory_histories.specs.Sets.{has, with_byte, union, no_bytes, all_bytes, four}

-- The bytes of two sets. ----

either_bit : (a b i : ℕ) → (bit_at (bit_or a b) i == 1) ≡ ((bit_at a i == 1) || (bit_at b i == 1))
either_bit a b i = grind (arith, bit_at_or, bit_at-lt)

-- a bit more
-- the words of the set with a byte
word_set : (s : ByteSet) (w k v : ℕ) → w < 4 → k < 4 → get_or (set (four s.words) w v) k 0 ≡ (if w == k then v else get_or s.words k 0)
word_set s w k v h l = grind arith

pub has-no_bytes : (b : ℕ) → has no_bytes b ≡ false
unfolding has
has-no_bytes b = grind arith

pub has-with_byte : (s : ByteSet) (c b : ℕ) → has (with_byte s c) b ≡ (has s b || (c == b))
unfolding has with_byte
has-with_byte s c b = grind (arith, word_set, either_bit, bit_at-pow_same, bit_at-pow_other)

pub has-union : (s t : ByteSet) (b : ℕ) → has (union s t) b ≡ (has s b || has t b)
unfolding has union
has-union s t b = grind (arith, either_bit)

pub has-all_bytes : (b : ℕ) → has all_bytes b ≡ nat_lt b 256
unfolding has
has-all_bytes b = grind (arith, bit_at_ones 64, bit_at_ones_above 64)
