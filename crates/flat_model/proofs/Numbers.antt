-- Numbers one behind the other, and the one that a place may have.
use Rattle.std.proofs.Common.{◌≡◌, ℕ, zero, suc, ◌+◌, [], ◌∷◌, ◌++◌, Option, Some, None, true, refl, arith, eq-eqb}
use Rattle.std.specs.List.{range_with_len}
use Rattle.flat_model.specs.Places.{is_number}

-- one number more, at the end
pub range_more : (a n : ℕ) → range_with_len a (n + 1) ≡ range_with_len a n ++ (a + n) ∷ []
range_more a zero = grind arith
range_more a (suc n) = grind (arith, range_more (a + 1) n)

-- and of the numbers from 0 on
pub range_next : (n : ℕ) → range_with_len 0 (n + 1) ≡ range_with_len 0 n ++ n ∷ []
range_next n = grind (arith, range_more 0 n)

pub number_from : (o : Option ℕ) (n : ℕ) → is_number o n ≡ true → o ≡ Some n
number_from None n h = cc
number_from (Some k) n h = grind arith

pub number_is : (o : Option ℕ) (n : ℕ) → o ≡ Some n → is_number o n ≡ true
number_is o n h = cc (h, eq-eqb n n refl)
