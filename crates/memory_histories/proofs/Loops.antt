-- One more byte of an operation, as the loops over them go.
use Rattle.std.proofs.Common.{◌≡◌, ℕ, ◌+◌, ◌-◌, ◌/◌, ◌%◌, ◌<◌, ◌||◌, ◌==◌, List, ◌∷◌, length, drop, arith}
use Rattle.std.specs.List.{range_with_len}
use Rattle.std.proofs.lemmas.List.{drop_more}
use Rattle.memory_histories.specs.Regular.{has_enabled, enables_any}

pub has_enabled_more : (bs : List ℕ) (i e : ℕ) → i < length bs
    → has_enabled (drop i bs) e ≡ ((e % 2 == 1) || has_enabled (drop (i + 1) bs) (e / 2))
has_enabled_more bs i e h = grind (arith, drop_more bs i 0)

pub enables_any_more : (n i e : ℕ) → i < n → enables_any (n - i) e ≡ ((e % 2 == 1) || enables_any (n - (i + 1)) (e / 2))
enables_any_more n i e h = grind arith

pub range_more : (a n k : ℕ) → k < n → range_with_len (a + k) (n - k) ≡ (a + k) ∷ range_with_len (a + (k + 1)) (n - (k + 1))
range_more a n k h = grind arith
