-- Banks none of which lacks room.
use Rattle.std.proofs.Common.{◌≡◌, ℕ, zero, suc, ◌+◌, ◌<◌, ◌≤◌, Bool, false, refl, arith}
use Rattle.std.specs.List.{list_any, range_with_len}

pub any_false : (p : ℕ → Bool) (a n : ℕ) → ((k : ℕ) → a ≤ k → k < a + n → p k ≡ false) → list_any p (range_with_len a n) ≡ false
any_false p a zero h = refl
any_false p a (suc n) h = cc (h a (omega arith) (omega arith), any_false p (a + 1) n (λ k lo hi. h k (omega arith) (omega arith)))
