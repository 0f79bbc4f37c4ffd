-- What a load is owed, and memory with the bytes of a store, as the loops over them go.
use Rattle.std.proofs.Common.{◌≡◌, ℕ, ◌+◌, ◌-◌, ◌/◌, ◌%◌, ◌<◌, if◌then◌else◌, ◌==◌, List, [], ◌∷◌, Option, Some, refl, arith}
use Rattle.memory_histories.specs.declared.events.Rest.{Rest}
use Rattle.memory_histories.specs.declared.reasons.Owed.{Owed}
use Rattle.memory_histories.specs.declared.reasons.Owed.TheVariants as owed
use Rattle.memory_histories.specs.declared.reasons.StoreName.{StoreName}
use Rattle.memory_histories.specs.Flat.{owed_bytes, with_value, with_bytes, stored}
use Rattle.memory_histories.specs.FlatShown.{standing}

-- Loops. ----

pub owed_bytes-more : (memory : ℕ → Owed) (n a k i : ℕ) → i < k
    → owed_bytes memory n (a + i) (k - i) ≡ record { number = n; address = a + i; owed = memory (a + i) } ∷ owed_bytes memory n
    (a + (i + 1)) (k - (i + 1))
owed_bytes-more memory n a k i h = grind arith

-- Memory. ----

module _ (image : List ℕ) (rest : Rest) where
  pub standing-bytes : (w : ℕ → Option Owed) (store : StoreName) (a : ℕ) (bs : List ℕ) (e : ℕ)
      → standing image rest (with_bytes w (λ b. Some (owed.Stored b store)) a bs e) ≡ stored (standing image rest w) store a bs e
  standing-bytes w store a [] e = refl
  standing-bytes w store a (b ∷ bs) e =
      grind (arith, standing-bytes (if e % 2 == 1 then with_value w a (Some (owed.Stored b store)) else w) store (a + 1) bs (e / 2))
