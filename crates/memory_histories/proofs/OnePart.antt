-- A store of one part alone, and a load that alone has its number.
use Rattle.std.specs.Prelude.{zero}
use Rattle.std.proofs.Common.{◌≡◌, ℕ, suc, ◌+◌, ◌<◌, Bool, false, not, List, [], ◌∷◌, ◌++◌, take, drop, length}
use Rattle.std.proofs.Common.{get_or, Some, refl, arith, append-nil, drop-cons}
use Rattle.std.specs.List.{filter, list_any, position}
use Rattle.memory_histories.specs.declared.parts.StorePart.{StorePart}
use Rattle.memory_histories.specs.Windows.{is_open}
use Rattle.memory_histories.specs.Parts.{part_bytes, parts_bytes, IsOnly}
use Rattle.memory_histories.proofs.Pieces.{filter_open, filter_others}

-- what is not found
none_left : {X : Type 0} (q : X → Bool) (xs : List X) → list_any q xs ≡ false → (filter q xs ≡ []) × (filter (λ x. not (q x)) xs ≡ xs)
none_left q [] e = (refl, refl)
none_left q (x ∷ xs) e = grind (arith, none_left q xs)

-- the first that passes a test has no other behind it
pub only_place : {X : Type 0} (q : X → Bool) (xs : List X) (k : ℕ) → position q xs ≡ Some k → list_any q (drop (k + 1) xs) ≡ false
    → (k < length xs) × ((filter q xs ≡ take 1 (drop k xs)) × (filter (λ x. not (q x)) xs ≡ take k xs ++ drop (k + 1) xs))
only_place q (x ∷ xs) (suc k) e f = grind (arith, only_place q xs k)
only_place q (x ∷ xs) zero e f = grind (arith, none_left)
only_place q [] k e f = cc

-- its bytes, and those of the other open stores
pub only_bytes : (n : ℕ) (ps : List StorePart) (k : ℕ) (d : StorePart) → IsOnly n ps k
    → filter (is_open n) (parts_bytes ps) ≡ part_bytes (get_or ps k d)
only_bytes n ps k d h = grind (arith, drop-cons, filter_open, append-nil)

pub other_bytes : (n : ℕ) (ps : List StorePart) (k : ℕ) → IsOnly n ps k
    → filter (λ s. not (is_open n s)) (parts_bytes ps) ≡ parts_bytes (take k ps ++ drop (k + 1) ps)
other_bytes n ps k h = grind (arith, filter_others)
