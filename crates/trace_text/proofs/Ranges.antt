-- A range grows at its end.
use Rattle.std.proofs.Common.{◌≡◌, ℕ, ◌+◌, List, ◌++◌, arith}
use Rattle.std.proofs.lemmas.List.{flat_map_more}
use Rattle.std.specs.List.{flat_map, range_with_len}
use Rattle.flat_model.proofs.Numbers.{range_next}

-- what one number more adds
pub flat_map_next : {A : Type 0} (f : ℕ → List A) (front : List A) (n : ℕ) → (front ++ flat_map f (range_with_len 0 n)) ++ f n ≡ front
    ++ flat_map f (range_with_len 0 (n + 1))
flat_map_next f front n = grind (arith, flat_map_more, range_next)
