-- The first of some times of memory are in their range, if all are.
use Rattle.std.proofs.Common.{ℕ, zero, suc, ◌<◌, List, [], ◌∷◌, length, get_or, take, arith}
use Rattle.std.specs.List.{All, AllByRecursion}
use Rattle.std.proofs.lemmas.List.Elements.{All-take}

at_each : {X : Type 0} (P : X → Type 0) (xs : List X) → AllByRecursion P xs → (k : ℕ) (d : X) → k < length xs → P (get_or xs k d)
at_each P [] all k d inside = absurd (omega (arith, inside))
at_each P (x ∷ xs) all zero d inside = all.0
at_each P (x ∷ xs) all (suc k) d inside = at_each P xs all.1 k d (omega (arith, inside))

pub all_taken : {X : Type 0} (P : X → Type 0) (n : ℕ) (xs : List X) → AllByRecursion P xs → All P (take n xs)
all_taken P n xs all = All-take P n xs (λ k d inside. at_each P xs all k d inside)
