-- The first place in a list.
use Rattle.std.specs.Prelude.{ℕ, suc, Bool, false, if◌then◌else◌, ◌==◌, List, [], ◌∷◌, Option, Some, None}
use Rattle.std.specs.Option.{option_map}

-- the first place at which a test passes
abbrev pub place_of : {X : Type 0} → (X → Bool) → List X → Option ℕ
place_of p [] = None
place_of p (x ∷ xs) = if p x then Some 0 else option_map (λ k. suc k) (place_of p xs)

-- whether this is that number
abbrev pub is_number : Option ℕ → ℕ → Bool
is_number None n = false
is_number (Some m) n = m == n
