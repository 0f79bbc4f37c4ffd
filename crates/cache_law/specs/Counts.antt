-- How many elements of a list pass a test.
use Rattle.std.specs.Prelude.{ℕ, ◌+◌, Bool, true, false, List, [], ◌∷◌}

-- 1 where a test passes, else 0
abbrev pub bit : Bool → ℕ
bit true = 1
bit false = 0

-- how many elements pass a test
abbrev pub tally : {X : Type 0} → (X → Bool) → List X → ℕ
tally p [] = 0
tally p (x ∷ xs) = bit (p x) + tally p xs
