-- Fields that are named one by one are all of a list of so many.
use Rattle.std.proofs.Common.{◌≡◌, ℕ, zero, suc, List, [], ◌∷◌, length, map, slice_index_or, refl, ap, ◌∙◌, arith}
use Rattle.named_fields.specs.Formats.{Named, said}
use Rattle.named_fields.specs.declared.fields.Field.{Field}

-- so many items from a place on
abbrev pub items_from : {X : Type 0} → X → List X → ℕ → ℕ → List X
items_from d xs i zero = []
items_from d xs i (suc n) = slice_index_or xs i d ∷ items_from d xs (suc i) n

behind : {X : Type 0} (d x : X) (xs : List X) (i n : ℕ) → items_from d (x ∷ xs) (suc i) n ≡ items_from d xs i n
behind d x xs i zero = refl
behind d x xs i (suc n) = ap (λ l. slice_index_or xs i d ∷ l) (behind d x xs (suc i) n)

none : (n : ℕ) → zero ≡ suc n → ⊥
none n h = omega (arith, h)

some : (n : ℕ) → suc n ≡ zero → ⊥
some n h = omega (arith, h)

less : (n m : ℕ) → suc n ≡ suc m → n ≡ m
less n m h = omega (arith, h)

all_items : {X : Type 0} (d : X) (xs : List X) (n : ℕ) → length xs ≡ n → items_from d xs 0 n ≡ xs
all_items d [] zero is = refl
all_items d [] (suc n) is = absurd (none n is)
all_items d (x ∷ xs) zero is = absurd (some (length xs) is)
all_items d (x ∷ xs) (suc n) is = ap (λ l. x ∷ l) (behind d x xs 0 n ∙ all_items d xs n (less (length xs) n is))

-- what so many fields say, one by one
pub told : (d : Field) (xs : List Field) (n : ℕ) (all : List Named) → length xs ≡ n → map said xs ≡ all
    → map said (items_from d xs 0 n) ≡ all
told d xs n all length-is is = ap (map said) (all_items d xs n length-is) ∙ is
