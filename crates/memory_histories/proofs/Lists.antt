-- Tests over lists that are made of others.
use Rattle.std.proofs.Common.{◌≡◌, ℕ, Bool, true, false, ◌&&◌, ◌||◌, not, List, [], ◌∷◌, ◌++◌, map, Some, refl, ap, arith}
use Rattle.std.proofs.Common.{if◌then◌else◌, suc}
use Rattle.std.specs.List.{All, filter, find, list_any, zip, position}
use Rattle.std.specs.Option.{option_map}
use Rattle.std.proofs.lemmas.List.Elements.{filter-append}

-- Tests. ----

pub list_any-agree : {X : Type 0} (p q : X → Bool) (xs : List X) → All (λ x. p x ≡ q x) xs → list_any p xs ≡ list_any q xs
list_any-agree p q [] a = refl
list_any-agree p q (x ∷ xs) a = grind (arith, a 0 x, list_any-agree p q xs (λ k d l. a (suc k) d (omega arith)))

pub list_any-same : {X : Type 0} (p q : X → Bool) → ((x : X) → p x ≡ q x) → (xs : List X) → list_any p xs ≡ list_any q xs
list_any-same p q e xs = list_any-agree p q xs (λ k d l. e _)

pub list_any-never : {X : Type 0} (p : X → Bool) → ((x : X) → p x ≡ false) → (xs : List X) → list_any p xs ≡ false
list_any-never p e [] = refl
list_any-never p e (x ∷ xs) = grind (arith, list_any-never p e xs)

pub list_any-map : {X Y : Type 0} (f : X → Y) (p : Y → Bool) (xs : List X) → list_any p (map f xs) ≡ list_any (λ x. p (f x)) xs
list_any-map f p [] = refl
list_any-map f p (x ∷ xs) = grind (arith, list_any-map f p xs)

pub list_any-filter : {X : Type 0} (keep q : X → Bool) (xs : List X) → list_any q (filter keep xs) ≡ list_any (λ x. keep x && q x) xs
list_any-filter keep q [] = refl
list_any-filter keep q (x ∷ xs) = grind (arith, list_any-filter keep q xs)

pub list_any-or : {X : Type 0} (p q : X → Bool) (xs : List X) → list_any (λ x. p x || q x) xs ≡ (list_any p xs || list_any q xs)
list_any-or p q [] = refl
list_any-or p q (x ∷ xs) = grind (arith, list_any-or p q xs)

-- Filters. ----

pub filter-filter : {X : Type 0} (p q : X → Bool) (xs : List X) → filter q (filter p xs) ≡ filter (λ x. p x && q x) xs
filter-filter p q [] = refl
filter-filter p q (x ∷ xs) = grind (arith, filter-filter p q xs)

pub filter-map : {X Y : Type 0} (f : X → Y) (q : Y → Bool) (xs : List X) → filter q (map f xs) ≡ map f (filter (λ x. q (f x)) xs)
filter-map f q [] = refl
filter-map f q (x ∷ xs) = grind (arith, filter-map f q xs)

-- a test that says the same of all
pub filter-all : {X : Type 0} (c : Bool) (p : X → Bool) (xs : List X) → All (λ x. p x ≡ c) xs → filter p xs ≡ (if c then xs else [])
filter-all c p [] a = grind arith
filter-all c p (x ∷ xs) a = grind (arith, a 0 x, filter-all c p xs (λ k d l. a (suc k) d (omega arith)))

-- what nothing of passes, no element does
pub none_pass : {X : Type 0} (p : X → Bool) (xs : List X) → filter p xs ≡ [] → All (λ x. p x ≡ false) xs
none_pass p [] e = grind arith
none_pass p (x ∷ xs) e = grind (arith, none_pass p xs)

pub map-map : {X Y Z : Type 0} (f : X → Y) (g : Y → Z) (xs : List X) → map g (map f xs) ≡ map (λ x. g (f x)) xs
map-map f g [] = refl
map-map f g (x ∷ xs) = ap (λ t. g (f x) ∷ t) (map-map f g xs)

-- what passes is kept
pub list_any-kept : {X : Type 0} (keep q : X → Bool) → ((x : X) → q x ≡ true → keep x ≡ true) → (xs : List X)
    → list_any q (filter keep xs) ≡ list_any q xs
list_any-kept keep q h [] = refl
list_any-kept keep q h (x ∷ xs) = grind (arith, h x, list_any-kept keep q h xs)

pub filter-kept : {X : Type 0} (keep q : X → Bool) → ((x : X) → q x ≡ true → keep x ≡ true) → (xs : List X)
    → filter q (filter keep xs) ≡ filter q xs
filter-kept keep q h [] = refl
filter-kept keep q h (x ∷ xs) = grind (arith, h x, filter-kept keep q h xs)

-- lists that are made of those of elements
pub filter-made : {X Y : Type 0} (q : Y → Bool) (r : X → Bool) (g : X → List Y) (h : List X → List Y) → h [] ≡ []
    → ((x : X) (xs : List X) → h (x ∷ xs) ≡ g x ++ h xs) → ((x : X) → filter q (g x) ≡ (if r x then g x else [])) → (xs : List X)
    → filter q (h xs) ≡ h (filter r xs)
filter-made q r g h none more each [] = grind arith
filter-made q r g h none more each (x ∷ xs) = grind (arith, filter-append, filter-made q r g h none more each xs)

-- Look-ups. ----

pub find-map : {X Y : Type 0} (f : X → Y) (q : Y → Bool) (xs : List X) → find q (map f xs) ≡ option_map f (find (λ x. q (f x)) xs)
find-map f q [] = refl
find-map f q (x ∷ xs) = grind (arith, find-map f q xs)

pub find-All : {X : Type 0} (P : X → Type 0) (q : X → Bool) (xs : List X) → All P xs → (x : X) → find q xs ≡ Some x → P x
find-All P q [] a x e = cc
find-All P q (y ∷ ys) a x e = grind (arith, a 0 y, find-All P q ys (λ k d l. a (suc k) d (omega arith)) x)

-- the first place at which two tests over pairs that agree fail
pub position-zip : {X Y : Type 0} (f : X → Y) (p : X → ℕ → Bool) (q : Y → ℕ → Bool) (xs : List X) (bs : List ℕ)
    → All (λ x. (b : ℕ) → p x b ≡ q (f x) b) xs
    → position (λ t. not (p t.0 t.1)) (zip xs bs) ≡ position (λ t. not (q t.0 t.1)) (zip (map f xs) bs)
position-zip f p q (x ∷ xs) (b ∷ bs) a = grind (arith, a 0 x, position-zip f p q xs bs (λ k d l. a (suc k) d (omega arith)))
position-zip f p q [] bs a = refl
position-zip f p q (x ∷ xs) [] a = refl
