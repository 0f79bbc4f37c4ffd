-- What holds of each element of a list, or of one of them.
use Rattle.std.proofs.lemmas.Option.{same_Some}
use Rattle.std.proofs.Math.Bool.{and_comm}
use Rattle.memory_histories.proofs.Lists.{filter-filter}
use Rattle.std.proofs.Common.{◌≡◌, ◌⊎◌, ℕ, zero, suc, ◌<◌, Bool, true, false, List, [], ◌∷◌, ◌++◌, map, filter, fold, length, get_or, sym}
use Rattle.std.proofs.Common.{◌∙◌, Some, None, subst, ap, inl, inr, refl, arith}
use Rattle.std.specs.List.{All, list_all, list_any, find}
use Rattle.std.proofs.lemmas.Bool.{cases_Bool, and_parts, and_from, or_parts}
use Rattle.std.proofs.lemmas.List.Elements.{filter_agree, recursion_from_All}
use Rattle.atomic_histories.specs.Stands.{Each, One}

pub one_weaker : {X : Type 0} (P Q : X → Type 0) → ((x : X) → P x → Q x) → (xs : List X) → One P xs → One Q xs
one_weaker P Q f [] h = absurd h
one_weaker P Q f (x ∷ xs) (inl p) = inl (f x p)
one_weaker P Q f (x ∷ xs) (inr h) = inr (one_weaker P Q f xs h)

pub one_left : {X : Type 0} (P : X → Type 0) (xs ys : List X) → One P xs → One P (xs ++ ys)
one_left P [] ys h = absurd h
one_left P (x ∷ xs) ys (inl p) = inl p
one_left P (x ∷ xs) ys (inr h) = inr (one_left P xs ys h)

pub one_last : {X : Type 0} (P : X → Type 0) (xs : List X) (x : X) → P x → One P (xs ++ x ∷ [])
one_last P [] x p = inl p
one_last P (y ∷ ys) x p = inr (one_last P ys x p)

pub one_split : {X : Type 0} (P : X → Type 0) (xs : List X) (x : X) → One P (xs ++ x ∷ []) → One P xs ⊎ P x
one_split P [] x (inl p) = inr p
one_split P [] x (inr h) = absurd h
one_split P (y ∷ ys) x (inl p) = inl (inl p)
one_split P (y ∷ ys) x (inr h) = grind (arith, one_split P ys x h)

pub one_map : {X Y : Type 0} (f : X → Y) (P : Y → Type 0) (xs : List X) → One (λ x. P (f x)) xs → One P (map f xs)
one_map f P [] h = absurd h
one_map f P (x ∷ xs) (inl p) = inl p
one_map f P (x ∷ xs) (inr h) = inr (one_map f P xs h)

-- what holds of one, with what holds of each
pub one_each : {X : Type 0} (P Q : X → Type 0) (xs : List X) → One P xs → Each Q xs → One (λ x. P x × Q x) xs
one_each P Q [] h a = absurd h
one_each P Q (x ∷ xs) (inl p) a = inl (p, a.0)
one_each P Q (x ∷ xs) (inr h) a = inr (one_each P Q xs h a.1)

pub one_none : {X : Type 0} (xs : List X) → One (λ (x : X). ⊥) xs → ⊥
one_none [] h = h
one_none (x ∷ xs) (inl p) = p
one_none (x ∷ xs) (inr h) = one_none xs h

pub one_or : {X : Type 0} (P Q : X → Type 0) (xs : List X) → One (λ x. P x ⊎ Q x) xs → One P xs ⊎ One Q xs
one_or P Q [] h = absurd h
one_or P Q (x ∷ xs) (inl (inl p)) = inl (inl p)
one_or P Q (x ∷ xs) (inl (inr q)) = inr (inl q)
one_or P Q (x ∷ xs) (inr h) = grind (arith, one_or P Q xs h)

pub each_weaker : {X : Type 0} (P Q : X → Type 0) → ((x : X) → P x → Q x) → (xs : List X) → Each P xs → Each Q xs
each_weaker P Q f [] h = tt
each_weaker P Q f (x ∷ xs) h = (f x h.0, each_weaker P Q f xs h.1)

pub each_append : {X : Type 0} (P : X → Type 0) (xs ys : List X) → Each P xs → Each P ys → Each P (xs ++ ys)
each_append P [] ys a b = b
each_append P (x ∷ xs) ys a b = (a.0, each_append P xs ys a.1 b)

pub each_map : {X Y : Type 0} (f : X → Y) (P : Y → Type 0) (xs : List X) → Each (λ x. P (f x)) xs → Each P (map f xs)
each_map f P [] h = tt
each_map f P (x ∷ xs) h = (h.0, each_map f P xs h.1)

pub each_both : {X : Type 0} (P Q : X → Type 0) (xs : List X) → Each P xs → Each Q xs → Each (λ x. P x × Q x) xs
each_both P Q [] a b = tt
each_both P Q (x ∷ xs) a b = ((a.0, b.0), each_both P Q xs a.1 b.1)

pub each_two : {X : Type 0} (P Q R : X → Type 0) → ((x : X) → P x → Q x → R x) → (xs : List X) → Each P xs → Each Q xs → Each R xs
each_two P Q R f xs a b = grind (arith, each_weaker, each_both)

pub one_two : {X : Type 0} (P Q R : X → Type 0) → ((x : X) → P x → Q x → R x) → (xs : List X) → One P xs → Each Q xs → One R xs
one_two P Q R f xs h a = grind (arith, one_weaker, one_each)

pub each_split : {X : Type 0} (P : X → Type 0) (xs ys : List X) → Each P (xs ++ ys) → Each P xs × Each P ys
each_split P [] ys h = (tt, h)
each_split P (x ∷ xs) ys h = let r = each_split P xs ys h.1 in ((h.0, r.0), r.1)

pub each_at : {X : Type 0} (P : X → Type 0) (before : List X) (x : X) (after : List X) → Each P (before ++ x ∷ after) → P x
each_at P [] x after h = h.0
each_at P (y ∷ before) x after h = each_at P before x after h.1

pub each_nth : {X : Type 0} (P : X → Type 0) (xs : List X) (i : ℕ) (d : X) → i < length xs → Each P xs → P (get_or xs i d)
each_nth P [] i d h a = absurd (omega arith)
each_nth P (x ∷ xs) zero d h a = a.0
each_nth P (x ∷ xs) (suc i) d h a = each_nth P xs i d (omega arith) a.1

-- with one element in place of another
pub each_replace : {X : Type 0} (P : X → Type 0) (before : List X) (x y : X) (after : List X) → (P x → P y) → Each P (before ++ x ∷ after)
    → Each P (before ++ y ∷ after)
each_replace P [] x y after f h = (f h.0, h.1)
each_replace P (z ∷ before) x y after f h = (h.0, each_replace P before x y after f h.1)

pub each_filter : {X : Type 0} (P : X → Type 0) (p : X → Bool) (xs : List X) → Each P xs → Each P (filter p xs)
each_filter P p [] h = tt
each_filter P p (x ∷ xs) h = grind (arith, each_filter P p xs h.1)

pub each_unmap : {X Y : Type 0} (f : X → Y) (P : Y → Type 0) (xs : List X) → Each P (map f xs) → Each (λ x. P (f x)) xs
each_unmap f P [] h = tt
each_unmap f P (x ∷ xs) h = (h.0, each_unmap f P xs h.1)

pub one_unmap : {X Y : Type 0} (f : X → Y) (P : Y → Type 0) (xs : List X) → One P (map f xs) → One (λ x. P (f x)) xs
one_unmap f P [] h = absurd h
one_unmap f P (x ∷ xs) (inl p) = inl p
one_unmap f P (x ∷ xs) (inr h) = inr (one_unmap f P xs h)

pub one_filter : {X : Type 0} (P : X → Type 0) (p : X → Bool) (xs : List X) → One (λ x. P x × (p x ≡ true)) xs → One P (filter p xs)
one_filter P p [] h = absurd h
one_filter P p (x ∷ xs) (inl h) = rw h.1 (inl h.0)
one_filter P p (x ∷ xs) (inr h) = grind (arith, one_filter P p xs h)

pub one_elim : {X : Type 0} (P : X → Type 0) (Q : Type 0) (xs : List X) → One P xs → ((x : X) → P x → Q) → Q
one_elim P Q [] h f = absurd h
one_elim P Q (x ∷ xs) (inl p) f = f x p
one_elim P Q (x ∷ xs) (inr h) f = one_elim P Q xs h f

-- the element that is found
pub find_one : {X : Type 0} (q : X → Bool) (xs : List X) (x : X) → find q xs ≡ Some x → One (λ y. (y ≡ x) × (q y ≡ true)) xs
find_one q [] x e = cc
find_one q (y ∷ ys) x e = elim (cases_Bool (q y)) [
  | inl t ↦ inl (same_Some y x (rw t at e), t)
  | inr f ↦ inr (find_one q ys x (rw f at e))
]

pub find_each : {X : Type 0} (P : X → Type 0) (q : X → Bool) (xs : List X) (x : X) → Each P xs → find q xs ≡ Some x
    → P x × (q x ≡ true)
find_each P q xs x a e =
    one_elim _ _ xs (one_each _ P xs (find_one q xs x e) a) (λ y p. (subst P p.0.0 p.1, ap q (sym p.0.0) ∙ p.0.1))

pub find_none : {X : Type 0} (p : X → Bool) (xs : List X) → find p xs ≡ None → list_any p xs ≡ false
find_none p [] e = refl
find_none p (x ∷ xs) e = elim (cases_Bool (p x)) [ inl t ↦ cc | inr f ↦ rw f (find_none p xs (rw f at e)) ]

pub each_from_all : {X : Type 0} (P : X → Type 0) (xs : List X) → All P xs → Each P xs
each_from_all P xs h = recursion_from_All P xs h

-- What each step of a fold keeps, and what one of them finds. ----

pub fold_each : {X Y : Type 0} (Q : X → Type 0) (H : Y → Type 0) (f : X → Y → X) → ((x : X) (y : Y) → Q x → H y → Q (f x y))
    → (x : X) (ys : List Y) → Q x → Each H ys → Q (fold f x ys)
fold_each Q H f k x [] q a = q
fold_each Q H f k x (y ∷ ys) q a = fold_each Q H f k _ ys (k x y q a.0) a.1

pub fold_one : {X Y : Type 0} (Q : X → Type 0) (H : Y → Type 0) (f : X → Y → X) → ((x : X) (y : Y) → Q x ⊎ H y → Q (f x y))
    → (x : X) (ys : List Y) → Q x ⊎ One H ys → Q (fold f x ys)
fold_one Q H f k x [] (inl q) = q
fold_one Q H f k x [] (inr h) = absurd h
fold_one Q H f k x (y ∷ ys) (inl q) = fold_one Q H f k (f x y) ys (inl (k x y (inl q)))
fold_one Q H f k x (y ∷ ys) (inr (inl p)) = fold_one Q H f k _ ys (inl (k x y (inr p)))
fold_one Q H f k x (y ∷ ys) (inr (inr h)) = fold_one Q H f k _ ys (inr h)

-- What a test says of each element. ----

pub always_all : {X : Type 0} (p : X → Bool) → ((x : X) → p x ≡ true) → (xs : List X) → list_all p xs ≡ true
always_all p f [] = refl
always_all p f (x ∷ xs) = and_from (p x) _ (f x) (always_all p f xs)

pub all_weaker : {X : Type 0} (p q : X → Bool) → ((x : X) → p x ≡ true → q x ≡ true) → (xs : List X) → list_all p xs ≡ true
    → list_all q xs ≡ true
all_weaker p q f [] h = refl
all_weaker p q f (x ∷ xs) h =
    let r = and_parts (p x) _ h in and_from (q x) _ (f x r.0) (all_weaker p q f xs r.1)

pub all_each : {X : Type 0} (p : X → Bool) (xs : List X) → list_all p xs ≡ true → Each (λ x. p x ≡ true) xs
all_each p [] h = tt
all_each p (x ∷ xs) h = let r = and_parts (p x) _ h in (r.0, all_each p xs r.1)

pub each_all : {X : Type 0} (p : X → Bool) (xs : List X) → Each (λ x. p x ≡ true) xs → list_all p xs ≡ true
each_all p [] h = refl
each_all p (x ∷ xs) h = and_from (p x) _ h.0 (each_all p xs h.1)

pub one_any : {X : Type 0} (p : X → Bool) (xs : List X) → One (λ x. p x ≡ true) xs → list_any p xs ≡ true
one_any p [] h = absurd h
one_any p (x ∷ xs) (inl t) = rw t refl
one_any p (x ∷ xs) (inr h) = grind (arith, one_any p xs h)

pub none_filtered : {X : Type 0} (p q : X → Bool) (xs : List X) → list_any p xs ≡ false → list_any p (filter q xs) ≡ false
none_filtered p q [] h = refl
none_filtered p q (x ∷ xs) h =
    let r = or_parts (p x) _ h in
    elim (cases_Bool (q x)) [
      | inl t ↦ rw t (rw r.0 (none_filtered p q xs r.1))
      | inr f ↦ rw f (none_filtered p q xs r.1)
    ]

pub none_each : {X : Type 0} (p : X → Bool) (xs : List X) → Each (λ x. p x ≡ true → ⊥) xs → list_any p xs ≡ false
none_each p [] a = refl
none_each p (x ∷ xs) a = grind (arith, none_each p xs a.1)

pub filter_swap : {X : Type 0} (p q : X → Bool) (xs : List X) → filter q (filter p xs) ≡ filter p (filter q xs)
filter_swap p q xs = grind (arith, filter-filter, filter_agree, and_comm)

-- a list with a last element is not the empty one
pub no_snoc : {X : Type 0} (xs : List X) (x : X) → xs ++ x ∷ [] ≡ [] → ⊥
no_snoc [] x h = cc
no_snoc (a ∷ xs) x h = cc
