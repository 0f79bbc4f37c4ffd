-- What holds of each element of a list or of one of them, and tests.
use Rattle.std.proofs.Common.{◌≡◌, ℕ, zero, suc, Some, slice_get, Bool, true, false, ◌||◌, ◌⊎◌, List, [], ◌∷◌, ◌++◌, map, inl, inr, refl}
use Rattle.std.proofs.Common.{ap}
use Rattle.std.proofs.Common.{subst, arith}
use Rattle.memory_histories.specs.Windows.{cons_if}
use Rattle.std.specs.List.{filter, find, list_any}
use Rattle.std.proofs.lemmas.Bool.{cases_Bool}
use Rattle.atomic_histories.specs.Stands.{Each, One}
use Rattle.atomic_histories.proofs.Lists.{one_weaker}

-- Each and one. ----

-- what holds of those that pass
pub each_passing : {X : Type 0} (P : X → Type 0) (p : X → Bool) (xs : List X) → Each (λ x. p x ≡ true → P x) xs → Each P (filter p xs)
each_passing P p [] h = tt
each_passing P p (x ∷ xs) h = elim (cases_Bool (p x)) [
  | inl e ↦ rw e (h.0 e, each_passing P p xs h.1)
  | inr e ↦ rw e (each_passing P p xs h.1)
]

pub one_split : {X : Type 0} (P : X → Type 0) (xs ys : List X) → One P (xs ++ ys) → One P xs ⊎ One P ys
one_split P [] ys h = inr h
one_split P (x ∷ xs) ys (inl p) = inl (inl p)
one_split P (x ∷ xs) ys (inr h) = elim (one_split P xs ys h) [ inl a ↦ inl (inr a) | inr a ↦ inr a ]

pub one_right : {X : Type 0} (P : X → Type 0) (xs ys : List X) → One P ys → One P (xs ++ ys)
one_right P [] ys h = h
one_right P (x ∷ xs) ys h = inr (one_right P xs ys h)

pub one_unfilter : {X : Type 0} (P : X → Type 0) (p : X → Bool) (xs : List X) → One P (filter p xs) → One P xs
one_unfilter P p [] h = absurd h
one_unfilter P p (x ∷ xs) h = elim (cases_Bool (p x)) [
  | inl e ↦ let g = (rw e at h) in elim g [ inl a ↦ inl a | inr b ↦ inr (one_unfilter P p xs b) ]
  | inr e ↦ inr (one_unfilter P p xs (rw e at h))
]

-- Tests. ----

pub any_none : {X : Type 0} (p : X → Bool) (xs : List X) → Each (λ x. p x ≡ false) xs → list_any p xs ≡ false
any_none p [] h = refl
any_none p (x ∷ xs) h = rw (h.0, any_none p xs h.1) refl

pub filter_all : {X : Type 0} (p : X → Bool) (xs : List X) → Each (λ x. p x ≡ true) xs → filter p xs ≡ xs
filter_all p [] h = refl
filter_all p (x ∷ xs) h = rw (h.0, filter_all p xs h.1) refl

pub filter_none : {X : Type 0} (p : X → Bool) (xs : List X) → Each (λ x. p x ≡ false) xs → filter p xs ≡ []
filter_none p [] h = refl
filter_none p (x ∷ xs) h = rw (h.0, filter_none p xs h.1) refl

-- One element for another. ----

pub one_replace : {X : Type 0} (P Q : X → Type 0) (before : List X) (x y : X) (after : List X) → ((z : X) → P z → Q z) → (P x → Q y)
    → One P (before ++ x ∷ after) → One Q (before ++ y ∷ after)
one_replace P Q [] x y after f g (inl p) = inl (g p)
one_replace P Q [] x y after f g (inr h) = inr (one_weaker P Q f after h)
one_replace P Q (z ∷ before) x y after f g (inl p) = inl (f z p)
one_replace P Q (z ∷ before) x y after f g (inr h) = inr (one_replace P Q before x y after f g h)

pub one_replaced : {X : Type 0} (P : X → Type 0) (before : List X) (x y : X) (after : List X) → One P (before ++ y ∷ after) → One P (before
    ++ x ∷ after) ⊎ P y
one_replaced P [] x y after (inl p) = inr p
one_replaced P [] x y after (inr h) = inl (inr h)
one_replaced P (z ∷ before) x y after (inl p) = inl (inl p)
one_replaced P (z ∷ before) x y after (inr h) = elim (one_replaced P before x y after h) [ inl a ↦ inl (inr a) | inr p ↦ inr p ]

pub one_at : {X : Type 0} (P : X → Type 0) (before : List X) (x : X) (after : List X) → P x → One P (before ++ x ∷ after)
one_at P [] x after p = inl p
one_at P (z ∷ before) x after p = inr (one_at P before x after p)

pub each_always : {X : Type 0} (P : X → Type 0) → ((x : X) → P x) → (xs : List X) → Each P xs
each_always P f [] = tt
each_always P f (x ∷ xs) = (f x, each_always P f xs)

pub one_never : {X : Type 0} (P Q : X → Type 0) (xs : List X) → One P xs → Each Q xs → ((x : X) → P x → Q x → ⊥) → ⊥
one_never P Q [] h a f = h
one_never P Q (x ∷ xs) (inl p) a f = f x p a.0
one_never P Q (x ∷ xs) (inr h) a f = one_never P Q xs h a.1 f

pub or_more : (x y z : Bool) → (x || z) ≡ true → ((x || y) || z) ≡ true
or_more true y z h = refl
or_more false true z h = refl
or_more false false z h = h

pub each_find : {X : Type 0} (P : X → Type 0) (p : X → Bool) (xs : List X) (x : X) → Each P xs → find p xs ≡ Some x → P x
each_find P p [] x h e = cc
each_find P p (y ∷ ys) x h e = elim (cases_Bool (p y)) [
  | inl t ↦ let s = (rw t at e) in let same : y ≡ x = cc in subst P same h.0
  | inr t ↦ each_find P p ys x h.1 (rw t at e)
]

pub each_get : {X : Type 0} (P : X → Type 0) (xs : List X) (i : ℕ) (x : X) → Each P xs → slice_get xs i ≡ Some x → P x
each_get P [] i x h e = cc
each_get P (y ∷ ys) zero x h e = let same : y ≡ x = cc in subst P same h.0
each_get P (y ∷ ys) (suc i) x h e = each_get P ys i x h.1 e

-- Parts. ----

-- a list of which what a function gives is in parts
pub map_apart : {X Y : Type 0} (f : X → Y) (xs : List X) (before : List Y) (y : Y) (after : List Y) → map f xs ≡ before ++ y ∷ after
    → (b : List X) × (x : X) × (a : List X) × (xs ≡ b ++ x ∷ a) × (map f b ≡ before) × (f x ≡ y) × (map f a ≡ after)
map_apart f [] [] y after h = cc
map_apart f [] (z ∷ zs) y after h = cc
map_apart f (x ∷ xs) [] y after h = ([], x, xs, refl, refl, cc, cc)
map_apart f (x ∷ xs) (z ∷ zs) y after h =
    let r = map_apart f xs zs y after cc in
    (x ∷ r.0, r.1, r.2, ap (λ t. x ∷ t) r.3, cc, r.5, r.6)

-- those that pass, with one that does or doesn't
pub kept_with : {X Y : Type 0} (f : X → Y) (p : X → Bool) (b : List X) (x : X) (a : List X) → p x ≡ true
    → map f (filter p (b ++ x ∷ a)) ≡ map f (filter p b) ++ f x ∷ map f (filter p a)
kept_with f p [] x a h = rw h refl
kept_with f p (y ∷ b) x a h = grind (arith, kept_with f p b x a h)

pub kept_without : {X : Type 0} (p : X → Bool) (b : List X) (x : X) (a : List X) → p x ≡ false → filter p (b ++ x ∷ a) ≡ filter p (b ++ a)
kept_without p [] x a h = rw h refl
kept_without p (y ∷ b) x a h = grind (arith, kept_without p b x a h)

-- to leave out what doesn't pass changes nothing for what does
pub kept_same : {X : Type 0} (p q : X → Bool) (xs : List X) → Each (λ x. q x ≡ false → p x ≡ false) xs
    → filter p xs ≡ filter p (filter q xs)
kept_same p q [] h = refl
kept_same p q (x ∷ xs) h = elim (cases_Bool (q x)) [
  | inl e ↦ rw e (ap (cons_if (p x) x) (kept_same p q xs h.1))
  | inr e ↦ rw (e, h.0 e) (kept_same p q xs h.1)
]
