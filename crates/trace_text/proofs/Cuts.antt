-- A text is cut at its first space.
use Rattle.std.proofs.Common.{◌≡◌, ◌≢◌, ℕ, ◌+◌, ◌<◌, Bool, true, false, Option, Some, None, List, [], ◌∷◌, ◌++◌, length, take}
use Rattle.std.proofs.Common.{drop, get_or, take-append-drop, drop-cons, add-one, length-append, append-nil, refl, sym, subst}
use Rattle.std.proofs.Common.{arith}
use Rattle.std.specs.Prelude.{cond, ◌==◌}
use Rattle.std.proofs.lemmas.Bool.Decides.{nat_tests}
use Rattle.std.proofs.lemmas.Bool.{eqb-true}
use Rattle.std.proofs.lemmas.List.Sums.{passes_at_first}
use Rattle.std.proofs.Math.Seq.{take-append_seam, drop-append-add}
use Rattle.std.specs.List.{AllByRecursion, position_or_len}
use Rattle.trace_text.specs.Lines.{cut_at, cut_of}

-- bytes with no space among them
abbrev pub NoSpace : List ℕ → Type 0
NoSpace = AllByRecursion (λ b. b ≢ 32)

place : (xs ys : List ℕ) → NoSpace xs → (0 < length ys → get_or ys 0 0 ≡ 32) → position_or_len (λ b. b == 32) (xs ++ ys) ≡ length xs
place [] [] none first = refl
place [] (y ∷ ys) none first = grind arith
place (x ∷ xs) ys none first = grind (arith, place xs ys)

pub cut_front : (xs ys : List ℕ) → NoSpace xs → cut_of (xs ++ 32 ∷ ys) ≡ (xs, Some ys)
cut_front xs ys none = grind (arith, place xs (32 ∷ ys), take-append_seam xs (32 ∷ ys), drop-append-add xs (32 ∷ ys) 1, length-append)

cut_none : (xs : List ℕ) → NoSpace xs → cut_of xs ≡ (xs, None)
cut_none xs none = grind (arith, place xs [], append-nil)

-- a front and what stands behind the space after it
abbrev pub whole : List ℕ → Option (List ℕ) → List ℕ
whole front None = front
whole front (Some rest) = front ++ 32 ∷ rest

at_space : (text : List ℕ) (i : ℕ) → i < length text → get_or text i 0 ≡ 32 → text ≡ take i text ++ 32 ∷ drop (i + 1) text
at_space text i lt is = grind (arith, add-one, drop-cons, take-append-drop)

cut_test : (text : List ℕ) (i : ℕ) (b : Bool) → (b ≡ true → text ≡ take i text ++ 32 ∷ drop (i + 1) text)
    → text ≡ whole (cut_at text (cond b (Some i) None)).0 (cut_at text (cond b (Some i) None)).1
cut_test text i true h = h refl
cut_test text i false h = refl

-- a text is what it is cut into
pub cut_is : (text : List ℕ) → text ≡ whole (cut_of text).0 (cut_of text).1
cut_is text = grind (arith, cut_test, nat_tests, at_space, eqb-true, passes_at_first)

pub cut_whole : (front : List ℕ) (rest : Option (List ℕ)) → NoSpace front → cut_of (whole front rest) ≡ (front, rest)
cut_whole front None none = cut_none front none
cut_whole front (Some rest) none = cut_front front rest none

-- what holds of each text that is cut and read as `l` holds of this one
pub cut_read : {L : Type 0} (P : List ℕ → Type 0) (from : List ℕ × Option (List ℕ) → Option L) (l : L) (f : List ℕ)
    → ((t : List ℕ) → from (t, None) ≡ None) → ((t a : List ℕ) → from (t, Some a) ≡ Some l → P (t ++ 32 ∷ a))
    → from (cut_of f) ≡ Some l → P f
cut_read P from l f none some e = subst P (sym (cut_is f)) (go (cut_of f) e)
  where
    go : (p : List ℕ × Option (List ℕ)) → from p ≡ Some l → P (whole p.0 p.1)
    go (t, None) is = let nothing = none t in cc
    go (t, Some a) is = some t a is
