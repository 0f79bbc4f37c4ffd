-- A text is these lines and no others.
use Rattle.std.proofs.Common.{◌≡◌, ◌≢◌, ℕ, suc, ◌+◌, ◌<◌, Option, Some, List, [], ◌∷◌, ◌++◌, length, refl}
use Rattle.std.proofs.Common.{arith, append_assoc, take, length-take, get_or-take}
use Rattle.std.specs.List.{AllByRecursion}
use Rattle.std.proofs.Math.Seq.{get_or-append_seam}
use Rattle.std.proofs.lemmas.List.{get_or_append_left}
use Rattle.trace_text.specs.declared.lines.LineFault.{LineFault}
use Rattle.trace_text.specs.declared.lines.LineFault.TheVariants.{TooLong, NotEnded}
use Rattle.trace_text.specs.Streams.{HasNoEnd}
use Rattle.trace_text.specs.Reading.{joined_texts, IsGood, BeginsFaulty, IsStuck}

tail_none : (x : ℕ) (xs : List ℕ) → HasNoEnd (x ∷ xs) → HasNoEnd xs
tail_none x xs h k lt e = h (suc k) (omega arith) e

head_none : (x : ℕ) (xs : List ℕ) → HasNoEnd (x ∷ xs) → x ≢ 10
head_none x xs h e = h 0 (omega arith) e

abbrev Same : List ℕ → List ℕ → List ℕ → List ℕ → Type 0
Same a b p q = (a ≡ b) × (p ≡ q)

-- the front up to the first LF is one
pub one_front : (a b p q : List ℕ) → HasNoEnd a → HasNoEnd b → a ++ (10 ∷ p) ≡ b ++ (10 ∷ q) → Same a b p q
one_front [] [] p q ha hb e = (refl, cc)
one_front [] (y ∷ b) p q ha hb e = grind (arith, head_none)
one_front (x ∷ a) [] p q ha hb e = grind (arith, head_none)
one_front (x ∷ a) (y ∷ b) p q ha hb e =
    let rest = one_front a b p q (tail_none x a ha) (tail_none y b hb) cc in
    (cc rest.0, rest.1)

pub one_reading : (f : List ℕ → Option LineFault) (most : ℕ) (xs ys : List (List ℕ)) (a b : List ℕ) → AllByRecursion (IsGood f most) xs
    → AllByRecursion (IsGood f most) ys
    → ((text more : List ℕ) → IsGood f most text → a ≡ text ++ (10 ∷ more) → ⊥)
    → ((text more : List ℕ) → IsGood f most text → b ≡ text ++ (10 ∷ more) → ⊥)
    → joined_texts xs ++ a ≡ joined_texts ys ++ b → (xs ≡ ys) × (a ≡ b)
one_reading f most [] [] a b hx hy sa sb e = (refl, e)
one_reading f most [] (t ∷ ys) a b hx hy sa sb e = absurd (sa t (joined_texts ys ++ b) hy.0 (grind (arith, append_assoc)))
one_reading f most (s ∷ xs) [] a b hx hy sa sb e = absurd (sb s (joined_texts xs ++ a) hx.0 (grind (arith, append_assoc)))
one_reading f most (s ∷ xs) (t ∷ ys) a b hx hy sa sb e =
    let first = one_front s t (joined_texts xs ++ a) (joined_texts ys ++ b) hx.0.1 hy.0.1
    (grind (arith, append_assoc)) in
    let rest = one_reading f most xs ys a b hx.1 hy.1 sa sb first.1 in
    (cc (first.0, rest.0), rest.1)

-- a line that is said to be at fault is no good line
at_fault : (f : List ℕ → Option LineFault) (most : ℕ) (text rest : List ℕ) (e : LineFault) (more : List ℕ) → HasNoEnd text → f text ≡ Some e
    → rest ≡ text ++ (10 ∷ more) → IsStuck f most rest
at_fault f most text rest e more none found is s p after good q =
    let same = one_front text s (more ++ after) p none good.1 (grind (arith, append_assoc)) in
    cc (same.0, good.2)

too_long : (f : List ℕ → Option LineFault) (most : ℕ) (rest : List ℕ) → most < length rest → HasNoEnd (take (most + 1) rest)
    → IsStuck f most rest
too_long f most rest long none s p after good q =
    none (length s) (omega (arith, good.0, length-take (most + 1) rest)) (grind (
      arith,
      good.0,
      get_or-take (most + 1) rest (length s) 0,
      get_or_append_left rest after 0 (length s),
      get_or-append_seam s 10 p 0,
    ))

-- a fault of a line stands whatever follows
pub fault_stands : (f : List ℕ → Option LineFault) (most : ℕ) (rest : List ℕ) (e : LineFault) → BeginsFaulty f most rest e
    → IsStuck f most rest
fault_stands f most rest TooLong h = too_long f most rest h.0 h.1
fault_stands f most rest NotEnded h = absurd h
fault_stands f most rest e h = at_fault f most h.0 rest e h.1 h.4 h.5 h.2
