-- Pairs beside their marks: ways to one pair have one mark.
use Rattle.std.proofs.Common.{◌≡◌, ℕ, zero, suc, ◌+◌, ◌<◌, ◌≤◌, true, false, ◌==◌, List, [], ◌∷◌, map, drop, length, get_or, add-one, refl}
use Rattle.std.proofs.Common.{sym, ap, ap₂, ◌∙◌, eq-eqb, inl, inr, arith}
use Rattle.std.proofs.lemmas.Bool.{cases_lt}
use Rattle.std.proofs.lemmas.List.{drop_all, get_or-map, length-map}
use Rattle.atomic_histories.specs.declared.stretches.Stretch.{Stretch}
use Rattle.atomic_histories.specs.declared.pairs.FollowedPair.{FollowedPair}
use Rattle.atomic_histories.specs.Followed.{is_same_pair}
use Rattle.atomic_histories.specs.Shown.{shown}
use Rattle.atomic_histories.specs.Marks.{mark, mark_of, before_mark}
use Rattle.atomic_histories.proofs.Found.{pair_decides}

same_mark : (ss : List Stretch) (p q : FollowedPair) → is_same_pair (shown ss p) (shown ss q) ≡ true → mark p ≡ mark q
unfolding mark_of
same_mark ss p q h = grind (arith, pair_decides)

-- pairs with another mark are others
pub other_pair : (ss : List Stretch) (p q : FollowedPair) → (mark p == mark q) ≡ false → is_same_pair (shown ss p) (shown ss q) ≡ false
other_pair ss p q h = grind (arith, eq-eqb, same_mark)

-- Marks one by one. ----

pub mark_here : (ms : List ℕ) (at n d : ℕ) → at < length ms → (get_or ms at d == n) ≡ true → at + before_mark n (drop at ms) ≡ at
mark_here [] at n d h t = absurd (omega arith)
mark_here (m ∷ ms) zero n d h t = rw t refl
mark_here (m ∷ ms) (suc at) n d h t = let k = mark_here ms at n d (omega arith) t in omega (arith, k)

pub mark_later : (ms : List ℕ) (at n d : ℕ) → at < length ms → (get_or ms at d == n) ≡ false
    → at + 1 + before_mark n (drop (at + 1) ms) ≡ at + before_mark n (drop at ms)
mark_later ms at n d h f = rw add-one (go ms at h f)
  where
    go : (ms : List ℕ) (at : ℕ) → at < length ms → (get_or ms at d == n) ≡ false
        → suc at + before_mark n (drop (suc at) ms) ≡ at + before_mark n (drop at ms)
    go [] at h f = absurd (omega arith)
    go _ zero h f = rw f (omega arith)
    go (m ∷ ms) (suc at) h f = let k = go ms at (omega arith) f in omega (arith, k)

pub no_mark : (ms : List ℕ) (at n : ℕ) → length ms ≤ at → at + before_mark n (drop at ms) ≡ at
no_mark ms at n h = grind (arith, drop_all)

before_other : (ms : List ℕ) (n k d : ℕ) → k < before_mark n ms → (get_or ms k d == n) ≡ false
before_other (m ∷ ms) n (suc k) d h = grind (arith, before_other ms n k d)
before_other _ n _ d h = grind arith

-- the marks from a place on to the next that is this one
passed_by : (ms : List ℕ) (n from k d : ℕ) → from ≤ k → k < from + before_mark n (drop from ms) → (get_or ms k d == n) ≡ false
passed_by ms n zero k d l h = grind (arith, before_other)
passed_by [] n (suc from) k d l h = absurd (omega (arith, h))
passed_by (m ∷ ms) n (suc from) zero d l h = absurd (omega (arith, l))
passed_by (m ∷ ms) n (suc from) (suc k) d l h = passed_by ms n from k d (omega (arith, l)) (omega (arith, h))

-- a pair is none of those whose marks were passed by
pub passed : (ss : List Stretch) (ps : List FollowedPair) (p d : FollowedPair) (ms : List ℕ) (m from at : ℕ) → ms ≡ map mark ps → m ≡ mark p
    → at ≡ from + before_mark m (drop from ms)
    → ((k : ℕ) → k < from → is_same_pair (shown ss (get_or ps k d)) (shown ss p) ≡ false)
    → (k : ℕ) → k < at → k < length ps → is_same_pair (shown ss (get_or ps k d)) (shown ss p) ≡ false
passed ss ps p d ms m from at are is here others k h l = elim (cases_lt k from) [
  | inl early ↦ others k early
  | inr late ↦
      let x = passed_by ms m from k _ late (omega (arith, h, here)) in
      let y = ap (λ xs. get_or xs k (mark d)) are ∙ get_or-map mark ps k d _ l in
      other_pair ss (get_or ps k d) p (ap₂ (λ a b. a == b) (sym y) (sym is) ∙ x)
]

-- there are as many marks as pairs
pub as_many : (ms : List ℕ) (ps : List FollowedPair) → ms ≡ map mark ps → length ms ≡ length ps
as_many ms ps h = ap length h ∙ length-map ps mark
