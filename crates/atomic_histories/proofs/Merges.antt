-- A pair is put to those that are followed, or its ways to those that have come there.
use Rattle.std.proofs.Common.{◌≡◌, ℕ, zero, suc, ◌+◌, ◌<◌, ◌≤◌, Bool, true, false, List, [], ◌∷◌, ◌++◌, map, length, take, drop, get_or}
use Rattle.std.proofs.Common.{set, Some, None, refl, ap, ap₂, ◌∙◌, add-one, length-set, arith}
use Rattle.std.specs.List.{position}
use Rattle.std.proofs.lemmas.Bool.{lt-ltb, le-ltb, ltb-false}
use Rattle.std.proofs.lemmas.List.Sums.{position_or_len_is, fails_before_first}
use Rattle.std.proofs.lemmas.List.Quantifiers.{position-Some}
use Rattle.atomic_histories.specs.declared.stretches.Before.{Before}
use Rattle.atomic_histories.specs.declared.stretches.Stretch.{Stretch}
use Rattle.atomic_histories.specs.declared.pairs.FollowedPair.{FollowedPair}
use Rattle.atomic_histories.specs.Pasts.{merged}
use Rattle.atomic_histories.specs.Followed.{Pair, is_same_pair, merged_pair, with_pair}
use Rattle.atomic_histories.specs.Shown.{past_at, pasts, shown, shown_all, IsIn, AreIn, Grows}
use Rattle.atomic_histories.specs.Marks.{mark}
use Rattle.atomic_histories.proofs.Loops.{same_default}
use Rattle.atomic_histories.proofs.Frames.{in_grown, are_in_grown, shown_grown, pair_grown}

-- Places. ----

pub found_at : {X : Type 0} (p : X → Bool) (xs : List X) (i : ℕ) (d : X) → i < length xs → ((k : ℕ) → k < i → p (get_or xs k d) ≡ false)
    → p (get_or xs i d) ≡ true → Some i ≡ position p xs
found_at p xs i d h others here = grind (arith, position_or_len_is, lt-ltb)

pub found_nowhere : {X : Type 0} (p : X → Bool) (xs : List X) (d : X) → ((k : ℕ) → k < length xs → p (get_or xs k d) ≡ false)
    → None ≡ position p xs
found_nowhere p xs d others =
    let at = position_or_len_is p xs _ d (omega arith) others (λ l. absurd (omega arith)) in
    rw (at, le-ltb (length xs) (length xs) (omega arith)) refl

-- it is at none of the places
nowhere : {X : Type 0} (p : X → Bool) (xs : List X) (d : X) → None ≡ position p xs → (k : ℕ) → k < length xs → p (get_or xs k d) ≡ false
nowhere p xs d e k h = grind (arith, fails_before_first, ltb-false)

-- Pairs that are put to others. ----

-- whether it is this pair
abbrev pub is_this : List Stretch → FollowedPair → FollowedPair → Bool
is_this ss p f = is_same_pair (shown ss f) (shown ss p)

module _ (ss : List Stretch) (p : FollowedPair) where
  -- it stands at a place
  put_at : (ps : List FollowedPair) (i : ℕ) → i < length ps
      → ((k : ℕ) → k < i → is_this ss p (get_or ps k p) ≡ false) → is_this ss p (get_or ps i p) ≡ true
      → with_pair (shown_all ss ps) (shown ss p)
      ≡ take i (shown_all ss ps) ++ merged_pair (get_or (shown_all ss ps) i (shown ss p)) (shown ss p) ∷ drop (suc i) (shown_all ss ps)
  put_at [] i h others here = absurd (omega arith)
  put_at (f ∷ fs) zero h others here = rw here refl
  put_at (f ∷ fs) (suc i) h others here =
      let other = others 0 (omega arith) in
      rw other (ap (λ es. shown ss f ∷ es) (put_at fs i (omega arith) (λ k l. others (suc k) (omega arith)) here))

  pub merged_there : (ps xs : List FollowedPair) (i : ℕ) → xs ≡ ps
      → Some i ≡ position (is_this ss p) xs
      → with_pair (shown_all ss ps) (shown ss p)
      ≡ take i (shown_all ss ps) ++ merged_pair (get_or (shown_all ss ps) i (shown ss p)) (shown ss p) ∷ drop (i + 1) (shown_all ss ps)
  merged_there ps xs i are e = grind (arith, position-Some, add-one, put_at)

  pub is_inside : (ps xs : List FollowedPair) (i : ℕ) → xs ≡ ps → Some i ≡ position (is_this ss p) xs
      → i < length ps
  is_inside ps xs i are e = grind arith

  -- it is none of them
  put_last : (ps : List FollowedPair)
      → ((k : ℕ) → k < length ps → is_this ss p (get_or ps k p) ≡ false)
      → with_pair (shown_all ss ps) (shown ss p) ≡ shown_all ss (ps ++ p ∷ [])
  put_last [] others = refl
  put_last (f ∷ fs) others =
      let other = others 0 (omega arith) in
      rw other (ap (λ es. shown ss f ∷ es) (put_last fs (λ k l. others (suc k) (omega arith))))

  pub put_behind : (ps xs next : List FollowedPair) → xs ≡ ps
      → None ≡ position (is_this ss p) xs → next ≡ ps ++ p ∷ []
      → shown_all ss next ≡ with_pair (shown_all ss ps) (shown ss p)
  put_behind ps xs next are e n = grind (arith, put_last, nowhere)

-- The ways to the pair at a place, and others. ----

module _ (ss ts : List Stretch) where
  merged_shown : (f g : FollowedPair) (b past : Before) (e : Pair) → f ≡ g
      → past_at (pasts ts) b ≡ merged (past_at (pasts ss) f.past) (past_at (pasts ss) past) → e.past ≡ past_at (pasts ss) past
      → shown ts (record { word = g.word; stores = g.stores; past = b }) ≡ merged_pair (shown ss g) e
  merged_shown f g b past e same m is = grind arith

  merged_one : Grows ss ts → (ps : List FollowedPair) → AreIn ss ps → (i : ℕ) (g q : FollowedPair) (e : Pair)
      → i < length ps → g ≡ get_or ps i g → shown ts q ≡ merged_pair (shown ss g) e
      → shown_all ts (set ps i q)
      ≡ take i (shown_all ss ps) ++ merged_pair (get_or (shown_all ss ps) i e) e ∷ drop (suc i) (shown_all ss ps)
  merged_one grown [] a i g q e h is m = absurd (omega arith)
  merged_one grown (p ∷ ps) a zero g q e h is m =
      ap₂ (λ x xs. x ∷ xs) (cc (m, is)) (shown_grown ss ts grown ps a.1)
  merged_one grown (p ∷ ps) a (suc i) g q e h is m = grind (arith, merged_one grown ps a.1 i g q e (omega arith) is m, pair_grown)

  pub merged_at : Grows ss ts → (ps : List FollowedPair) → AreIn ss ps → (i : ℕ) (f g : FollowedPair)
      (b past : Before) (e : Pair) → i < length ps → f ≡ get_or ps i f → g ≡ get_or ps i g
      → past_at (pasts ts) b ≡ merged (past_at (pasts ss) f.past) (past_at (pasts ss) past) → e.past ≡ past_at (pasts ss) past
      → shown_all ts (set ps i (record { word = g.word; stores = g.stores; past = b }))
      ≡ take i (shown_all ss ps) ++ merged_pair (get_or (shown_all ss ps) i e) e ∷ drop (i + 1) (shown_all ss ps)
  merged_at grown ps a i f g b past e h fis gis m is = grind (arith, same_default, add-one, merged_one, merged_shown)

  pub merged_in : Grows ss ts → (ps : List FollowedPair) → AreIn ss ps → (i : ℕ) (q : FollowedPair) → IsIn ts q.past
      → AreIn ts (set ps i q)
  merged_in grown [] a i q h = tt
  merged_in grown (p ∷ ps) a zero q h = (h, are_in_grown ss ts grown ps a.1)
  merged_in grown (p ∷ ps) a (suc i) q h = (in_grown ss ts grown p.past a.0, merged_in grown ps a.1 i q h)

merged_marks : (ps : List FollowedPair) (i : ℕ) (g q : FollowedPair) → i < length ps → g ≡ get_or ps i g → mark q ≡ mark g
    → map mark (set ps i q) ≡ map mark ps
merged_marks [] i g q h is m = refl
merged_marks (p ∷ ps) zero g q h is m = ap (λ k. k ∷ map mark ps) (m ∙ ap mark is)
merged_marks (p ∷ ps) (suc i) g q h is m = ap (λ ks. mark p ∷ ks) (merged_marks ps i g q (omega arith) is m)

-- the mark at the place stays
pub still_followed : (ms : List ℕ) (most : ℕ) (ps : List FollowedPair) (i : ℕ) (g : FollowedPair) (b : Before) → i < length ps
    → g ≡ get_or ps i g → (most ≤ length ps → ms ≡ map mark ps)
    → most ≤ length (set ps i (record { word = g.word; stores = g.stores; past = b }))
    → ms ≡ map mark (set ps i (record { word = g.word; stores = g.stores; past = b }))
still_followed ms most ps i g b h is f m = grind (arith, length-set, merged_marks)
