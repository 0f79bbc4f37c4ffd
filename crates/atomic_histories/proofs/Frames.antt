-- What stretches show, of which more are pushed behind those that there are.
use Rattle.std.proofs.Common.{◌≡◌, ℕ, ◌+◌, ◌<◌, ◌≤◌, false, List, [], ◌∷◌, ◌++◌, fold, length, get_or, length-append, append_assoc, refl}
use Rattle.std.proofs.Common.{sym, ap, ap₂, ◌∙◌, arith}
use Rattle.std.proofs.lemmas.List.{get_or_append_left, append-nil}
use Rattle.std.proofs.Math.Seq.{get_or-append_seam}
use Rattle.std.proofs.lemmas.List.Sums.{fold-append}
use Rattle.atomic_histories.specs.declared.stretches.Before.{Before}
use Rattle.atomic_histories.specs.declared.stretches.Before.TheVariants.{Nothing, Behind}
use Rattle.atomic_histories.specs.declared.stretches.Stretch.{Stretch}
use Rattle.atomic_histories.specs.declared.pairs.FollowedPair.{FollowedPair}
use Rattle.atomic_histories.specs.Pasts.{Past, begins, either, is_beginning, merged}
use Rattle.atomic_histories.specs.Stands.{Each}
use Rattle.atomic_histories.specs.Shown.{past_at, past_of, pasts, IsIn, Grows, shown, shown_all, AreIn}
use Rattle.atomic_histories.proofs.Lists.{each_weaker, each_append, each_nth}

-- One stretch more. ----

abbrev pub more_past : List Past → Stretch → List Past
more_past ps s = ps ++ past_of ps s ∷ []

pub pasts_push : (ss : List Stretch) (s : Stretch) → pasts (ss ++ s ∷ []) ≡ pasts ss ++ past_of (pasts ss) s ∷ []
pasts_push ss s = fold-append more_past [] ss _

length_more : (ps : List Past) (ss : List Stretch) → length (fold more_past ps ss) ≡ length ps + length ss
length_more ps [] = omega arith
length_more ps (s ∷ ss) = grind (arith, length_more (more_past ps s) ss, length-append)

pub length_pasts : (ss : List Stretch) → length (pasts ss) ≡ length ss
length_pasts ss = grind (arith, length_more)

-- each stretch shows the same with more behind it
pasts_kept : (ps : List Past) (ss : List Stretch) → (more : List Past) × (fold more_past ps ss ≡ ps ++ more)
pasts_kept ps [] = ([], sym (append-nil ps))
pasts_kept ps (s ∷ ss) =
    let h = pasts_kept _ ss in
    (past_of ps s ∷ h.0, h.1 ∙ append_assoc ps _ h.0)

pub pasts_append : (ss more : List Stretch) → (behind : List Past) × (pasts (ss ++ more) ≡ pasts ss ++ behind)
pasts_append ss more =
    let h = pasts_kept _ more in
    (h.0, fold-append more_past [] ss more ∙ h.1)

-- a stretch shows a word at least
more_of : (ps : List Past) (s : Stretch) → is_beginning (past_of ps s) ≡ false
more_of ps x1 = grind arith

more_in : (ps : List Past) (ss : List Stretch) → Each (λ p. is_beginning p ≡ false) ps
    → Each (λ p. is_beginning p ≡ false) (fold more_past ps ss)
more_in ps [] h = h
more_in ps (s ∷ ss) h =
    more_in _ ss (each_append (λ p. is_beginning p ≡ false) ps _ h (more_of ps s, tt))

pub more_behind : (ss : List Stretch) (place : ℕ) → place < length ss → is_beginning (past_at (pasts ss) (Behind place)) ≡ false
more_behind ss place i = grind (arith, each_nth, length_pasts, more_in)

merged_first : (p q : Past) → is_beginning p ≡ false → merged p q ≡ either p q
merged_first p q h = rw h refl

merged_second : (p q : Past) → is_beginning q ≡ false → merged p q ≡ either p q
merged_second x0 q h = grind arith

module _ (ss : List Stretch) (one other : Before) (place : ℕ) where
  -- one of two references is to one of them
  pub merged_one : one ≡ Behind place → IsIn ss one
      → merged (past_at (pasts ss) one) (past_at (pasts ss) other) ≡ either (past_at (pasts ss) one) (past_at (pasts ss) other)
  merged_one e i = grind (arith, more_behind, merged_first)

  pub merged_other : other ≡ Behind place → IsIn ss other
      → merged (past_at (pasts ss) one) (past_at (pasts ss) other) ≡ either (past_at (pasts ss) one) (past_at (pasts ss) other)
  merged_other e i = grind (arith, more_behind, merged_second)

-- More stretches. ----

pub grows_same : (ss : List Stretch) → Grows ss ss
grows_same ss = ([], sym (append-nil ss))

pub grows_more : (ss ts us : List Stretch) → Grows ss ts → Grows ts us → Grows ss us
grows_more ss ts us g h = (g.0 ++ h.0, h.1 ∙ ap (λ xs. xs ++ h.0) g.1 ∙ append_assoc ss g.0 h.0)

pub grows_longer : (ss ts : List Stretch) → Grows ss ts → length ss ≤ length ts
grows_longer ss ts g = grind (arith, length-append)

pub in_grown : (ss ts : List Stretch) → Grows ss ts → (b : Before) → IsIn ss b → IsIn ts b
in_grown ss ts g x3 h = grind (arith, grows_longer)

pub past_grown : (ss ts : List Stretch) → Grows ss ts → (b : Before) → IsIn ss b → past_at (pasts ts) b ≡ past_at (pasts ss) b
past_grown ss ts g Nothing h = refl
past_grown ss ts g (Behind place) h =
    let behind = pasts_append ss g.0 in
    let within : place < length _ = omega (arith, length_pasts ss, h) in
    ap (λ xs. get_or (pasts xs) place begins) g.1 ∙ ap (λ xs. get_or xs place begins) behind.1
    ∙ get_or_append_left _ behind.0 begins place within

-- what a stretch shows that is pushed
pub past_pushed : (ss : List Stretch) (s : Stretch) → past_at (pasts (ss ++ s ∷ [])) (Behind (length ss)) ≡ past_of (pasts ss) s
past_pushed ss s = grind (arith, length_pasts, pasts_push, get_or-append_seam)

-- Pairs. ----

pub pair_grown : (ss ts : List Stretch) → Grows ss ts → (p : FollowedPair) → IsIn ss p.past → shown ts p ≡ shown ss p
pair_grown ss ts g p h = grind (arith, past_grown, p.past)

pub are_in_grown : (ss ts : List Stretch) → Grows ss ts → (ps : List FollowedPair) → AreIn ss ps → AreIn ts ps
are_in_grown ss ts g ps h = grind (arith, each_weaker, in_grown)

pub shown_grown : (ss ts : List Stretch) → Grows ss ts → (ps : List FollowedPair) → AreIn ss ps → shown_all ts ps ≡ shown_all ss ps
shown_grown ss ts g [] h = refl
shown_grown ss ts g (p ∷ ps) h = ap₂ (λ e es. e ∷ es) (pair_grown ss ts g p h.0) (shown_grown ss ts g ps h.1)
