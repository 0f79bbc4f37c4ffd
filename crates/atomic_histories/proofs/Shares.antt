-- What is left of stretches.
use Rattle.std.proofs.Common.{◌≡◌, ℕ, ◌+◌, ◌<◌, ◌≤◌, Bool, true, false, List, [], ◌∷◌, ◌++◌, length, get_or, take, drop, length-append}
use Rattle.std.proofs.Common.{Option, Result, OnOk, Some, None, refl, subst, sym, ap, ap₂, ◌∙◌, add-one, take-suc, arith, inl, inr}
use Rattle.std.proofs.lemmas.List.{get_or_append_left, get_or_past, length-take-le, take-append-le, take-append-drop}
use Rattle.std.proofs.lemmas.Bool.{cases_order}
use Rattle.std.proofs.Math.Seq.{get_or-append_seam}
use Rattle.atomic_histories.specs.declared.stretches.Before.{Before}
use Rattle.atomic_histories.specs.declared.stretches.Before.TheVariants.{Nothing, Behind}
use Rattle.atomic_histories.specs.declared.stretches.Stretch.{Stretch}
use Rattle.atomic_histories.specs.declared.stretches.Stretch.TheVariants.{Overwritten, Either}
use Rattle.atomic_histories.specs.declared.splits.Split.{Split}
use Rattle.atomic_histories.specs.Pasts.{Past, Stood, begins, after, either, got, missed, merged_any, after_any, stood}
use Rattle.atomic_histories.specs.Shown.{past_at, past_of, pasts, Grows}
use Rattle.atomic_histories.specs.Shares.{share_in, past_any, IsInAny, IsShare, AreShares, IsSplit}
use Rattle.atomic_histories.proofs.Frames.{pasts_push, length_pasts, past_grown, in_grown, grows_longer}

-- A share stays one while stretches are pushed. ----

in_any_grown : (ss ts : List Stretch) → Grows ss ts → (share : Option Before) → IsInAny ss share → IsInAny ts share
in_any_grown ss ts g x3 h = grind (arith, in_grown)

pub past_any_grown : (ss ts : List Stretch) → Grows ss ts → (share : Option Before) → IsInAny ss share
    → past_any (pasts ts) share ≡ past_any (pasts ss) share
past_any_grown ss ts g x3 h = grind (arith, past_grown)

pub share_grown : (ss ts : List Stretch) (share : Option Before) (past : Option Past) → Grows ss ts → IsShare ss share past
    → IsShare ts share past
share_grown ss ts share past g h = grind (arith, past_any_grown, in_any_grown)

-- The shares of the stretches before a place. ----

pub at_push : {X : Type 0} (xs : List X) (x d : X) (k : ℕ) → k ≡ length xs → get_or (xs ++ x ∷ []) k d ≡ x
at_push xs x d k e = rw e (get_or-append_seam xs x [] d)

pub past_push : {X : Type 0} (xs : List X) (x d : X) (k : ℕ) → length xs < k → get_or (xs ++ x ∷ []) k d ≡ d
past_push xs x d k h = grind (arith, get_or_past, length-append)

pushed : (left : Past → Option Past) (bare : Option Before) (ps : List Past) (p : Past) (ss : List Stretch) (shares : List (Option Before))
    (share : Option Before) → length shares ≡ length ps
    → ((b : Before) → IsShare ss (share_in bare shares b) (left (past_at ps b)))
    → IsShare ss share (left p) → (b : Before) → IsShare ss (share_in bare (shares ++ share ∷ []) b) (left (past_at (ps ++ p ∷ []) b))
pushed left bare ps p ss shares share l h here Nothing = h Nothing
pushed left bare ps p ss shares share l h here (Behind k) = elim (cases_order k _) [
  | inl e ↦ rw (at_push shares share bare k (e ∙ sym l), at_push ps p begins k e) here
  | inr o ↦ elim o [
    | inl b ↦ rw (get_or_append_left shares _ bare k (omega (arith, b, l)), get_or_append_left ps _ begins k b)
        (h (Behind k))
    | inr a ↦ rw (past_push shares share bare k (omega (arith, a, l)), past_push ps p begins k a) (h Nothing)
  ]
]

pub pasts_take : (ss : List Stretch) (place : ℕ) (s : Stretch) → place < length ss → s ≡ get_or ss place s
    → pasts (take (place + 1) ss) ≡ pasts (take place ss) ++ past_of (pasts (take place ss)) s ∷ []
pasts_take ss place s p e =
    let more : take _ ss ≡ take place ss ++ s ∷ [] = grind (arith, add-one, take-suc) in
    ap pasts more ∙ pasts_push (take place ss) s

pub pasts_length : (ss : List Stretch) (place : ℕ) → place ≤ length ss → length (pasts (take place ss)) ≡ place
pasts_length ss place p = length_pasts _ ∙ length-take-le place ss p

-- with the share of one stretch more, while others are pushed
pub shares_more : (left : Past → Option Past) (bare : Option Before) (place : ℕ) (ss us : List Stretch) (s : Stretch)
    (shares : List (Option Before)) (share : Option Before)
    → place < length ss → s ≡ get_or ss place s → length shares ≡ place → Grows ss us → AreShares left bare place ss shares
    → IsShare us share (left (past_of (pasts (take place ss)) s))
    → AreShares left bare (place + 1) us (shares ++ share ∷ [])
shares_more left bare place ss us s shares share p e l g h here before =
    let ps = pasts (take place ss) in
    let kept =
    ap (take (place + 1)) g.1 ∙ take-append-le _ ss g.0 (omega (arith, p)) in
    let long = l ∙ sym (pasts_length ss place (omega (arith, p))) in
    let so_far : (b : Before) → IsShare us _ _ =
    λ b. share_grown ss us _ _ g (h b) in
    rw (kept, pasts_take ss place s p e) (pushed left bare ps (past_of ps s) us shares share long so_far here before)

-- What a stretch itself shows. ----

grows_take : (ss : List Stretch) (place : ℕ) → Grows (take place ss) ss
grows_take ss place = (drop place ss, sym (take-append-drop place ss))

pub stands : (ss : List Stretch) (place : ℕ) (s : Stretch) → place < length ss → s ≡ get_or ss place s
    → past_at (pasts ss) (Behind place) ≡ past_of (pasts (take place ss)) s
stands ss place s p e =
    let ps = pasts (take place ss) in
    let within : place < length _ = grind (arith, length-take-le) in
    past_grown _ ss (grows_take ss (place + 1)) (Behind place) within
    ∙ ap (λ xs. get_or xs place begins) (pasts_take ss place s p e)
    ∙ at_push ps _ begins place (sym (pasts_length ss place (omega (arith, p))))

-- what is left of it is left of a stretch before the place
pub stays : (bare : Option Before) (place : ℕ) (ss : List Stretch) (shares : List (Option Before)) (b : Before)
    → ((k : ℕ) → bare ≡ Some (Behind k) → ⊥) → place ≤ length ss → length shares ≡ place → share_in bare shares b ≡ Some b
    → past_at (pasts (take place ss)) b ≡ past_at (pasts ss) b
stays bare place ss shares x4 n p l e = grind (arith, past_grown, grows_take, length-take-le, get_or_past)

pub none_got : (k : ℕ) → None ≡ Some (Behind k) → ⊥
none_got k e = cc

pub none_missed : (k : ℕ) → Some Nothing ≡ Some (Behind k) → ⊥
none_missed k e = cc

stands_grown : (ss ts : List Stretch) (place : ℕ) (s : Stretch) → place < length ss → s ≡ get_or ss place s → Grows ss ts
    → (place < length ts) × (s ≡ get_or ts place s)
stands_grown ss ts place s p e g = grind (arith, grows_longer, get_or_append_left)

-- a word's stretch is what is left of it if all is left that stood there before
pub word_same : (bare : Option Before) (place : ℕ) (ss ts : List Stretch) (s : Stretch) (word : List (Option ℕ)) (moment : ℕ) (b : Before)
    (shares : List (Option Before)) (share : Option Before)
    → ((k : ℕ) → bare ≡ Some (Behind k) → ⊥) → place < length ss → s ≡ get_or ss place s → Grows ss ts → s ≡ Overwritten word moment b
    → length shares ≡ place → share ≡ share_in bare shares b → share ≡ Some b
    → past_at (pasts ts) (Behind place) ≡ after word moment (past_at (pasts ts) b)
word_same bare place ss ts s word moment b shares share n p e g is l i whole =
    let moved = stands_grown ss ts place s p e g in
    stands ts place s moved.0 moved.1 ∙ ap (past_of (pasts (take place ts))) is
    ∙ ap (after word moment) (stays bare place ts shares b n (omega (arith, moved.0)) l (sym i ∙ whole))

-- and that of two pasts if all is left of both
pub two_same : (bare : Option Before) (place : ℕ) (ss ts : List Stretch) (s : Stretch) (one other : Before)
    (shares : List (Option Before)) (share more : Option Before)
    → ((k : ℕ) → bare ≡ Some (Behind k) → ⊥) → place < length ss → s ≡ get_or ss place s → Grows ss ts → s ≡ Either one other
    → length shares ≡ place → share ≡ share_in bare shares one → more ≡ share_in bare shares other → share ≡ Some one → more ≡ Some other
    → past_at (pasts ts) (Behind place) ≡ either (past_at (pasts ts) one) (past_at (pasts ts) other)
two_same bare place ss ts s one other shares share more n p e g is l i j whole more_whole =
    let moved = stands_grown ss ts place s p e g in
    let here : place ≤ length ts = omega (arith, moved.0) in
    stands ts place s moved.0 moved.1 ∙ ap (past_of (pasts (take place ts))) is
    ∙ ap₂ either (stays bare place ts shares one n here l (sym i ∙ whole)) (stays bare place ts shares other n here l (sym j ∙ more_whole))

-- What is left of it. ----

module _ (left : Past → Option Past) (bare : Option Before) (place : ℕ) (ss ts : List Stretch) where
  -- a share shows what is left of the past before a place
  shown_share : (b : Before)
      (shares : List (Option Before))
      (share : Option Before) → AreShares left bare place ss shares → Grows ss ts → share ≡ share_in bare shares b
      → past_any (pasts ts) share ≡ left (past_at (pasts (take place ss)) b)
  shown_share b shares share h g i = grind (arith, past_any_grown)

  pub word_left : (us : List Stretch) (word : List (Option ℕ))
      (moment : ℕ)
      (b : Before) (shares : List (Option Before)) (share r : Option Before)
      → left (after word moment (past_at (pasts (take place ss)) b)) ≡ after_any word moment (left (past_at (pasts (take place ss)) b))
      → AreShares left bare place ss shares → Grows ss ts → share ≡ share_in bare shares b
      → IsShare us r (after_any word moment (past_any (pasts ts) share))
      → IsShare us r (left (after word moment (past_at (pasts (take place ss)) b)))
  word_left us word moment b shares share r law h g i here =
      subst (IsShare us r) (ap (after_any word moment) (shown_share b shares share h g i) ∙ sym law) here

  pub two_left : (us : List Stretch) (one other : Before)
      (shares : List (Option Before)) (share more r : Option Before)
      → left (either (past_at (pasts (take place ss)) one) (past_at (pasts (take place ss)) other))
      ≡ merged_any (left (past_at (pasts (take place ss)) one)) (left (past_at (pasts (take place ss)) other))
      → AreShares left bare place ss shares → Grows ss ts → share ≡ share_in bare shares one → more ≡ share_in bare shares other
      → IsShare us r (merged_any (past_any (pasts ts) share) (past_any (pasts ts) more))
      → IsShare us r (left (either (past_at (pasts (take place ss)) one) (past_at (pasts (take place ss)) other)))
  two_left us one other shares share more r law h g i j here =
      subst (IsShare us r)
      (ap₂ merged_any (shown_share one shares share h g i) (shown_share other shares more h g j)
      ∙ sym law) here

-- the shares of one stretch more, of which each is among the last stretches
pub split_more : (is : Stood → Bool) (place : ℕ) (ss us : List Stretch) (s : Stretch) (split new : Split) (past : Past)
    (g m : Option Before)
    → place < length ss → s ≡ get_or ss place s → past_of (pasts (take place ss)) s ≡ past → Grows ss us → IsSplit is place ss split
    → IsShare us g (got is past) → IsShare us m (missed is past)
    → new.got.items ≡ split.got.items ++ g ∷ [] → new.missed.items ≡ split.missed.items ++ m ∷ []
    → IsSplit is (place + 1) us new
split_more is place ss us s split new past g m p e shows grows h got_is missed_is new_got new_missed = record {
  got = λ b. rw new_got (shares_more (got is) None place ss us s split.got.items g p e h.got_places grows h.got (rw shows got_is) b);
  missed = λ b. rw new_missed
      (shares_more (missed is) (Some Nothing) place ss us s split.missed.items m p e h.missed_places grows h.missed (rw shows missed_is) b);
  got_places = grind (arith, length-append);
  missed_places = grind (arith, length-append);
}

-- the whole of a stretch is got
pub whole_got : (is : Stood → Bool) (ss : List Stretch) (place : ℕ) (s : Stretch) (word : List (Option ℕ)) (moment : ℕ) (b : Before)
    → place < length ss → s ≡ get_or ss place s → s ≡ Overwritten word moment b → is (stood word moment) ≡ true
    → IsShare ss (Some (Behind place)) (got is (after word moment (past_at (pasts (take place ss)) b)))
whole_got is ss place s word moment b p e of t = record {
  shows = rw t (ap Some (stands ss place s p e ∙ ap (past_of (pasts (take place ss))) of));
  is_in = p;
}

pub whole_missed : (is : Stood → Bool) (ss : List Stretch) (word : List (Option ℕ)) (moment : ℕ) (past : Past)
    → is (stood word moment) ≡ true
    → IsShare ss None (missed is (after word moment past))
whole_missed is ss word moment past t = grind arith

module _ (is : Stood → Bool) (word : List (Option ℕ)) (moment : ℕ) (past : Past) where
  pub got_word : is (stood word moment) ≡ false
      → got is (after word moment past) ≡ after_any word moment (got is past)
  got_word f = rw f refl

  pub missed_word : is (stood word moment) ≡ false
      → missed is (after word moment past) ≡ after_any word moment (missed is past)
  missed_word f = rw f refl

pub on_ok_both : {T E A B C : Type 0} (r : Result T E) → (A → B → C) → OnOk r A → OnOk r B → OnOk r C
on_ok_both x0 f a b = grind arith
