-- Where stretches went.
use Rattle.std.proofs.Common.{◌≡◌, ℕ, ◌+◌, ◌<◌, ◌≤◌, Bool, true, List, [], ◌∷◌, ◌++◌, length, get_or, take, drop, length-append, subst, sym}
use Rattle.std.proofs.Common.{add-one, take-suc, arith, inl, inr}
use Rattle.std.proofs.lemmas.List.{get_or_append_left, get_or_past}
use Rattle.std.proofs.lemmas.Bool.{cases_order}
use Rattle.std.proofs.Math.Seq.{take-length, take-append_seam}
use Rattle.atomic_histories.specs.declared.stretches.Before.{Before}
use Rattle.atomic_histories.specs.declared.stretches.Before.TheVariants.{Nothing, Behind}
use Rattle.atomic_histories.specs.declared.stretches.Stretch.{Stretch}
use Rattle.atomic_histories.specs.declared.pairs.FollowedPair.{FollowedPair}
use Rattle.atomic_histories.specs.declared.moves.Moved.{Moved}
use Rattle.atomic_histories.specs.Pasts.{Past, begins, cut}
use Rattle.atomic_histories.specs.Stands.{Each}
use Rattle.atomic_histories.specs.Shown.{past_at, past_of, pasts, IsIn, Grows}
use Rattle.atomic_histories.specs.Shares.{moved_in, moved_to, moved_stretch, cut_of, AreMoved, is_used, IsUsedBelow, RefersToUsed, StayUsed}
use Rattle.atomic_histories.proofs.Lists.{each_weaker, each_append}
use Rattle.atomic_histories.proofs.Frames.{past_grown, in_grown}
use Rattle.atomic_histories.proofs.Shares.{at_push, past_push, pasts_take, pasts_length}

-- One stretch more. ----

same_more : (used : Before → Bool) (to : Past → Past) (place : ℕ) (ps : List Past) (past : Past) (m : Moved) (ts : List Stretch)
    (r : Before)
    → to begins ≡ begins → length ps ≡ place → length m.places.items ≡ place
    → ((b : Before) → used b ≡ true → past_at (pasts m.stretches.items) (moved_to m b) ≡ to (past_at ps b))
    → ((b : Before) → IsIn m.stretches.items (moved_to m b)) → Grows m.stretches.items ts
    → (used (Behind place) ≡ true → past_at (pasts ts) r ≡ to past)
    → (b : Before) → used b ≡ true → past_at (pasts ts) (moved_in (m.places.items ++ r ∷ []) b) ≡ to (past_at (ps ++ past ∷ []) b)
same_more used to place ps past m ts r bare long placed same is_in g here x15 u =
    grind (arith, at_push, get_or_append_left, past_grown, past_push)

in_more : (place : ℕ) (m : Moved) (ts : List Stretch) (r : Before) → length m.places.items ≡ place
    → ((b : Before) → IsIn m.stretches.items (moved_to m b)) → Grows m.stretches.items ts → IsIn ts r
    → (b : Before) → IsIn ts (moved_in (m.places.items ++ r ∷ []) b)
in_more place m ts r placed is_in g i Nothing = tt
in_more place m ts r placed is_in g i (Behind k) = elim (cases_order k place) [
  | inl e ↦ grind (arith, at_push)
  | inr o ↦ elim o [
    | inl b ↦ rw (get_or_append_left m.places.items _ Nothing k (omega (arith, b, placed)))
        (in_grown m.stretches.items ts g (moved_to m (Behind k)) (is_in (Behind k)))
    | inr a ↦ grind (arith, past_push)
  ]
]

pub moved_more : (used : Before → Bool) (to : Past → Past) (place : ℕ) (ss : List Stretch) (s : Stretch) (m n : Moved) (r : Before)
    → place < length ss → s ≡ get_or ss place s → to begins ≡ begins → AreMoved used to place ss m
    → Grows m.stretches.items n.stretches.items → n.places.items ≡ m.places.items ++ r ∷ [] → IsIn n.stretches.items r
    → (used (Behind place) ≡ true → past_at (pasts n.stretches.items) r ≡ to (past_of (pasts (take place ss)) s))
    → AreMoved used to (place + 1) ss n
moved_more used to place ss s m n r p e bare h g new i here =
    let ps = pasts (take place ss) in
    let past = past_of ps s in
    let more = pasts_take ss place s p e in
    let long = pasts_length ss place (omega (arith, p)) in
    let same =
    same_more used to place ps past m n.stretches.items r bare long h.places h.same h.is_in g here in
    let in_all =
    in_more place m n.stretches.items r h.places h.is_in g i in
    record {
      same = grind arith;
      is_in = λ b. rw new (in_all b);
      places = grind (arith, length-append);
    }

-- all of them
pub moved_all : (used : Before → Bool) (to : Past → Past) (place : ℕ) (ss : List Stretch) (m : Moved) → place ≡ length ss
    → AreMoved used to place ss m → (b : Before) → used b ≡ true
    → past_at (pasts m.stretches.items) (moved_to m b) ≡ to (past_at (pasts ss) b)
moved_all used to place ss m p h b u = grind (arith, h.same, take-length)

-- What was overwritten before a moment is cut. ----

pub cut_law : (since place : ℕ) (ss : List Stretch) (s : Stretch) (m : Moved) → AreMoved (λ b. true) (cut since) place ss m
    → cut_of since (λ b. past_at (pasts m.stretches.items) (moved_to m b)) s ≡ cut since (past_of (pasts (take place ss)) s)
cut_law since place ss x3 m h = grind arith

-- Stretches that are used are kept. ----

same_below : (used : List Bool) (place : ℕ) (ss : List Stretch) (m : Moved) → place ≤ length ss
    → AreMoved (is_used used) (λ p. p) place ss m → (b : Before) → IsUsedBelow used place b
    → past_at (pasts m.stretches.items) (moved_to m b) ≡ past_at (pasts (take place ss)) b
same_below used place ss m p h x6 u = grind (arith, get_or_past, pasts_length)

pub kept_law : (used : List Bool) (place : ℕ) (ss : List Stretch) (s : Stretch) (m : Moved) → place ≤ length ss
    → AreMoved (is_used used) (λ p. p) place ss m → RefersToUsed used place s
    → past_of (pasts m.stretches.items) (moved_stretch m s) ≡ past_of (pasts (take place ss)) s
kept_law used place ss x3 m p h u = grind (arith, same_below)

-- Which are used. ----

pub below_used : (used : List Bool) (end : ℕ) (b : Before) → length used ≡ end → IsUsedBelow used end b → is_used used b ≡ true
below_used used end x2 l u = grind (arith, get_or_past)

pub stays_used : (old new : List Bool) (b : Before) → StayUsed old new → is_used old b ≡ true → is_used new b ≡ true
stays_used old new x2 s u = grind arith

pub pairs_stay : (old new : List Bool) (ps : List FollowedPair) → StayUsed old new → Each (λ p. is_used old p.past ≡ true) ps
    → Each (λ p. is_used new p.past ≡ true) ps
pairs_stay old new ps stay h = grind (arith, each_weaker, stays_used)

-- what a slice of a list was written to stands in the list
pub used_written : (new old : List Bool) (end : ℕ) (ps : List FollowedPair) → length new ≡ end → Each (λ p. is_used new p.past ≡ true) ps
    → Each (λ p. is_used (take end (new ++ drop (length new) old)) p.past ≡ true) ps
used_written new old end ps l h =
    let whole : take end _ ≡ new = grind (arith, take-append_seam) in
    subst (λ used. Each (λ p. is_used used p.past ≡ true) ps) (sym whole) h

-- one pair more
pub pairs_more : (old new : List Bool) (ps : List FollowedPair) (p : FollowedPair) (i end : ℕ) → i < length ps → p ≡ get_or ps i p
    → length new ≡ end → StayUsed old new → IsUsedBelow new end p.past
    → Each (λ q. is_used old q.past ≡ true) (take i ps) → Each (λ q. is_used new q.past ≡ true) (take (i + 1) ps)
pairs_more old new ps p i end l e long stay here h =
    let more : take (i + 1) ps ≡ take i ps ++ p ∷ [] = rw add-one (cc (take-suc ps i p l, e)) in
    rw more (each_append (λ q. is_used new q.past ≡ true) _ _ (pairs_stay old new (take i ps) stay h)
    (below_used new end p.past long here, tt))

-- the pasts of pairs are where their references went
pub pairs_moved : (used : List Bool) (ss : List Stretch) (m : Moved) (ps : List FollowedPair)
    → ((b : Before) → is_used used b ≡ true → past_at (pasts m.stretches.items) (moved_to m b) ≡ past_at (pasts ss) b)
    → Each (λ p. is_used used p.past ≡ true) ps
    → Each (λ p. past_at (pasts m.stretches.items) (moved_to m p.past) ≡ past_at (pasts ss) p.past) ps
pairs_moved used ss m ps same h = grind (arith, each_weaker)
