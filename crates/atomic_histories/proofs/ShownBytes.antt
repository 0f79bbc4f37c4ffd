-- The sets of what stood there are of what a load may have got.
use Rattle.std.proofs.Common.{◌≡◌, ℕ, zero, suc, ◌<◌, Bool, ◌||◌, List, [], ◌∷◌, ◌++◌, fold, get_or, Option, arith, sym, ap, ◌∙◌}
use Rattle.std.specs.List.{list_any}
use Rattle.std.proofs.lemmas.Bool.{lt-ltb}
use Rattle.std.proofs.Math.Bool.{or-false, or_comm, or-true}
use Rattle.memory_histories.specs.declared.sets.ByteSet.{ByteSet}
use Rattle.memory_histories.specs.Sets.{has, no_bytes}
use Rattle.memory_histories.proofs.ByteSets.{has-with_byte, has-union, has-no_bytes, has-all_bytes}
use Rattle.atomic_histories.specs.declared.stretches.Before.{Before}
use Rattle.atomic_histories.specs.declared.stretches.Stretch.{Stretch}
use Rattle.atomic_histories.specs.declared.pairs.FollowedPair.{FollowedPair}
use Rattle.atomic_histories.specs.Pasts.{Past, begins, shows}
use Rattle.atomic_histories.specs.May.{lane_of, may_show, shows_byte, IsSet}
use Rattle.atomic_histories.specs.MaySets.{with_lane, set_of, stretch_set, stretch_sets, with_pair_bytes, with_pairs_bytes}
use Rattle.atomic_histories.specs.Shown.{past_at, past_of, pasts, shown, shown_all}

or_assoc : (a b c : Bool) → ((a || b) || c) ≡ (a || (b || c))
or_assoc x0 b c = grind arith

has_lane : (set : ByteSet) (x : Option ℕ) (b : ℕ) → b < 256 → has (with_lane set x) b ≡ (has set b || may_show x b)
has_lane set x1 b l = grind (arith, has-with_byte, has-all_bytes, lt-ltb, or-true)

module _ (since k b : ℕ) (l : b < 256) where
  abbrev is : List (Option ℕ) → Bool
  is = λ w. may_show (lane_of k w) b

  -- the sets of so many stretches are of their pasts
  abbrev Agree : List ByteSet → List Past → Type 0
  Agree [] [] = Unit {0}
  Agree (s ∷ ss) (p ∷ ps) = (has s b ≡ shows is since p) × Agree ss ps
  Agree _ _ = ⊥

  agree_at : (sets : List ByteSet) (ps : List Past) → Agree sets ps → (i : ℕ)
      → has (get_or sets i no_bytes) b ≡ shows is since (get_or ps i begins)
  agree_at [] [] a i = has-no_bytes b
  agree_at (s ∷ ss) (p ∷ ps) a zero = a.0
  agree_at (s ∷ ss) (p ∷ ps) a (suc i) = agree_at ss ps a.1 i
  agree_at _ _ a i = absurd a

  agree_of : (sets : List ByteSet) (ps : List Past) → Agree sets ps → (r : Before) → has (set_of sets r) b ≡ shows is since (past_at ps r)
  agree_of sets ps a x3 = grind (arith, has-no_bytes, agree_at)

  agree_more : (sets : List ByteSet) (ps : List Past) (s : ByteSet) (p : Past) → Agree sets ps → has s b ≡ shows is since p
      → Agree (sets ++ s ∷ []) (ps ++ p ∷ [])
  agree_more [] [] s p a e = (e, tt)
  agree_more (x ∷ xs) (q ∷ qs) s p a e = (a.0, agree_more xs qs s p a.1 e)
  agree_more _ _ s p a e = absurd a

  one_agrees : (sets : List ByteSet) (ps : List Past) → Agree sets ps → (s : Stretch)
      → has (stretch_set since k sets s) b ≡ shows is since (past_of ps s)
  one_agrees sets ps a x3 = grind (arith, has_lane, agree_of, or_comm, has-union)

  all_agree : (sets : List ByteSet) (ps : List Past) → Agree sets ps → (ss : List Stretch)
      → Agree (fold (λ xs s. xs ++ stretch_set since k xs s ∷ []) sets ss) (fold (λ qs s. qs ++ past_of qs s ∷ []) ps ss)
  all_agree sets ps a [] = a
  all_agree sets ps a (s ∷ ss) =
      all_agree (sets ++ stretch_set since k sets s ∷ []) _
      (agree_more sets ps (stretch_set since k sets s) (past_of ps s) a (one_agrees sets ps a s)) ss

  sets_agree : (ss : List Stretch) → Agree (stretch_sets since k ss) (pasts ss)
  sets_agree ss = all_agree [] [] tt ss

  pair_bytes : (ss : List Stretch) (set : ByteSet) (p : FollowedPair)
      → has (with_pair_bytes k (stretch_sets since k ss) set p) b ≡ (has set b || shows_byte since k b (shown ss p))
  pair_bytes ss set p =
      let before = shows is since (past_at (pasts ss) p.past) in
      has_lane _ _ b l
      ∙ (cc (
        has-union set _ b ∙ ap (λ x. has set b || x) (agree_of (stretch_sets since k ss) (pasts ss) (sets_agree ss) p.past),
        (or_assoc _ before _ ∙ ap (λ x. has set b || x) (or_comm before (is p.word))),
      ))

  pairs_bytes : (ss : List Stretch) (set : ByteSet) (ps : List FollowedPair)
      → has (with_pairs_bytes k (stretch_sets since k ss) set ps) b ≡ (has set b || list_any (shows_byte since k b) (shown_all ss ps))
  pairs_bytes ss set [] = sym (or-false (has set b))
  pairs_bytes ss set (p ∷ ps) =
      pairs_bytes ss (with_pair_bytes k (stretch_sets since k ss) set p) ps
      ∙ (cc (pair_bytes ss set p, or_assoc _ _ _))

-- the set of what a load since a moment may have got on the ways to some pairs
pub pairs_shown : (since k : ℕ) (ss : List Stretch) (ps : List FollowedPair)
    → IsSet (λ b. list_any (shows_byte since k b) (shown_all ss ps)) (with_pairs_bytes k (stretch_sets since k ss) no_bytes ps)
pairs_shown since k ss ps =
    λ b l. pairs_bytes since k b l ss no_bytes ps ∙ ap (λ x. x || list_any (shows_byte since k b) (shown_all ss ps)) (has-no_bytes b)
