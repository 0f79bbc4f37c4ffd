-- Steps towards what an open load may return: the sets of its bytes one after the other, and why there are none.
use Rattle.std.proofs.Common.{◌≡◌, ℕ, zero, suc, ◌+◌, ◌-◌, ◌/◌, ◌%◌, ◌<◌, List, [], ◌∷◌, ◌++◌, length, Option, None, refl, ◌∙◌, arith, Some}
use Rattle.std.proofs.Common.{Bool, true, false, ◌||◌, if◌then◌else◌}
use Rattle.std.specs.List.{find}
use Rattle.std.proofs.lemmas.Bool.{lt-ltb}
use Rattle.memory_histories.specs.declared.sets.ByteSet.{ByteSet}
use Rattle.memory_histories.specs.declared.events.Rest.{Rest}
use Rattle.memory_histories.specs.Sets.{no_bytes, all_bytes}
use Rattle.memory_histories.proofs.ByteSets.{has-no_bytes, has-all_bytes}
use Rattle.atomic_histories.specs.declared.unit.UnitPlace.{UnitPlace}
use Rattle.atomic_histories.specs.declared.unit.Operation.{Operation}
use Rattle.atomic_histories.specs.declared.unit.WatchedLoad.{WatchedLoad}
use Rattle.atomic_histories.specs.declared.stretches.Stretch.{Stretch}
use Rattle.atomic_histories.specs.declared.pairs.FollowedPair.{FollowedPair}
use Rattle.atomic_histories.specs.declared.kept.KeptUnit.{KeptUnit}
use Rattle.atomic_histories.specs.declared.memory.UnitSize.{UnitSize}
use Rattle.atomic_histories.specs.declared.memory.AtomicFault.{AtomicFault}
use Rattle.atomic_histories.specs.declared.search.Stop.{Stop}
use Rattle.atomic_histories.specs.Followed.{Ways, first_ways, is_under}
use Rattle.atomic_histories.specs.Held.{Held}
use Rattle.atomic_histories.specs.Judge.{bytes_of, fault_of, kept_or}
use Rattle.atomic_histories.specs.May.{IsSet, is_shown, reached, may_get, may_get_at, may_return_at, skips, address_of, AreSetsFrom}
use Rattle.atomic_histories.specs.May.{is_reach_wide, is_wide_for}
use Rattle.atomic_histories.specs.May.{is_wide_at, AreNarrow, IsWideByte, IsWideLoad, IsNoVerdict}
use Rattle.atomic_histories.specs.Shown.{shown_all, StopIs}
use Rattle.std.proofs.Math.Bool.{and-false}

-- the lane that a byte lies in
pub lane_below : (size : UnitSize) (a : ℕ) → a % bytes_of size < 8
lane_below x0 a = grind arith

-- no load is open at a unit that no operation has touched
pub untouched_set : (o : Option KeptUnit) (image : List ℕ) (rest : Rest) (unit : UnitPlace) (number k : ℕ) → o ≡ None
    → IsSet (λ b. may_get number k b (kept_or o (first_ways image rest unit))) no_bytes
untouched_set x0 image rest unit number k h = grind (arith, has-no_bytes)

module _ (number k : ℕ) (ss : List Stretch) where
  -- each byte may be got at a unit that was forgotten
  pub forgotten_set : (ps : List FollowedPair) (loads : List WatchedLoad) (moment : ℕ) → length ps ≡ 0
      → IsSet (λ b. may_get number k b (record { loads = loads; moment = moment; pairs = shown_all ss ps })) all_bytes
  forgotten_set [] loads moment h = λ b l. has-all_bytes b ∙ lt-ltb b 256 l
  forgotten_set (p ∷ ps) loads moment h = absurd (omega arith)

  -- none where no load is open under the number
  pub unknown_set : (ps : List FollowedPair) (loads : List WatchedLoad) (moment : ℕ)
      → (length ps ≡ 0 → ⊥) → find (is_under number) loads ≡ None
      → IsSet (λ b. may_get number k b (record { loads = loads; moment = moment; pairs = shown_all ss ps })) no_bytes
  unknown_set [] loads moment h f = absurd (h refl)
  unknown_set (p ∷ ps) loads moment h f = grind (arith, has-no_bytes)

  -- those of a load that is
  pub known_set : (ps : List FollowedPair) (loads : List WatchedLoad) (moment : ℕ) (load : WatchedLoad)
      (set : ByteSet) → (length ps ≡ 0 → ⊥) → find (is_under number) loads ≡ Some load
      → IsSet (λ b. is_shown (Some load) k b (reached (record { loads = loads; moment = moment; pairs = shown_all ss ps }))) set
      → IsSet (λ b. may_get number k b (record { loads = loads; moment = moment; pairs = shown_all ss ps })) set
  known_set [] loads moment load set h f s = absurd (h refl)
  known_set (p ∷ ps) loads moment load set h f s = grind arith

-- and where a byte isn't enabled it may be any
pub asked_is : (h : Held) (load : Option Operation) (number a : ℕ) (set : ByteSet) → IsSet (may_get_at h number a) set
    → IsSet (may_return_at h load number a) (if skips load a then all_bytes else set)
asked_is h load number a set s = go (skips load a)
  where
    go : (c : Bool) → IsSet (λ b. c || may_get_at h number a b) (if c then all_bytes else set)
    go true = λ b l. has-all_bytes b ∙ lt-ltb b 256 l
    go false = s

-- Few enough pairs where there are sets. ----

pub untouched_narrow : (o : Option KeptUnit) (image : List ℕ) (rest : Rest) (unit : UnitPlace) (limit number : ℕ) → o ≡ None
    → is_wide_for limit number (kept_or o (first_ways image rest unit)) ≡ false
untouched_narrow x0 image rest unit limit number h = grind arith

pub forgotten_narrow : (limit number : ℕ) (ss : List Stretch) (ps : List FollowedPair) (loads : List WatchedLoad) (moment : ℕ)
    → length ps ≡ 0 → is_wide_for limit number (record { loads = loads; moment = moment; pairs = shown_all ss ps }) ≡ false
forgotten_narrow limit number ss [] loads moment h = and-false _
forgotten_narrow limit number ss (p ∷ ps) loads moment h = absurd (omega arith)

pub unknown_narrow : (limit number : ℕ) (u : Ways) → find (is_under number) u.loads ≡ None → is_wide_for limit number u ≡ false
unknown_narrow limit number u f = rw f refl

pub known_narrow : (limit number : ℕ) (u : Ways) → is_reach_wide limit u ≡ false → is_wide_for limit number u ≡ false
known_narrow limit number u f = grind arith

pub narrow_more : (limit : ℕ) (h : Held) (number a n : ℕ) → AreNarrow limit h number a n
    → is_wide_at limit h number (address_of a n) ≡ false → AreNarrow limit h number a (n + 1)
narrow_more limit h number a n f g = λ i l. grind arith

-- the set of the next byte
sets_pushed : (h : Held) (load : Option Operation) (number a from n : ℕ) (sets : List ByteSet) (set : ByteSet)
    → AreSetsFrom h load number a from n sets
    → IsSet (may_return_at h load number (address_of a (from + n))) set → AreSetsFrom h load number a from (suc n) (sets ++ set ∷ [])
sets_pushed h load number a from zero [] set r s = grind arith
sets_pushed h load number a from (suc n) (x ∷ xs) set r s =
    let next : from + suc n ≡ from + 1 + n = omega arith in
    (r.0, sets_pushed h load number a (from + 1) n xs set r.1 (rw next at s))
sets_pushed h load number a from _ _ set r s = absurd r

pub one_set_more : (h : Held) (load : Option Operation) (number a i : ℕ) (sets : List ByteSet) (set : ByteSet)
    → AreSetsFrom h load number a 0 i sets
    → IsSet (may_return_at h load number (address_of a i)) set → AreSetsFrom h load number a 0 (i + 1) (sets ++ set ∷ [])
one_set_more h load number a i sets set r s = grind (arith, sets_pushed)

-- No verdict. ----

-- a search that was stopped at the unit in which a byte lies
pub stopped_set : (limit : ℕ) (h : Held) (a : ℕ) (stop : Stop)
    → StopIs (is_reach_wide limit (h.units (a / h.size))) stop
    → IsNoVerdict (IsWideByte limit h a) (fault_of stop (a - a % h.size))
stopped_set limit h a x3 w = grind arith

pub no_set : (fault : AtomicFault) (limit : ℕ) (h : Held) (a n i : ℕ) → i < n
    → IsNoVerdict (IsWideByte limit h (address_of a i)) fault → IsNoVerdict (IsWideLoad limit h a n) fault
no_set x0 limit h a n i l f = grind arith
