-- The pairs on whose ways a load may have got its answer, and the others: what is gathered of them one by one.
use Rattle.std.proofs.Common.{◌≡◌, ℕ, ◌+◌, ◌<◌, Result, IfErr, IsErrAnd, true, false, List, [], ◌∷◌, ◌++◌, filter, length, drop, get_or}
use Rattle.std.proofs.Common.{Option, append_assoc, add-one, drop-cons, arith}
use Rattle.atomic_histories.specs.declared.unit.UnitPlace.{UnitPlace}
use Rattle.atomic_histories.specs.declared.unit.WatchedLoad.{WatchedLoad}
use Rattle.atomic_histories.specs.declared.stretches.Before.{Before}
use Rattle.atomic_histories.specs.declared.stretches.Stretch.{Stretch}
use Rattle.atomic_histories.specs.declared.pairs.FollowedPair.{FollowedPair}
use Rattle.atomic_histories.specs.declared.splits.Split.{Split}
use Rattle.atomic_histories.specs.Words.{is_word_of}
use Rattle.atomic_histories.specs.Pasts.{got, missed}
use Rattle.atomic_histories.specs.Branches.{may_come}
use Rattle.atomic_histories.specs.Followed.{Pair, Aim, word_aim, is_answer, cons_any, pair_on, pair_missed, gathered, with_hope}
use Rattle.atomic_histories.specs.Shares.{got_of, missed_of, past_any, IsShare}
use Rattle.atomic_histories.specs.Parts.{IsPart, AreParts}
use Rattle.atomic_histories.specs.Shown.{past_at, pasts, shown, shown_all, IsIn, AreIn, Grows}
use Rattle.atomic_histories.proofs.Frames.{in_grown, past_grown}

-- one part more of what is gathered so
pub part_more : (gather : List Pair → List Pair) (part : Pair → List Pair)
    → ((e : Pair) (es : List Pair) → gather (e ∷ es) ≡ part e ++ gather es)
    → (ss : List Stretch) (ps : List FollowedPair) (i : ℕ) (p : FollowedPair) (es added more whole : List Pair) → i < length ps
    → p ≡ get_or ps i p → more ≡ es ++ added → added ≡ part (shown ss p) → es ++ gather (shown_all ss (drop i ps)) ≡ whole
    → more ++ gather (shown_all ss (drop (i + 1) ps)) ≡ whole
part_more gather part step ss ps i p es added more whole h is e a inv = grind (arith, append_assoc, add-one, drop-cons)

pub got_step : (f : Pair → Option Pair) (e : Pair) (es : List Pair) → gathered f (e ∷ es) ≡ cons_any (f e) [] ++ gathered f es
got_step f e es = grind arith

pub missed_step : (aim : Aim) (f : Pair → Option Pair) (e : Pair) (es : List Pair)
    → with_hope aim (gathered f (e ∷ es)) ≡ filter aim.hope (cons_any (f e) []) ++ with_hope aim (gathered f es)
missed_step aim f e es = grind arith

-- One pair. ----

module _ (unit : UnitPlace) (bytes : List ℕ) (l : WatchedLoad) (ss : List Stretch) where
  pub missed_part : (s : Split) (p : FollowedPair)
      (r : Option Before)
      → IsPart unit bytes l ss s p → r ≡ missed_of s p.past → is_word_of unit.first p.word l.address bytes ≡ false
      → may_come unit l.address bytes p.word p.stores.items ≡ true
      → cons_any (pair_on (shown ss p) (past_any (pasts ss) r)) []
      ≡ filter (word_aim unit l.address bytes).hope (cons_any (pair_missed unit bytes l (shown ss p)) [])
  missed_part s p r is e n t = grind arith

  pub lost_part : (p : FollowedPair)
      → is_word_of unit.first p.word l.address bytes ≡ false → may_come unit l.address bytes p.word p.stores.items ≡ false
      → [] ≡ filter (word_aim unit l.address bytes).hope (cons_any (pair_missed unit bytes l (shown ss p)) [])
  lost_part p n t = grind arith

  -- All pairs. ----

  -- what a split says of them
  pub are_parts : (ts : List Stretch) (s : Split) → Grows ss ts
      → ((b : Before) → IsIn ss b → IsShare ts (got_of s b) (got (is_answer unit l.address l.since bytes) (past_at (pasts ss) b)))
      → ((b : Before) → IsIn ss b → IsShare ts (missed_of s b) (missed (is_answer unit l.address l.since bytes) (past_at (pasts ss) b)))
      → (ps : List FollowedPair) → AreIn ss ps → AreParts unit bytes l ts s ps
  are_parts ts s g a b [] h = tt
  are_parts ts s g a b (p ∷ ps) h = grind (arith, are_parts ts s g a b ps h.1, past_grown, in_grown)

-- what is said of loads and pairs is said of the same
pub said_of : {L A B : Type 0} (P : L → A → B → Type 0) (ks ls : L) (as_ bs : A) (cs ds : B)
    → ks ≡ ls → as_ ≡ bs → cs ≡ ds → P ks as_ cs → P ls bs ds
said_of P ks ls as_ bs cs ds e f g h = grind arith

-- what is said of an error that is passed on
pub pass_on : {A E : Type 0} (r : Result A E) (e : E) (P : E → Type 0) → IsErrAnd r (λ f. f ≡ e) → P e → IfErr r P
pass_on x0 e x2 h p = grind arith
