-- What a split says of the pairs of a unit: what is left of each on the ways on which a load may have got its answer, and on the others.
use Rattle.std.specs.Prelude.{ℕ, List}
use Rattle.atomic_histories.specs.declared.unit.UnitPlace.{UnitPlace}
use Rattle.atomic_histories.specs.declared.unit.WatchedLoad.{WatchedLoad}
use Rattle.atomic_histories.specs.declared.stretches.Stretch.{Stretch}
use Rattle.atomic_histories.specs.declared.pairs.FollowedPair.{FollowedPair}
use Rattle.atomic_histories.specs.declared.splits.Split.{Split}
use Rattle.atomic_histories.specs.Pasts.{got, missed}
use Rattle.atomic_histories.specs.Followed.{is_answer}
use Rattle.atomic_histories.specs.Stands.{Each}
use Rattle.atomic_histories.specs.Shares.{got_of, missed_of, IsShare}
use Rattle.atomic_histories.specs.Shown.{past_at, pasts, IsIn}

-- its shares are those of the pair's past
pub record IsPart (unit : UnitPlace) (bytes : List ℕ) (l : WatchedLoad) (ss : List Stretch) (s : Split) (p : FollowedPair) : Type 0 where
  pub is_in : IsIn ss p.past
  pub got : IsShare ss (got_of s p.past) (got (is_answer unit l.address l.since bytes) (past_at (pasts ss) p.past))
  pub missed : IsShare ss (missed_of s p.past) (missed (is_answer unit l.address l.since bytes) (past_at (pasts ss) p.past))

abbrev pub AreParts : UnitPlace → List ℕ → WatchedLoad → List Stretch → Split → List FollowedPair → Type 0
AreParts unit bytes l ss s ps = Each (IsPart unit bytes l ss s) ps
