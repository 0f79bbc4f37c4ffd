-- How the sets of what a load may return are made: of each stretch the set of the bytes in a lane on the ways to it.
use Rattle.std.specs.Prelude.{ℕ, ◌∷◌, [], ◌++◌, if◌then◌else◌, nat_le, get_or, List, Option, Some, None}
use Rattle.std.specs.List.{fold}
use Rattle.memory_histories.specs.declared.sets.ByteSet.{ByteSet}
use Rattle.memory_histories.specs.Sets.{with_byte, union, no_bytes, all_bytes}
use Rattle.atomic_histories.specs.declared.stretches.Before.{Before}
use Rattle.atomic_histories.specs.declared.stretches.Before.TheVariants.{Nothing, Behind}
use Rattle.atomic_histories.specs.declared.stretches.Stretch.{Stretch}
use Rattle.atomic_histories.specs.declared.stretches.Stretch.TheVariants.{Overwritten, Either}
use Rattle.atomic_histories.specs.declared.pairs.FollowedPair.{FollowedPair}
use Rattle.atomic_histories.specs.May.{lane_of}

-- a set with a byte, or with all if nothing is known of it
abbrev pub with_lane : ByteSet → Option ℕ → ByteSet
with_lane set (Some b) = with_byte set b
with_lane set None = all_bytes

-- the set of what stood there before, of those that the stretches have
abbrev pub set_of : List ByteSet → Before → ByteSet
set_of sets Nothing = no_bytes
set_of sets (Behind place) = get_or sets place no_bytes

-- the set of a stretch: a load may have got a word since a moment
abbrev pub stretch_set : ℕ → ℕ → List ByteSet → Stretch → ByteSet
stretch_set since k sets (Overwritten word moment before) =
    if nat_le since moment then with_lane (set_of sets before) (lane_of k word) else set_of sets before
stretch_set since k sets (Either one other) = union (set_of sets one) (set_of sets other)

abbrev pub stretch_sets : ℕ → ℕ → List Stretch → List ByteSet
stretch_sets since k ss = fold (λ sets s. sets ++ stretch_set since k sets s ∷ []) [] ss

-- a set with what a load may have got on the ways to a pair
abbrev pub with_pair_bytes : ℕ → List ByteSet → ByteSet → FollowedPair → ByteSet
with_pair_bytes k sets set p = with_lane (union set (set_of sets p.past)) (lane_of k p.word)

abbrev pub with_pairs_bytes : ℕ → List ByteSet → ByteSet → List FollowedPair → ByteSet
with_pairs_bytes k sets set ps = fold (with_pair_bytes k sets) set ps
