-- Marks of pairs: numbers by which ways are found. Ways to one pair have one mark.
use Rattle.std.specs.Prelude.{ℕ, ◌≡◌, ◌+◌, ◌*◌, ◌%◌, ◌≤◌, ◌==◌, length, if◌then◌else◌, suc, List, [], ◌∷◌, map, Option, Some, None}
use Rattle.std.specs.List.{fold}
use Rattle.atomic_histories.specs.declared.unit.OpenStore.{OpenStore}
use Rattle.atomic_histories.specs.declared.pairs.TheConstants.{MIXER}
use Rattle.atomic_histories.specs.declared.pairs.FollowedPair.{FollowedPair}
use Rattle.atomic_histories.specs.declared.followed.Followed.{Followed}
use Rattle.atomic_histories.specs.declared.followed.TheConstants.{MARKED}

-- a mark with one more number mixed in
unfoldable pub mixed : ℕ → ℕ → ℕ
mixed mark n = (mark * MIXER % 18446744073709551616 + n) % 18446744073709551616

-- with the byte of a lane
abbrev pub with_byte : ℕ → Option ℕ → ℕ
with_byte mark (Some b) = mixed mark b
with_byte mark None = mixed mark 256

-- with a store, if it has taken effect
abbrev pub with_store : ℕ → OpenStore → ℕ
with_store mark s = if s.is_done then mixed mark s.number else mark

-- the mark of a pair
unfoldable pub mark_of : List (Option ℕ) → List OpenStore → ℕ
mark_of word stores = fold with_store (fold with_byte 0 word) stores

abbrev pub mark : FollowedPair → ℕ
mark p = mark_of p.word p.stores.items

-- how many marks stand before the first that is this one
abbrev pub before_mark : ℕ → List ℕ → ℕ
before_mark mark [] = 0
before_mark mark (m ∷ ms) = if m == mark then 0 else suc (before_mark mark ms)

-- the marks of the pairs are kept, once there are so many
abbrev pub IsFollowed : Followed → Type 0
IsFollowed s = MARKED ≤ length s.pairs.items → s.marks.items ≡ map mark s.pairs.items
