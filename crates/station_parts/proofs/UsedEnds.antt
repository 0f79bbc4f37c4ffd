-- Rows of rings' ends, of which one was used.
use Rattle.std.proofs.Common.{◌≡◌, ℕ, ◌<◌, List, [], length, slice_index_or, slice_set, Option, Some, None, IfNone, append-nil, arith}
use Rattle.std.proofs.Math.Seq.{map-set_same}
use mathlib.Core.List.{IsPrefix}
use Rattle.rtrb.specs.Ring.{known_items}
use Rattle.station_parts.specs.Rings.{HasPopped, HasLooked, HasPushed}
use Rattle.station_parts.specs.Rows.{known_at, PopsAt, LooksAt, PushesAt}
use Rattle.station_parts.proofs.Rows.{Popper, Pusher, here_after, there_after, here_before, each_place, only-here, only-there, only-none}

-- nothing was popped, and nobody looked
pub pops_nothing : {T : Type 0} (xs : List (Popper T)) (place : ℕ) → PopsAt xs xs place []
pops_nothing xs place = grind (arith, only-none, append-nil)

pub pops_at : {T : Type 0} (xs : List (Popper T)) (place : ℕ) (x y : Popper T) → place < length xs
    → x ≡ slice_index_or xs place x → (items : List T) → HasPopped x y items → PopsAt xs (slice_set xs place y) place items
pops_at xs place x y h at items used =
    record {
      rings = grind (arith, map-set_same);
      popped = grind (arith, each_place, here_after, here_before, there_after, only-here, only-there, append-nil);
      known = each_place (λ p. IsPrefix _ _) place
          (grind (arith, here_before, only-here, here_after)) (λ p ne. ([], grind (arith, only-there, there_after, append-nil)));
    }

module _ {T : Type 0} (xs : List (Pusher T)) (place : ℕ) (x y : Pusher T) (h : place < length xs)
    (at : x ≡ slice_index_or xs place x) where
  pub looks_at : HasLooked x y → LooksAt xs (slice_set xs place y)
  looks_at used = grind (arith, map-set_same, each_place, here_after, here_before, there_after, used.places)

  pub pushes_at : (items : List T) → HasPushed x y items → PushesAt xs (slice_set xs place y) place items
  pushes_at items used =
      record {
        rings = grind (arith, map-set_same);
        pushed = grind (arith, each_place, here_after, here_before, there_after, only-here, only-there, append-nil);
        places = grind (arith, each_place, here_after, here_before, there_after, only-here, only-there);
      }

-- nothing is known at a place whose end knows nothing
pub known_none : {T : Type 0} (xs : List (Popper T)) (place : ℕ) (y : Popper T) → place < length xs
    → (r : Option T) → IfNone r (known_items y ≡ []) → IfNone r (known_at (slice_set xs place y) place ≡ [])
known_none xs place y h None e = grind (arith, here_after)
known_none xs place y h (Some a) e = e
