-- Rows of rings that are looked at, one after another.
use Rattle.std.proofs.Common.{◌≡◌, ℕ, ◌+◌, ◌<◌, ◌≤◌, List, length, map, take, slice_set, slice_index_or, sym, ap, ◌∙◌, subst, arith}
use Rattle.station_parts.specs.Audited.{AreAtMost}
use Rattle.station_parts.proofs.Rows.{here_after, there_after, each_place}
use Rattle.std.proofs.lemmas.List.{map-set, length-map, get_or-map}
use Rattle.std.proofs.lemmas.Grind.{take-set_at}
use Rattle.std.proofs.Math.Seq.{take-length}

-- the rows match at each place
pub matched_at : {X Y Z W : Type 0} (f : Y → Z) (g : X → Y) (h : W → Z) (xs : List X) (ys : List W) (i : ℕ) (x : X) (y : W)
    → map f (map g xs) ≡ map h ys → i < length xs → i < length ys → x ≡ slice_index_or xs i x → y ≡ slice_index_or ys i y → f (g x) ≡ h y
matched_at f g h xs ys i x y e l m at at' =
    let here = get_or-map f _ i (g x) (f (g x)) (subst (λ n. i < n) (sym (length-map xs g)) l)
    ∙ ap f (get_or-map g xs i x (g x) l ∙ ap g (sym at)) in
    sym here ∙ ap (λ zs. slice_index_or zs i (f (g x))) e ∙ (get_or-map h ys i y _ m ∙ ap h (sym at'))

-- the rows are as long
pub as_long : {X Y Z W : Type 0} (f : Y → Z) (g : X → Y) (h : W → Z) (xs : List X) (ys : List W) → map f (map g xs) ≡ map h ys
    → length xs ≡ length ys
as_long f g h xs ys e = grind (arith, length-map)

-- one place more agrees
pub seen_more : {X Y Z : Type 0} (f : X → Z) (g : Y → Z) (xs : List X) (ys : List Y) (i : ℕ) (x : X) (y : Y)
    → take i (map f xs) ≡ take i (map g ys) → i < length xs → i < length ys → f x ≡ g y
    → take (i + 1) (map f (slice_set xs i x)) ≡ take (i + 1) (map g (slice_set ys i y))
seen_more f g xs ys i x y so_far l m here = grind (arith, map-set, take-set_at, length-map)

-- all places agree
pub seen_all : {X Y Z : Type 0} (f : X → Z) (g : Y → Z) (xs : List X) (ys : List Y) (n : ℕ) → take n (map f xs) ≡ take n (map g ys)
    → n ≡ length xs → n ≡ length ys → map f xs ≡ map g ys
seen_all f g xs ys n e l m = grind (arith, length-map, take-length)

-- one place has as much or more, and the others have what they had
pub at_most_more : {X : Type 0} (f : X → ℕ) (before : List ℕ) (xs : List X) (i : ℕ) (x y : X) → i < length xs
    → f (slice_index_or xs i x) ≤ f y → AreAtMost before (map f xs) → AreAtMost before (map f (slice_set xs i y))
at_most_more f before xs i x y l more h = grind (arith, each_place, get_or-map, here_after, there_after)
