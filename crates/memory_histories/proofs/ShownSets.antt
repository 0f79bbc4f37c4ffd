-- The sets of a load's bytes once parts of stores are shown to it.
use Rattle.std.proofs.Common.{ap, ◌≡◌, ℕ, zero, suc, ◌+◌, ◌-◌, ◌*◌, ◌/◌, ◌%◌, ◌<◌, ◌≤◌, ◌≢◌, true, min, max, List, [], ◌∷◌, ◌++◌, map}
use Rattle.std.proofs.Common.{length, length-drop, take, drop, replicate, get_or, Option, None, refl, sym, arith, append_assoc, append-nil}
use Rattle.std.proofs.Common.{add-one, drop-cons, take-append-drop}
use Rattle.std.specs.List.{range_with_len}
use Rattle.std.proofs.lemmas.List.{take_all, drop_all, get_or_past}
use Rattle.std.proofs.Math.Seq.{take-append_seam, drop-append_seam}
use Rattle.memory_histories.specs.declared.events.Rest.{Rest}
use Rattle.memory_histories.specs.declared.windows.StoreByte.{StoreByte}
use Rattle.memory_histories.specs.declared.parts.StorePart.{StorePart}
use Rattle.memory_histories.specs.declared.sets.ByteSet.{ByteSet}
use Rattle.memory_histories.specs.Sets.{no_bytes}
use Rattle.memory_histories.specs.Kept.{with_stores, first_set_at, settled_set, settled_at}
use Rattle.memory_histories.specs.Parts.{part_bytes, lane_at, eight, parts_bytes, with_known}
use Rattle.memory_histories.specs.Loads.{shown_sets, all_shown_sets, shown_lanes, is_near}
use Rattle.memory_histories.proofs.Lanes.{lane_before}
use Rattle.memory_histories.proofs.Pieces.{with_more, with_part}

-- Lanes beside sets. ----

-- the sets so far, and what is left
abbrev pub shown_from : ℕ → List (Option ℕ) → List ByteSet → List ByteSet
shown_from k lanes sets = take k sets ++ shown_lanes (drop k lanes) (drop k sets)

none_beside : (ls : List (Option ℕ)) → shown_lanes ls [] ≡ []
none_beside [] = refl
none_beside (l ∷ ls) = refl

pub all_beside : (lanes : List (Option ℕ)) (sets : List ByteSet) (k : ℕ) → min (length sets) (length lanes) ≤ k
    → shown_from k lanes sets ≡ sets
all_beside lanes sets k h = grind (arith, drop_all, take-append-drop, append-nil, none_beside)

-- Sets from an address on. ----

-- as they are once these lanes are stored from another address on
abbrev shown_at : ℕ → List (Option ℕ) → ℕ → List ByteSet → List ByteSet
shown_at b ls a [] = []
shown_at b ls a (s ∷ ss) = with_known s (lane_at b ls a) ∷ shown_at b ls (a + 1) ss

same_shown : (p : StorePart) (a : ℕ) (ss : List ByteSet) → shown_sets p a ss ≡ shown_at (8 * p.unit) (eight p) a ss
same_shown p a [] = refl
same_shown p a (s ∷ ss) = grind arith

lane_got : (k b : ℕ) (ls : List (Option ℕ)) → lane_at b ls (b + k) ≡ get_or ls k None
lane_got k b [] = refl
lane_got zero b (l ∷ ls) = grind arith
lane_got (suc k) b (l ∷ ls) = grind (arith, lane_got k (b + 1) ls)

from_lane : (k b : ℕ) (ls : List (Option ℕ)) (ss : List ByteSet) → shown_at b ls (b + k) ss ≡ shown_lanes (drop k ls) ss
from_lane k b ls [] = sym (none_beside _)
from_lane k b ls (s ∷ ss) = grind (
  arith,
  lane_got,
  drop-cons ls k None,
  drop_all k ls,
  drop_all (suc k) ls,
  get_or_past,
  from_lane (suc k) b ls ss,
)

pub shown_here : (p : StorePart) (a : ℕ) (ss : List ByteSet) → a / 8 ≡ p.unit → shown_lanes (drop (a % 8) (eight p)) ss ≡ shown_sets p a ss
shown_here p a ss h = grind (arith, same_shown, from_lane)

-- sets in front of the first lane
in_front : (n b : ℕ) (ls : List (Option ℕ)) (a : ℕ) (ss : List ByteSet) → a + n ≡ b → n ≤ length ss
    → take n ss ++ shown_lanes ls (drop n ss) ≡ shown_at b ls a ss
in_front zero b ls a ss e h = grind (arith, from_lane 0 b ls ss)
in_front (suc n) b ls a [] e h = none_beside ls
in_front (suc n) b ls a (s ∷ ss) e h = grind (arith, lane_before, in_front n b ls (a + 1) ss)

pub shown_beyond : (p : StorePart) (a f n k : ℕ) (ss ys : List ByteSet) (ls : List (Option ℕ)) → is_near a (length ss) p ≡ true → f ≡ a / 8
    → p.unit ≢ f → n ≡ 8 * (p.unit - f) - a % 8 → k ≡ length ss - n → ls ≡ eight p → ys ≡ shown_lanes ls (take k (drop n ss))
    → take n ss ++ (ys ++ drop k (drop n ss)) ≡ shown_sets p a ss
shown_beyond p a f n k ss ys ls h e ne m l o s = grind (arith, p.unit, length-drop, drop_all, append-nil, take_all, in_front, same_shown)

-- The sets of a load that is requested. ----

shown_map : (p : StorePart) (g : ℕ → ByteSet) (a n : ℕ)
    → shown_sets p a (map g (range_with_len a n)) ≡ map (λ x. with_stores (part_bytes p) x (g x)) (range_with_len a n)
shown_map p g a zero = refl
shown_map p g a (suc n) = cc (with_part p a (g a), shown_map p g (a + 1) n)

all_shown_map : (ps : List StorePart) (g : ℕ → ByteSet) (a n : ℕ)
    → all_shown_sets ps a (map g (range_with_len a n)) ≡ map (λ x. with_stores (parts_bytes ps) x (g x)) (range_with_len a n)
all_shown_map [] g a n = refl
all_shown_map (p ∷ ps) g a n = simp (shown_map, with_more) (all_shown_map ps (λ x. with_stores (part_bytes p) x (g x)) a n)

-- in front of them stand others
pub settled_behind : (image : List ℕ) (rest : Rest) (ps : List StorePart) (a n k : ℕ) (xs zs : List ByteSet) → k ≡ length xs
    → zs ≡ xs ++ map (first_set_at image rest (parts_bytes ps)) (range_with_len a n)
    → take k zs ++ all_shown_sets ps a (drop k zs) ≡ xs ++ map (settled_set image rest (parts_bytes ps)) (range_with_len a n)
settled_behind image rest ps a n k xs zs l e = grind (arith, take-append_seam, drop-append_seam, all_shown_map)

-- where so many bytes from an address on go on from a unit on
abbrev pub from_unit : ℕ → ℕ → ℕ → ℕ
from_unit a n u = min (max a (8 * u)) (a + n)

module _ (image : List ℕ) (rest : Rest) (answered : ℕ → List StoreByte) where
  -- the sets of so many bytes if no store is open
  abbrev pub sets_of : ℕ → ℕ → List ByteSet
  sets_of a n = map (settled_at image rest answered) (range_with_len a n)

  pub in_unit : (u a n : ℕ) → 8 * u ≤ a → a + n ≤ 8 * u + 8
      → sets_of a n ≡ map (settled_set image rest (answered u)) (range_with_len a n)
  in_unit u a zero l h = refl
  in_unit u a (suc n) l h = grind (arith, in_unit u (a + 1) n)

  split_sets : (a n m : ℕ) → sets_of a (n + m) ≡ sets_of a n ++ sets_of (a + n) m
  split_sets a zero m = grind arith
  split_sets a (suc n) m =
      let e : a + suc n ≡ (a + 1) + n = omega arith in
      let z : suc n + m ≡ suc (n + m) = omega arith in
      rw (e, z) (cc (split_sets (a + 1) n m))

  -- one unit more
  pub unit_more : (u p n q e : ℕ) (xs ys zs : List ByteSet) → 8 * u ≤ p → p + n ≤ 8 * u + 8 → q ≡ p + n → q ≤ e
      → ys ≡ xs ++ map (settled_set image rest (answered u)) (range_with_len p n)
      → xs ++ sets_of p (e - p) ≡ zs → ys ++ sets_of q (e - q) ≡ zs
  unit_more u p n q e xs ys zs l m s within y h = grind (arith, append_assoc, in_unit u p n, split_sets p n (e - q))

-- Sets of no byte. ----

pub left_more : (k : ℕ) (ss : List ByteSet) (d : ByteSet) → k < 8 → k < length ss → drop k ss ≡ replicate (8 - k) no_bytes
    → (get_or ss k d ≡ no_bytes) × (drop (k + 1) ss ≡ replicate (8 - (k + 1)) no_bytes)
left_more k ss d l h e =
    let m : 8 - k ≡ suc (8 - (k + 1)) = omega arith in grind (arith, drop-cons ss k d, add-one, ap (λ n. replicate n no_bytes) m)
