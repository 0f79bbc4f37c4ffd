-- The lanes of a store, and the bytes that they stand for.
use Rattle.std.proofs.Common.{◌≡◌, ℕ, zero, suc, ◌+◌, ◌-◌, ◌*◌, ◌/◌, ◌%◌, ◌<◌, ◌≤◌, Bool, true, false, ◌&&◌, not, if◌then◌else◌}
use Rattle.std.proofs.Common.{◌==◌, nat_le, List, [], ◌∷◌, ◌++◌, map, length, Option, None, Some, slice_get, refl, ap}
use Rattle.std.proofs.Common.{◌∙◌, arith, append-nil, append_assoc}
use Rattle.std.specs.Prelude.{is_none, is_some}
use Rattle.std.specs.Int.{bit_at}
use Rattle.std.specs.List.{filter, list_any, range_with_len}
use Rattle.std.proofs.lemmas.Nat.Bits.{bit_at_lowest, bit_at-suc}
use Rattle.std.proofs.lemmas.List.Elements.{filter_agree}
use Rattle.memory_histories.proofs.Lists.{filter-all}
use Rattle.memory_histories.specs.declared.windows.StoreByte.{StoreByte}
use Rattle.memory_histories.specs.declared.sets.ByteSet.{ByteSet}
use Rattle.memory_histories.specs.Sets.{with_byte}
use Rattle.memory_histories.specs.Windows.{store_bytes, is_open}
use Rattle.memory_histories.specs.Kept.{with_stores, is_covered_by, unit_of, answered_at}
use Rattle.memory_histories.specs.declared.parts.StorePart.{StorePart}
use Rattle.memory_histories.specs.Parts.{empty_part, written, part_bytes, lane_bytes, lanes_of, lane_at, with_known, cleared_lanes}

-- Where there is a lane. ----

pub lane_before : (a : ℕ) (ls : List (Option ℕ)) (x : ℕ) → x < a → lane_at a ls x ≡ None
lane_before a [] x h = refl
lane_before a (l ∷ ls) x h = grind (arith, lane_before (a + 1) ls x)

pub lane_past : (a : ℕ) (ls : List (Option ℕ)) (x : ℕ) → a + length ls ≤ x → lane_at a ls x ≡ None
lane_past a [] x h = refl
lane_past a (l ∷ ls) x h = grind (arith, lane_past (a + 1) ls x)

pub length-lanes_of : (bs : List ℕ) (e : ℕ) → length (lanes_of bs e) ≡ length bs
length-lanes_of [] e = refl
length-lanes_of (b ∷ bs) e = ap suc (length-lanes_of bs (e / 2))

pub lane_stored : (a : ℕ) (bs : List ℕ) (e k : ℕ) → lane_at a (lanes_of bs e) (a + k) ≡ (if bit_at e k == 1 then slice_get bs k else None)
lane_stored a [] e k = grind arith
lane_stored a (b ∷ bs) e zero = grind (arith, bit_at_lowest)
lane_stored a (b ∷ bs) e (suc k) = grind (arith, bit_at-suc, lane_stored (a + 1) bs (e / 2) k)

-- The bytes. ----

pub store_lanes : (n a : ℕ) (bs : List ℕ) (e t : ℕ) → store_bytes n a bs e t ≡ lane_bytes n a (lanes_of bs e) t None
store_lanes n a [] e t = refl
store_lanes n a (b ∷ bs) e t = grind (arith, store_lanes n (a + 1) bs (e / 2) t)

module _ (n t : ℕ) (o : Option ℕ) where
  abbrev pub byte_at : ℕ → ℕ → StoreByte
  byte_at a b = record { number = n; address = a; byte = b; began = t; ended = o }

  pub set_lanes : (a : ℕ) (ls : List (Option ℕ)) (x : ℕ) (set : ByteSet)
      → with_stores (lane_bytes n a ls t o) x set ≡ with_known set (lane_at a ls x)
  set_lanes a [] x set = refl
  set_lanes a (None ∷ ls) x set = grind (arith, lane_before, set_lanes (a + 1) ls x set)
  set_lanes a (Some b ∷ ls) x set = grind (arith, lane_before, set_lanes (a + 1) ls x set, set_lanes (a + 1) ls x (with_byte set b))

  pub covered_lanes : (a : ℕ) (ls : List (Option ℕ)) (x : ℕ) → is_covered_by (lane_bytes n a ls t o) x ≡ is_some (lane_at a ls x)
  covered_lanes a [] x = refl
  covered_lanes a (None ∷ ls) x = grind (arith, lane_before, covered_lanes (a + 1) ls x)
  covered_lanes a (Some b ∷ ls) x = grind (arith, covered_lanes (a + 1) ls x)

  pub answered_lanes : (m a : ℕ) (ls : List (Option ℕ)) → map (answered_at m) (lane_bytes n a ls t o) ≡ lane_bytes n a ls t (Some m)
  answered_lanes m a [] = refl
  answered_lanes m a (None ∷ ls) = answered_lanes m _ ls
  answered_lanes m a (Some b ∷ ls) = grind (arith, answered_lanes m (a + 1) ls)

  -- whether its store is open under a number
  pub any_lane : (k a : ℕ) (ls : List (Option ℕ)) → list_any (is_open k) (lane_bytes n a ls t o)
      ≡ ((is_none o && (n == k)) && list_any is_some ls)
  any_lane k a [] = grind arith
  any_lane k a (None ∷ ls) = any_lane k _ ls
  any_lane k a (Some b ∷ ls) = grind (arith, any_lane k (a + 1) ls)

  -- tests that agree on the bytes
  pub same_pass : (p q : StoreByte → Bool) (a : ℕ) (ls : List (Option ℕ))
      → ((x b : ℕ) → a ≤ x → x < a + length ls → p (byte_at x b) ≡ q (byte_at x b))
      → filter p (lane_bytes n a ls t o) ≡ filter q (lane_bytes n a ls t o)
  same_pass p q a [] h = refl
  same_pass p q a (None ∷ ls) h = same_pass p q _ ls (λ x b l m. h x b (omega arith) (omega arith))
  same_pass p q a (Some b ∷ ls) h = grind (arith, h a b, same_pass p q (a + 1) ls (λ x c l m. h x c (omega arith) (omega arith)))

  -- and one that says the same of all of them
  pub all_pass : (c : Bool) (q : StoreByte → Bool) (a : ℕ) (ls : List (Option ℕ))
      → ((x b : ℕ) → a ≤ x → x < a + length ls → q (byte_at x b) ≡ c)
      → filter q (lane_bytes n a ls t o) ≡ (if c then lane_bytes n a ls t o else [])
  all_pass c q a ls h = same_pass q (λ s. c) a ls h ∙ filter-all c _ _ (λ k d l. refl)

  -- Tests at an address. ----

  pub any_at : (r : StoreByte → Bool) (c : Bool) (a : ℕ) (ls : List (Option ℕ)) (y : ℕ)
      → ((x b : ℕ) → a ≤ x → x < a + length ls → r (byte_at x b) ≡ c)
      → list_any (λ s. (s.address == y) && r s) (lane_bytes n a ls t o) ≡ (is_some (lane_at a ls y) && c)
  any_at r c a [] y h = refl
  any_at r c a (None ∷ ls) y h =
      grind (arith, lane_before, any_at r c (a + 1) ls y (λ x b l m. h x b (omega arith) (omega arith)))
  any_at r c a (Some b ∷ ls) y h =
      grind (arith, lane_before, h a b, any_at r c (a + 1) ls y (λ x b l m. h x b (omega arith) (omega arith)))

  -- What is left of lanes that are written over. ----

  pub clear_lanes : (a : ℕ) (es ls : List (Option ℕ))
      → filter (λ s. not (is_some (lane_at a es s.address))) (lane_bytes n a ls t o) ≡ lane_bytes n a (cleared_lanes es ls) t o
  clear_lanes a [] ls = all_pass true (λ s. true) a ls (λ x b l m. refl)
  clear_lanes a (e ∷ es) [] = refl
  clear_lanes a (e ∷ es) (l ∷ ls) =
      grind (
        arith,
        clear_lanes (a + 1) es ls,
        same_pass (λ s. not (is_some (lane_at a (e ∷ es) s.address)))
            (λ s. not (is_some (lane_at (a + 1) es s.address))) (a + 1) ls,
      )

  pub no_lane : (a : ℕ) (ls : List (Option ℕ)) → list_any is_some ls ≡ false → lane_bytes n a ls t o ≡ []
  no_lane a [] h = refl
  no_lane a (None ∷ ls) h = no_lane (a + 1) ls h
  no_lane a (Some b ∷ ls) h = grind arith

  -- The bytes from an address on. ----

  lane_cons : (a : ℕ) (l : Option ℕ) (ls : List (Option ℕ)) → lane_bytes n a (l ∷ ls) t o ≡ lane_bytes n a (l ∷ []) t o
      ++ lane_bytes n (a + 1) ls t o
  lane_cons a l ls = grind arith

  from_lane : (a : ℕ) (ls : List (Option ℕ)) (x : ℕ) → filter (λ s. nat_le x s.address) (lane_bytes n a ls t o)
      ≡ lane_bytes n x (lane_at a ls x ∷ []) t o ++ filter (λ s. nat_le (x + 1) s.address) (lane_bytes n a ls t o)
  from_lane a [] x = refl
  from_lane a (None ∷ ls) x = grind (arith, lane_before, from_lane (a + 1) ls x)
  from_lane a (Some b ∷ ls) x = grind (arith, lane_before, from_lane (a + 1) ls x)

  from_lanes : (a : ℕ) (ls : List (Option ℕ)) (w x : ℕ) → filter (λ s. nat_le x s.address) (lane_bytes n a ls t o)
      ≡ lane_bytes n x (map (lane_at a ls) (range_with_len x w)) t o ++ filter (λ s. nat_le (x + w) s.address) (lane_bytes n a ls t o)
  from_lanes a ls zero x = grind arith
  from_lanes a ls (suc w) x =
      let e : x + suc w ≡ x + 1 + w = omega arith in
      rw (from_lane a ls x, from_lanes a ls w (x + 1), lane_cons x _ (map (lane_at a ls) (range_with_len (x + 1) w)), append_assoc, e) refl

-- Of a store: the bytes from a unit on are those of the unit, and those from the next on. ----

unit_above : (u : ℕ) (xs : List StoreByte) → filter (λ s. nat_le u (unit_of s.address)) xs ≡ filter (λ s. nat_le (8 * u) s.address) xs
unit_above u xs = filter_agree _ _ (λ s. grind arith) xs

pub store_from : (n u a : ℕ) (bs : List ℕ) (e t : ℕ) (p : StorePart) → p ≡ empty_part n u t
    → filter (λ s. nat_le u (unit_of s.address)) (store_bytes n a bs e t)
    ≡ part_bytes (written a bs e p) ++ filter (λ s. nat_le (u + 1) (unit_of s.address)) (store_bytes n a bs e t)
store_from n u a bs e t p h =
    let f : 8 * (u + 1) ≡ 8 * u + 8 = omega arith in
    rw (h, store_lanes, unit_above u, unit_above (u + 1), f) (from_lanes n t None a _ 8 (8 * u))

pub store_whole : (n u a : ℕ) (bs : List ℕ) (e t : ℕ) → u ≡ unit_of a
    → filter (λ s. nat_le u (unit_of s.address)) (store_bytes n a bs e t) ≡ store_bytes n a bs e t
store_whole n u a bs e t h = grind (arith, store_lanes, all_pass n t None true (λ s. nat_le u (unit_of s.address)))

pub store_over : (n u a : ℕ) (bs : List ℕ) (e t : ℕ) → 1 ≤ length bs → (a + (length bs - 1)) / 8 < u
    → filter (λ s. nat_le u (unit_of s.address)) (store_bytes n a bs e t) ≡ []
store_over n u a bs e t some h = grind (arith, length-lanes_of, store_lanes, all_pass n t None false (λ s. nat_le u (unit_of s.address)))

-- a store that lies in one unit
pub store_one : (n u a : ℕ) (bs : List ℕ) (e t : ℕ) (p : StorePart) → p ≡ empty_part n u t → u ≡ unit_of a → 1 ≤ length bs
    → a % 8 + length bs ≤ 8 → part_bytes (written a bs e p) ≡ store_bytes n a bs e t
store_one n u a bs e t p f h some l =
    grind (arith, store_from n u a bs e t p, store_whole n u a bs e t, store_over n (u + 1) a bs e t, append-nil)
