-- The parts of stores, and the bytes that they stand for.
use Rattle.std.proofs.Common.{◌≡◌, ℕ, suc, ◌+◌, ◌*◌, ◌/◌, ◌<◌, ◌≤◌, Bool, true, false, ◌&&◌, not, ◌==◌, List, [], ◌∷◌, ◌++◌, map, take}
use Rattle.std.proofs.Common.{length, Option, None, refl, ◌∙◌, inl, inr, arith, append_assoc, append-nil, length-take}
use Rattle.std.specs.Prelude.{is_some}
use Rattle.std.specs.List.{filter, list_any}
use Rattle.std.proofs.lemmas.Bool.{cases_Bool}
use Rattle.std.proofs.lemmas.List.{map-append, map-id}
use Rattle.std.proofs.lemmas.List.Elements.{filter-append, filter_agree}
use Rattle.std.proofs.lemmas.List.Folds.{list_any-append}
use Rattle.memory_histories.specs.declared.windows.StoreByte.{StoreByte}
use Rattle.memory_histories.specs.declared.parts.StorePart.{StorePart}
use Rattle.memory_histories.specs.declared.sets.ByteSet.{ByteSet}
use Rattle.memory_histories.specs.declared.kept.OpenByte.{OpenByte}
use Rattle.memory_histories.specs.Sets.{with_byte}
use Rattle.memory_histories.specs.Windows.{is_open}
use Rattle.memory_histories.specs.Regular.{is_before}
use Rattle.memory_histories.specs.Kept.{with_stores, is_covered_by, is_in, is_dropped, answered_at, answered_after, after_stores}
use Rattle.memory_histories.specs.Parts.{lane_at, eight, part_bytes, parts_bytes, is_open_part, has_lane, is_open_with, part_at, clears}
use Rattle.memory_histories.specs.Parts.{with_known, cleared_lanes, without_part, without_parts, answered_part, is_part_in, joined_parts}
use Rattle.memory_histories.proofs.Lists.{filter-filter, filter-made}
use Rattle.memory_histories.proofs.Lanes.{byte_at, lane_before, lane_past, set_lanes, covered_lanes, answered_lanes, any_lane, all_pass}
use Rattle.memory_histories.proofs.Lanes.{same_pass, any_at, clear_lanes, no_lane}

-- a byte of a part lies in its unit
in_its_unit : (p : StorePart) (x : ℕ) → 8 * p.unit ≤ x → x < 8 * p.unit + length (eight p) → x / 8 ≡ p.unit
in_its_unit p x h k = grind arith

-- Tests. ----

pub any_open : (k : ℕ) (ps : List StorePart) → list_any (is_open k) (parts_bytes ps) ≡ list_any (is_open_with k) ps
any_open k [] = refl
any_open k (p ∷ ps) = grind (arith, list_any-append, any_lane, any_open k ps)

-- a test that says the same of all bytes of a part
filter_parts : (q : StoreByte → Bool) (r : StorePart → Bool)
    → ((p : StorePart) (x b : ℕ) → 8 * p.unit ≤ x → x < 8 * p.unit + length (eight p) → q (byte_at p.number p.began p.ended x b) ≡ r p)
    → (ps : List StorePart) → filter q (parts_bytes ps) ≡ parts_bytes (filter r ps)
filter_parts q r h = filter-made q r part_bytes parts_bytes refl (λ p ps. refl)
    (λ p. all_pass p.number p.began p.ended (r p) q _ (eight p) (h p))

pub filter_open : (k : ℕ) (ps : List StorePart) → filter (is_open k) (parts_bytes ps) ≡ parts_bytes (filter (is_open_part k) ps)
filter_open k ps = filter_parts _ _ (λ p x b l m. refl) ps

pub filter_others : (k : ℕ) (ps : List StorePart)
    → filter (λ s. not (is_open k s)) (parts_bytes ps) ≡ parts_bytes (filter (λ p. not (is_open_part k p)) ps)
filter_others k ps = filter_parts _ _ (λ p x b l m. refl) ps

pub filter_in : (u : ℕ) (ps : List StorePart) → filter (is_in u) (parts_bytes ps) ≡ parts_bytes (filter (is_part_in u) ps)
filter_in u ps = filter_parts _ _ (λ p x b l m. grind (arith, in_its_unit)) ps

-- Sets. ----

pub with_more : (xs ys : List StoreByte) (x : ℕ) (set : ByteSet) → with_stores (xs ++ ys) x set ≡ with_stores ys x (with_stores xs x set)
with_more [] ys x set = refl
with_more (s ∷ ss) ys x set = grind (arith, with_more ss ys x set, with_more ss ys x (with_byte set s.byte))

pub with_part : (p : StorePart) (x : ℕ) (set : ByteSet) → with_stores (part_bytes p) x set ≡ with_known set (part_at p x)
with_part p x set = set_lanes p.number p.began p.ended _ _ x set

pub any_there : (ps : List StorePart) (x : ℕ) → is_covered_by (parts_bytes ps) x ≡ list_any (λ p. is_some (part_at p x)) ps
any_there [] x = refl
any_there (p ∷ ps) x = grind (arith, list_any-append, covered_lanes, any_there ps x)

-- a byte of an open load once one part more of a store is requested
pub all_shown_more : (xs ys : List StoreByte) (os : List OpenByte)
    → map (after_stores (xs ++ ys)) os ≡ map (after_stores ys) (map (after_stores xs) os)
all_shown_more xs ys [] = refl
all_shown_more xs ys (o ∷ os) = grind (arith, with_more, all_shown_more xs ys os)

pub none_shown : (os : List OpenByte) → map (after_stores []) os ≡ os
none_shown os = map-id os

-- More parts. ----

pub parts-append : (ps qs : List StorePart) → parts_bytes (ps ++ qs) ≡ parts_bytes ps ++ parts_bytes qs
parts-append [] qs = refl
parts-append (p ∷ ps) qs = cc (parts-append ps qs, append_assoc (part_bytes p) (parts_bytes ps) (parts_bytes qs))

-- What is left once a store is answered. ----

without_empty : (ps : List StorePart) → parts_bytes (filter has_lane ps) ≡ parts_bytes ps
without_empty [] = refl
without_empty (p ∷ ps) = grind (arith, no_lane, without_empty ps)

dropped_by : (u : ℕ) (e : StorePart) (s : StoreByte)
    → is_dropped u (part_bytes e) s ≡ (is_some (part_at e s.address) && ((e.unit == u) && is_before s.ended e.began))
dropped_by u e s =
    any_at e.number e.began e.ended (λ x. is_in u x && is_before s.ended x.began) _
    _ _ s.address (λ x b l m. grind (arith, in_its_unit))

take_cleared : (n : ℕ) (es ls : List (Option ℕ)) → take n (cleared_lanes es ls) ≡ cleared_lanes (take n es) (take n ls)
take_cleared (suc n) (e ∷ es) (l ∷ ls) = grind (arith, take_cleared n es ls)
take_cleared n es ls = refl

-- a part of another unit has no byte there
pub elsewhere : (u v : ℕ) (ls : List (Option ℕ)) (x : ℕ) → x / 8 ≡ v → (v == u) ≡ false → lane_at (8 * u) (take 8 ls) x ≡ None
elsewhere u v ls x e ne = grind (arith, lane_before (8 * u) (take 8 ls) x, lane_past (8 * u) (take 8 ls) x, length-take 8 ls)

drop_part : (u : ℕ) (e p : StorePart) → filter (λ s. not (is_dropped u (part_bytes e) s)) (part_bytes p) ≡ part_bytes (without_part u e p)
drop_part u e p =
    let n = p.number in
    let t = p.began in
    let o = p.ended in
    elim (cases_Bool (clears u e p)) [
      | inl c ↦ let v : p.unit ≡ e.unit = grind arith in
          rw (c, v, take_cleared) (same_pass n t o (λ s. not _) (λ s. not (is_some (part_at e s.address))) (8 * e.unit) (eight p)
          (λ x b l m. rw dropped_by (grind arith)) ∙ clear_lanes n t o (8 * e.unit) (eight e) (eight p))
      | inr c ↦ rw c (all_pass n t o true (λ s. not _) _ (eight p) (λ x b l m.
          let f = elsewhere e.unit p.unit e.lanes x (in_its_unit p x l m) in rw dropped_by (grind arith)))
    ]

both_dropped : (u : ℕ) (xs ys zs : List StoreByte) → filter (λ s. not (is_dropped u (xs ++ ys) s)) zs
    ≡ filter (λ s. not (is_dropped u ys s)) (filter (λ s. not (is_dropped u xs s)) zs)
both_dropped u xs ys zs = grind (arith, list_any-append, filter-filter, filter_agree)

drop_parts : (u : ℕ) (es : List StorePart) (p : StorePart)
    → filter (λ s. not (is_dropped u (parts_bytes es) s)) (part_bytes p) ≡ part_bytes (without_parts u es p)
drop_parts u [] p = all_pass p.number p.began p.ended true (λ s. not (is_dropped u [] s)) _ (eight p) (λ x b l m. refl)
drop_parts u (e ∷ es) p = rw (both_dropped u (part_bytes e) (parts_bytes es), drop_part u e p) (drop_parts u es _)

drop_all : (u : ℕ) (es ps : List StorePart)
    → filter (λ s. not (is_dropped u (parts_bytes es) s)) (parts_bytes ps) ≡ parts_bytes (map (without_parts u es) ps)
drop_all u es [] = refl
drop_all u es (p ∷ ps) = grind (arith, filter-append, drop_parts, drop_all u es ps)

answered_parts : (m : ℕ) (ps : List StorePart) → map (answered_at m) (parts_bytes ps) ≡ parts_bytes (map (answered_part m) ps)
answered_parts m [] = refl
answered_parts m (p ∷ ps) = grind (arith, map-append, answered_lanes, answered_parts m ps)

pub after_parts : (m u : ℕ) (es ps : List StorePart)
    → parts_bytes (filter has_lane (map (without_parts u es) ps) ++ joined_parts m es u) ≡ answered_after m (parts_bytes es) u
    (parts_bytes ps)
after_parts m u es ps = simp (parts-append, without_empty, drop_all, filter_in, answered_parts)

-- the same of one part, in its own unit
pub after_part : (m : ℕ) (e : StorePart) (ps : List StorePart)
    → parts_bytes (filter has_lane (map (without_part e.unit e) ps) ++ answered_part m e ∷ []) ≡ answered_after m (part_bytes e) e.unit
    (parts_bytes ps)
after_part m e ps = grind (arith, after_parts m e.unit (e ∷ []) ps, append-nil)
