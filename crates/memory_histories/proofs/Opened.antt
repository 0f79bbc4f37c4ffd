-- The open loads, and the bytes that they stand for.
use Rattle.std.proofs.Common.{◌≡◌, ℕ, zero, suc, ◌+◌, ◌-◌, ◌<◌, ◌≤◌, Bool, true, false, ◌&&◌, not, if◌then◌else◌, ◌==◌, nat_le, nat_lt, min}
use Rattle.std.proofs.Common.{List, [], ◌∷◌, ◌++◌, map, drop, length, length-append, length-drop, append_assoc, append-nil, add-one}
use Rattle.std.proofs.Common.{drop-cons, drop-set-lt, take, set, get_or, Option, None, Some, slice_get, inl, inr, refl, sym, ap, arith}
use Rattle.std.proofs.Common.{◌/◌, ◌∙◌}
use Rattle.std.specs.List.{position, filter, find, fold, list_any, zip, position_from, range_with_len}
use Rattle.std.specs.Int.{bit_at}
use Rattle.std.proofs.lemmas.List.{drop_all, drop_min, map-append, take_more_set}
use Rattle.std.proofs.lemmas.Bool.{cases_lt}
use Rattle.std.proofs.lemmas.Iterator.Adapters.{position_from-zero}
use Rattle.std.specs.Option.{option_map}
use Rattle.std.specs.Prelude.{IfSome}
use Rattle.std.proofs.lemmas.List.Quantifiers.{position-Some}
use Rattle.std.proofs.lemmas.List.Elements.{filter-append}
use Rattle.std.proofs.lemmas.List.Folds.{list_any-append}
use Rattle.std.proofs.lemmas.Slice.Zip.{length-zip}
use Rattle.memory_histories.specs.declared.loads.OpenLoad.{OpenLoad}
use Rattle.memory_histories.specs.declared.kept.OpenByte.{OpenByte}
use Rattle.memory_histories.specs.declared.parts.StorePart.{StorePart}
use Rattle.memory_histories.specs.declared.sets.ByteSet.{ByteSet}
use Rattle.memory_histories.specs.declared.windows.LoadByte.{LoadByte}
use Rattle.memory_histories.specs.Sets.{has}
use Rattle.memory_histories.specs.Windows.{load_byte}
use Rattle.memory_histories.specs.Regular.{wrong_place}
use Rattle.memory_histories.specs.Kept.{after_stores, is_open_of, is_open_at, may_have, enabled_set, shown_set}
use Rattle.memory_histories.specs.Parts.{part_bytes}
use Rattle.memory_histories.specs.Loads.{set_bytes, load_open, loads_open, is_load_of, counted, shown_sets, is_near, or_next}
use Rattle.memory_histories.specs.Loads.{first_set_at, wrong_in}
use Rattle.memory_histories.specs.Loads.{behind}
use Rattle.memory_histories.proofs.Lists.{filter-made}
use Rattle.memory_histories.proofs.Pieces.{with_part, elsewhere}

-- Tests. ----

any_set : (k n x e t a : ℕ) (ss : List ByteSet)
    → list_any (is_open_of k) (set_bytes (load_byte n x e t) a ss) ≡ ((n == k) && nat_lt 0 (length ss))
any_set k n x e t a [] = grind arith
any_set k n x e t a (s ∷ ss) = grind (arith, any_set k n x e t (a + 1) ss)

pub any_open_load : (k : ℕ) (os : List OpenLoad)
    → list_any (is_open_of k) (loads_open os) ≡ list_any (λ o. is_load_of k o && nat_lt 0 (length o.sets.items)) os
any_open_load k [] = refl
any_open_load k (o ∷ os) = grind (arith, list_any-append, any_set, any_open_load k os)

-- a test by the number alone
all_sets : (q : OpenByte → Bool) (c : Bool) (byte : ℕ → LoadByte) (a : ℕ) (ss : List ByteSet)
    → ((x : ℕ) (s : ByteSet) → q (record { load = byte x; may = s }) ≡ c)
    → filter q (set_bytes byte a ss) ≡ (if c then set_bytes byte a ss else [])
all_sets q c byte a [] h = grind arith
all_sets q c byte a (s ∷ ss) h = grind (arith, h a s, all_sets q c byte (a + 1) ss h)

filter_all : (q : OpenByte → Bool) (r : OpenLoad → Bool)
    → ((o : OpenLoad) (x : ℕ) (s : ByteSet) → q (record { load = load_byte o.number o.address o.enables o.began x; may = s }) ≡ r o)
    → (os : List OpenLoad) → filter q (loads_open os) ≡ loads_open (filter r os)
filter_all q r h = filter-made q r load_open loads_open refl (λ o os. refl) (λ o. all_sets q (r o) _ _ _ (h o))

of_load : (k : ℕ) (o : OpenLoad) → filter (is_open_of k) (load_open o) ≡ (if is_load_of k o then load_open o else [])
of_load k o = all_sets _ _ _ o.address o.sets.items (λ x s. refl)

pub filter_loads : (k : ℕ) (os : List OpenLoad) → filter (is_open_of k) (loads_open os) ≡ loads_open (filter (is_load_of k) os)
filter_loads k = filter_all _ _ (λ o x s. refl)

pub filter_ended : (k : ℕ) (os : List OpenLoad) → filter (λ o. not (is_open_of k o)) (loads_open os)
    ≡ loads_open (filter (λ o. not (is_load_of k o)) os)
filter_ended k = filter_all _ _ (λ o x s. refl)

-- Lengths. ----

pub length-set_bytes : (byte : ℕ → LoadByte) (a : ℕ) (ss : List ByteSet) → length (set_bytes byte a ss) ≡ length ss
length-set_bytes byte a [] = refl
length-set_bytes byte a (s ∷ ss) = ap suc (length-set_bytes byte (a + 1) ss)

-- The first wrong byte. ----

abbrev next : Option ℕ → Option ℕ → Option ℕ
next (Some k) other = Some k
next None other = other

abbrev pub is_bad : (OpenByte × ℕ) → Bool
is_bad p = not (may_have p.0 p.1)

from_front : (xs ys : List OpenByte) (bs : List ℕ) (i : ℕ)
    → position_from is_bad i (zip (xs ++ ys) bs)
    ≡ next (position_from is_bad i (zip xs bs)) (position_from is_bad (i + min (length xs) (length bs)) (zip ys (drop (length xs) bs)))
from_front [] ys bs i = grind arith
from_front (x ∷ xs) ys (b ∷ bs) i = grind (arith, from_front xs ys bs (i + 1))
from_front xs [] [] i = grind arith
from_front (x ∷ xs) (y ∷ ys) [] i = grind arith

shift : (i : ℕ) (xs : List (OpenByte × ℕ)) → position_from is_bad i xs ≡ option_map (λ k. i + k) (position is_bad xs)
shift i [] = refl
shift i (x ∷ xs) = grind (arith, shift (i + 1) xs)

-- from a place of a load on
abbrev pub wrong_from : (ℕ → LoadByte) → ℕ → List ByteSet → List ℕ → ℕ → Option ℕ
wrong_from byte a ss bs k = position_from is_bad k (zip (set_bytes byte (a + k) (drop k ss)) (drop k bs))

pub wrong_first : (byte : ℕ → LoadByte) (a : ℕ) (ss : List ByteSet) (bs : List ℕ)
    → wrong_from byte a ss bs 0 ≡ wrong_place may_have (set_bytes byte a ss) bs
wrong_first byte a ss bs = let e : a + 0 ≡ a = omega arith in grind (arith, position_from-zero)

pub wrong_more : (n a e t k : ℕ) (ss : List ByteSet) (bs : List ℕ) (d : ByteSet) (c : ℕ) → k < length ss → k < length bs
    → wrong_from (load_byte n a e t) a ss bs k
    ≡ (if not (has (get_or ss k d) (get_or bs k c)) && (bit_at e k == 1) then Some k else wrong_from (load_byte n a e t) a ss bs (k + 1))
wrong_more n a e t k ss bs d c l m = grind (arith, drop-cons ss k d l, drop-cons bs k c m, add-one)

pub wrong_end : (byte : ℕ → LoadByte) (a k : ℕ) (ss : List ByteSet) (bs : List ℕ) → min (length ss) (length bs) ≤ k
    → wrong_from byte a ss bs k ≡ None
wrong_end byte a k ss bs h = elim (cases_lt k (length ss)) [
  | inl l ↦ rw (drop_all k bs (omega (arith, h, l))) (nothing_beside (set_bytes byte (a + k) (drop k ss)))
  | inr l ↦ rw (drop_all k ss l) refl
]
  where
    nothing_beside : (os : List OpenByte) → position_from is_bad k (zip os []) ≡ None
    nothing_beside [] = refl
    nothing_beside (o ∷ os) = refl

-- from one load on
pub at_load : (k : ℕ) (os : List OpenLoad) (n : ℕ) (o : OpenLoad) (bs : List ℕ) (i : ℕ) → n < length os → o ≡ get_or os n o
    → position_from is_bad i (zip (filter (is_open_of k) (loads_open (drop n os))) bs)
    ≡ next (option_map (λ p. i + p) (wrong_in k o bs))
    (position_from is_bad (i + (length bs - length (behind k o bs)))
    (zip (filter (is_open_of k) (loads_open (drop (n + 1) os))) (behind k o bs)))
at_load k os n o bs i within here =
    rw (drop-cons os n o within, ← here, add-one, filter-append, of_load k o)
    (go (filter (is_open_of k) (loads_open (drop (suc n) os))) (is_load_of k o))
  where
    go : (ys : List OpenByte) (c : Bool) → position_from is_bad i (zip ((if c then load_open o else []) ++ ys) bs)
        ≡ next (option_map (λ p. i + p) (if c then wrong_place may_have (load_open o) bs else None))
        (position_from is_bad (i + (length bs - length (if c then drop (min (length o.sets.items) (length bs)) bs else bs)))
        (zip ys (if c then drop (min (length o.sets.items) (length bs)) bs else bs)))
    go ys true = grind (
      arith,
      from_front (load_open o) ys bs i,
      length-set_bytes (load_byte o.number o.address o.enables o.began) o.address o.sets.items,
      length-drop,
      drop_min,
      shift i (zip (load_open o) bs),
    )
    go ys false = grind arith

pub place_bound : (o : Option ℕ) (os : List OpenByte) (d : OpenByte) (bs : List ℕ) → o ≡ wrong_place may_have os bs
    → IfSome o (λ p. p < length bs)
place_bound None os d bs e = tt
place_bound (Some k) os d bs e = grind (arith, position-Some _ (zip os bs) k (d, 0) (sym e), length-zip)

-- Sets. ----

pub shown_load : (p : StorePart) (n x e t a : ℕ) (ss : List ByteSet)
    → set_bytes (load_byte n x e t) a (shown_sets p a ss) ≡ map (after_stores (part_bytes p)) (set_bytes (load_byte n x e t) a ss)
shown_load p n x e t a [] = refl
shown_load p n x e t a (s ∷ ss) = rw (with_part p a s, shown_load p n x e t (a + 1) ss) refl

pub far : (p : StorePart) (a : ℕ) (ss : List ByteSet) → is_near a (length ss) p ≡ false → ss ≡ shown_sets p a ss
far p a [] h = refl
far p a (s ∷ ss) h = rw (elsewhere p.unit (a / 8) p.lanes a refl (grind arith), ← far p (a + 1) ss (grind arith)) refl

pub loads-append : (xs ys : List OpenLoad) → loads_open (xs ++ ys) ≡ loads_open xs ++ loads_open ys
loads-append [] ys = refl
loads-append (o ∷ os) ys = cc (loads-append os ys, append_assoc (load_open o) (loads_open os) (loads_open ys))

-- one load more is shown
pub one_shown : (f : OpenByte → OpenByte) (os : List OpenLoad) (i : ℕ) (v d : OpenLoad) → i < length os
    → load_open v ≡ map f (load_open (get_or os i d))
    → loads_open (take (i + 1) (set os i v)) ++ map f (loads_open (drop (i + 1) (set os i v)))
    ≡ loads_open (take i os) ++ map f (loads_open (drop i os))
one_shown f os i v d h e =
    rw (
      take_more_set os i v h,
      add-one,
      drop-set-lt (suc i) os i v (omega arith),
      loads-append,
      append-nil,
      append_assoc,
      drop-cons os i d h,
      map-append,
      e,
    ) refl

find_set : (k x n f e t a : ℕ) (ss : List ByteSet) → option_map shown_set (find (is_open_at k x) (set_bytes (load_byte n f e t) a ss))
    ≡ (if (n == k) && nat_le a x then option_map (enabled_set (bit_at e (x - f) == 1)) (slice_get ss (x - a)) else None)
find_set k x n f e t a [] = grind arith
find_set k x n f e t a (s ∷ ss) = grind (arith, find_set k x n f e t (a + 1) ss)

-- the sets of a load that is requested
pub opened_sets : (f : LoadByte → OpenByte) (sets : ℕ → ByteSet) → ((l : LoadByte) → f l ≡ record { load = l; may = sets l.address })
    → (n x e t a len : ℕ)
    → set_bytes (load_byte n x e t) a (map sets (range_with_len a len)) ≡ map f (map (load_byte n x e t) (range_with_len a len))
opened_sets f sets h n x e t a zero = refl
opened_sets f sets h n x e t a (suc len) = grind (arith, h (load_byte n x e t a), opened_sets f sets h n x e t (a + 1) len)

pub count_bytes : (k : ℕ) (os : List OpenLoad) (total : ℕ) → total ≤ 340282366920938463463374607431768211455
    → fold counted total (filter (is_load_of k) os) ≡ min (total + length (filter (is_open_of k) (loads_open os)))
    340282366920938463463374607431768211455
count_bytes k [] total h = omega arith
count_bytes k (o ∷ os) total h =
    grind (arith, filter-append, length-append, length-set_bytes, of_load, count_bytes k os total h, count_bytes k os (counted total o))

found_first : (p : OpenByte → Bool) (xs ys : List OpenByte)
    → option_map shown_set (find p (xs ++ ys)) ≡ or_next (option_map shown_set (find p xs)) (option_map shown_set (find p ys))
found_first p [] ys = refl
found_first p (x ∷ xs) ys = grind (arith, found_first p xs ys)

pub find_first : (k x : ℕ) (os : List OpenLoad) → option_map shown_set (find (is_open_at k x) (loads_open os)) ≡ first_set_at k x os
find_first k x [] = refl
find_first k x (o ∷ os) =
    found_first (is_open_at k x) (load_open o) (loads_open os)
    ∙ cc (find_set k x o.number o.address o.enables o.began o.address o.sets.items, find_first k x os)
