-- The places of a word, and the bytes of a store.
use Rattle.std.proofs.Common.{◌≡◌, ℕ, zero, suc, ◌+◌, ◌/◌, ◌%◌, ◌<◌, ◌≤◌, Bool, true, false, ◌&&◌, ◌||◌, ◌==◌, if◌then◌else◌}
use Rattle.std.proofs.Common.{List, [], ◌∷◌, map, length, Option, Some, None, inr, refl, sym, ap, ◌∙◌, subst, arith}
use Rattle.std.specs.Prelude.{is_some}
use Rattle.std.specs.List.{list_any, range_with_len}
use Rattle.std.proofs.lemmas.Bool.{and_parts, and_from, lt-ltb, leb-true}
use Rattle.std.proofs.lemmas.Nat.Bits.{bit_at-suc}
use Rattle.atomic_histories.proofs.Bits.{stored_from_first}
use Rattle.atomic_histories.proofs.MayLaws.{then_it}
use Rattle.memory_histories.specs.declared.windows.StoreByte.{StoreByte}
use Rattle.memory_histories.specs.Windows.{store_bytes, cons_if, is_open}
use Rattle.memory_histories.specs.Regular.{has_enabled}
use Rattle.atomic_histories.specs.declared.unit.UnitPlace.{UnitPlace}
use Rattle.atomic_histories.specs.declared.unit.LoadAddress.{LoadAddress}
use Rattle.atomic_histories.specs.Words.{at_lane, at_unit, read_byte, enabled_byte, stored_byte, written_byte, written, is_as_it_stood}
use Rattle.atomic_histories.specs.Words.{is_word_of}
use Rattle.atomic_histories.specs.Stands.{Each, One}
use Rattle.atomic_histories.proofs.Lists.{each_weaker}

-- Places. ----

abbrev pub lane : List (Option ℕ) → ℕ → Option ℕ
lane [] j = None
lane (b ∷ bs) zero = b
lane (b ∷ bs) (suc j) = lane bs j

pub lane_written : (bs ws : List (Option ℕ)) (j : ℕ) → j < length ws → lane (written bs ws) j ≡ written_byte (lane bs j) (lane ws j)
unfolding written
lane_written [] ws j h = refl
lane_written (b ∷ bs) [] j h = absurd (omega arith)
lane_written (b ∷ bs) (w ∷ ws) zero h = refl
lane_written (b ∷ bs) (w ∷ ws) (suc j) h = lane_written bs ws j (omega arith)

pub length_written : (bs ws : List (Option ℕ)) → length (written bs ws) ≡ length ws
unfolding written
length_written [] ws = refl
length_written (b ∷ bs) [] = refl
length_written (b ∷ bs) (w ∷ ws) = ap suc (length_written bs ws)

pub zero_plus : (j : ℕ) → 0 + j ≡ j
zero_plus j = omega arith

pub lane_map : (g : ℕ → Option ℕ) (n i j : ℕ) → j < n → lane (map g (range_with_len i n)) j ≡ g (i + j)
lane_map g zero i j h = absurd (omega arith)
lane_map g (suc n) i zero h = ap g (omega arith)
lane_map g (suc n) i (suc j) h = lane_map g n _ j (omega arith) ∙ ap g (omega arith)

pub lane_unit : (unit : UnitPlace) (f : ℕ → Option ℕ) (j : ℕ) → j < unit.size → j < 8 → lane (at_unit unit f) j ≡ f (unit.first + j)
lane_unit unit f j h l = lane_map (at_lane unit f) 8 0 j l ∙ (ap (at_lane unit f) (zero_plus j) ∙ rw (lt-ltb j unit.size h) refl)

pub word_lane : (first : ℕ) (ws : List (Option ℕ)) (a : LoadAddress) (bs : List ℕ) (j : ℕ) → is_word_of first ws a bs ≡ true
    → is_as_it_stood (lane ws j) (read_byte a bs (first + j)) ≡ true
unfolding is_word_of
word_lane first [] a bs j h = refl
word_lane first (w ∷ ws) a bs zero h = grind arith
word_lane first (w ∷ ws) a bs (suc j) h = subst (λ x.
    is_as_it_stood (lane ws j) (read_byte a bs x) ≡ true) (omega arith) (word_lane (first + 1) ws a bs j (and_parts _ _ h).1)

pub lane_word : (first : ℕ) (ws : List (Option ℕ)) (a : LoadAddress) (bs : List ℕ) → ((j : ℕ) → j < length ws
    → is_as_it_stood (lane ws j) (read_byte a bs (first + j)) ≡ true) → is_word_of first ws a bs ≡ true
unfolding is_word_of
lane_word first [] a bs h = refl
lane_word first (w ∷ ws) a bs h =
    and_from _ _ (subst (λ x. is_as_it_stood w (read_byte a bs x) ≡ true) (omega arith) (h 0 (omega arith)))
    (lane_word (first + 1) ws a bs (λ j l. subst (λ x.
    is_as_it_stood (lane ws j) (read_byte a bs x) ≡ true) (omega arith) (h (suc j) (omega arith))))

pub some_lane : (ws : List (Option ℕ)) → list_any is_some ws ≡ true → (j : ℕ) × ((b : ℕ) × (lane ws j ≡ Some b))
some_lane [] h = cc
some_lane (None ∷ ws) h = let r = some_lane ws h in (suc r.0, (r.1.0, r.1.1))
some_lane (Some b ∷ ws) h = (0, (b, refl))

pub lane_past : (g : ℕ → Option ℕ) (n i j : ℕ) → n ≤ j → lane (map g (range_with_len i n)) j ≡ None
lane_past g zero i j h = refl
lane_past g (suc n) i zero h = absurd (omega arith)
lane_past g (suc n) i (suc j) h = lane_past g n _ j (omega arith)

pub as_none : (o : Option ℕ) → is_as_it_stood o None ≡ true
as_none None = refl
as_none (Some b) = refl

-- The bytes of a store. ----

pub enabled_first : (b : ℕ) (bs : List ℕ) (e : ℕ) → enabled_byte (b ∷ bs) e 0 ≡ (if e % 2 == 1 then Some b else None)
enabled_first b bs e = grind arith

pub enabled_next : (b : ℕ) (bs : List ℕ) (e k : ℕ) → enabled_byte (b ∷ bs) e (suc k) ≡ enabled_byte bs (e / 2) k
enabled_next b bs e k = rw (bit_at-suc e k) refl

-- one byte of a store that is requested
abbrev pub new_byte : ℕ → ℕ → ℕ → ℕ → StoreByte
new_byte n a b t = record { number = n; address = a; byte = b; began = t; ended = None }

one_cons_if : (P : StoreByte → Type 0) (c : Bool) (s : StoreByte) (ss : List StoreByte) → One P ss → One P (cons_if c s ss)
one_cons_if P true s ss h = inr h
one_cons_if P false s ss h = h

each_cons_if : (P : StoreByte → Type 0) (c : Bool) (s : StoreByte) (ss : List StoreByte) → (c ≡ true → P s) → Each P ss
    → Each P (cons_if c s ss)
each_cons_if P true s ss p h = (p refl, h)
each_cons_if P false s ss p h = h

enabled_new : (n a : ℕ) (bs : List ℕ) (e t k b : ℕ) → enabled_byte bs e k ≡ Some b → One (λ s.
    s ≡ new_byte n (a + k) b t) (store_bytes n a bs e t)
enabled_new n a [] e t k b h = grind arith
enabled_new n a (x ∷ bs) e t zero b h = grind arith
enabled_new n a (x ∷ bs) e t (suc k) b h =
    one_cons_if (λ s. s ≡ new_byte n _ b t) _ _ _
    (subst (λ y. One (λ s.
    s ≡ new_byte n y b t) (store_bytes n (a + 1) bs (e / 2) t)) (omega arith) (enabled_new n (a + 1) bs _ t k b (sym (enabled_next
    x bs e k) ∙ h)))

abbrev IsEnabled : ℕ → ℕ → List ℕ → ℕ → ℕ → StoreByte → Type 0
IsEnabled n a bs e t s = (s.number ≡ n) × ((s.ended ≡ None) × ((s.began ≡ t) × ((k : ℕ) × ((s.address ≡ a + k)
    × (enabled_byte bs e k ≡ Some s.byte)))))

each_enabled : (n a : ℕ) (bs : List ℕ) (e t : ℕ) → Each (IsEnabled n a bs e t) (store_bytes n a bs e t)
each_enabled n a [] e t = tt
each_enabled n a (x ∷ bs) e t =
    each_cons_if _ _ _ _
    (λ c. (refl, (refl, (refl, (0, (omega arith, enabled_first x bs e ∙ rw c refl))))))
    (each_weaker _ _
    (λ s h. let p = h.1.1.1.1.0 in (
      h.0,
      (
        h.1.0,
        (
          h.1.1.0,
          (
            suc h.1.1.1.0,
            (
              omega arith,
              enabled_next x bs e h.1.1.1.0 ∙ h.1.1.1.1.1,
            ),
          ),
        ),
      ),
    )) _ (each_enabled n (a + 1) bs (e / 2) t))

-- a byte that a store writes at an address is one of its bytes
pub stored_new : (n a : ℕ) (bs : List ℕ) (e t at b : ℕ) → stored_byte a bs e at ≡ Some b → One (λ s.
    s ≡ new_byte n at b t) (store_bytes n a bs e t)
stored_new n a bs e t at b h = grind (arith, then_it, leb-true, enabled_new)

-- and each of its bytes is one that it writes
abbrev pub IsNewByte : ℕ → ℕ → List ℕ → ℕ → ℕ → StoreByte → Type 0
IsNewByte n a bs e t s = (s.number ≡ n) × ((s.ended ≡ None) × ((s.began ≡ t) × (stored_byte a bs e s.address ≡ Some s.byte)))

pub each_new : (n a : ℕ) (bs : List ℕ) (e t : ℕ) → Each (IsNewByte n a bs e t) (store_bytes n a bs e t)
each_new n a bs e t = grind (arith, each_weaker, stored_from_first, each_enabled)

any_new_if : (c r x : Bool) (n m : ℕ) (s : StoreByte) (ss : List StoreByte) → is_open m s ≡ x → list_any (is_open m) ss ≡ (r && x)
    → list_any (is_open m) (cons_if c s ss) ≡ ((c || r) && x)
any_new_if true r x n m s ss p h = grind arith
any_new_if false r x n m s ss p h = h

pub any_new : (n a : ℕ) (bs : List ℕ) (e t m : ℕ) → list_any (is_open m) (store_bytes n a bs e t) ≡ (has_enabled bs e && (n == m))
any_new n a [] e t m = refl
any_new n a (x ∷ bs) e t m =
    any_new_if _ _ (n == m) n m (new_byte n a x t) (store_bytes n (a + 1) bs (e / 2) t) refl (any_new n (a
    + 1) bs (e / 2) t m)
