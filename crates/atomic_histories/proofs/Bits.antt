-- Enables beyond the 64 that a number has, and steps of the loops over bytes.
use Rattle.std.proofs.Common.{◌≡◌, ℕ, zero, suc, ◌+◌, ◌-◌, ◌^◌, ◌<◌, ◌≤◌, ◌⊎◌, true, ◌&&◌, ◌==◌, List, [], ◌∷◌, ◌++◌, length, take}
use Rattle.std.proofs.Common.{drop, get_or}
use Rattle.std.proofs.Common.{set, Option, None, slice_get, inl, inr, refl, ap, ap₂, ◌∙◌, append_assoc, add-one, drop-cons}
use Rattle.std.proofs.Common.{take-append-drop, append-nil, drop-set-lt, arith}
use Rattle.std.proofs.lemmas.Nat.Bits.{bit_at_above, bit_at_ones, bit_at_ones_above}
use Rattle.std.proofs.lemmas.List.{at_drop_more, take_more_set, drop_all}
use Rattle.std.specs.Option.{option_eq}
use Rattle.atomic_histories.specs.Followed.{is_same_word, are_same_lanes}
use Rattle.atomic_histories.specs.Words.{enabled_byte, read_byte, stored_byte, written_byte, written, is_as_it_stood, is_word_of}
use Rattle.atomic_histories.specs.Words.{is_first_word}
use Rattle.atomic_histories.specs.declared.unit.LoadAddress.{LoadAddress}
use Rattle.std.proofs.lemmas.Bool.{cases_lt}
use Rattle.std.proofs.lemmas.Option.{slice_get_past}

pub none_above : (bytes : List ℕ) (enables k : ℕ) → enables < 2 ^ 64 → 64 ≤ k → enabled_byte bytes enables k ≡ None
none_above bytes enables k l h = rw (bit_at_above enables 64 k l h) refl

pub word_more : (f : ℕ) (ws : List (Option ℕ)) (k : ℕ) (a : LoadAddress) (bs : List ℕ) → k < length ws
    → is_word_of (f + k) (drop k ws) a bs ≡
    (is_as_it_stood (get_or ws k None) (read_byte a bs (f + k)) && is_word_of (f + (k + 1)) (drop (k + 1) ws) a bs)
unfolding is_word_of
word_more f ws k a bs h = let s : f + k + 1 ≡ f + (k + 1) =
    omega arith in rw (← s) (at_drop_more (λ xs. is_word_of (f + k) xs a bs) ws k None h)

-- Bytes that begin with the unit. ----

pub stored_from_first : (first : ℕ) (bytes : List ℕ) (enables k : ℕ)
    → stored_byte first bytes enables (first + k) ≡ enabled_byte bytes enables k
stored_from_first first bytes enables k = grind arith

-- the load enables each byte
abbrev all_from : ℕ → LoadAddress
all_from f = record { first = f; enables = 18446744073709551615 }

all_read : (f : ℕ) (bs : List ℕ) (k : ℕ) → length bs ≤ 64 → read_byte (all_from f) bs (f + k) ≡ slice_get bs k
all_read f bs k h = stored_from_first f bs 18446744073709551615 k ∙ go (cases_lt k 64)
  where
    go : (k < 64) ⊎ (64 ≤ k) → enabled_byte bs 18446744073709551615 k ≡ slice_get bs k
    go (inl l) = rw (bit_at_ones 64 k l) refl
    go (inr l) = rw (bit_at_ones_above 64 k l, slice_get_past bs k (omega (arith, h, l))) refl

same_from : (f : ℕ) (ws : List (Option ℕ)) (bs : List ℕ) (j : ℕ) → length bs ≤ 64
    → is_word_of (f + j) ws (all_from f) bs ≡ is_first_word ws bs j
unfolding is_word_of is_first_word
same_from f [] bs j h = refl
same_from f (w ∷ ws) bs j h =
    let next : f + j + 1 ≡ f + (j + 1) = omega arith in
    ap₂ (λ c r. is_as_it_stood w c && r) (all_read f bs j h) (ap (λ i. is_word_of i ws (all_from f) bs) next ∙ same_from f ws bs _ h)

pub first_same : (f : ℕ) (a : LoadAddress) (ws : List (Option ℕ)) (bs : List ℕ) → a.first ≡ f → a.enables ≡ 18446744073709551615
    → length bs ≤ 64 → is_word_of f ws a bs ≡ is_first_word ws bs 0
first_same f a ws bs p q h =
    let e : f ≡ f + 0 = omega arith in
    let whole : a ≡ all_from f = (λ i. record { first = p i; enables = q i }) in
    ap (λ x. is_word_of f ws x bs) whole ∙ (ap (λ i. is_word_of i ws (all_from f) bs) e ∙ same_from f ws bs 0 h)

pub first_more : (ws : List (Option ℕ)) (k : ℕ) (bs : List ℕ) → k < length ws
    → is_first_word (drop k ws) bs k ≡ (is_as_it_stood (get_or ws k None) (slice_get bs k) && is_first_word (drop (k + 1) ws) bs (k + 1))
unfolding is_first_word
first_more ws k bs h = at_drop_more (λ xs. is_first_word xs bs k) ws k None h

pub first_all : (ws : List (Option ℕ)) (k : ℕ) (bs : List ℕ) → length ws ≤ k → is_first_word (drop k ws) bs k ≡ true
unfolding is_first_word
first_all ws k bs h = rw (drop_all k ws h) refl

-- what is written so far, and what is left to write
abbrev pub written_from : ℕ → List (Option ℕ) → List (Option ℕ) → List (Option ℕ)
written_from k bytes word = take k word ++ written (drop k bytes) (drop k word)

pub write_more : (bytes word : List (Option ℕ)) (k : ℕ) → k < length word → k < length bytes
    → written_from (k + 1) bytes (set word k (written_byte (get_or bytes k None) (get_or word k None))) ≡ written_from k bytes word
unfolding written
write_more bytes word k h l = grind (arith, take_more_set, drop-set-lt, append_assoc, add-one, drop-cons)

pub write_past : (bytes word : List (Option ℕ)) (k : ℕ) → k < length word → length bytes ≤ k
    → written_from (k + 1) bytes word ≡ written_from k bytes word
unfolding written
write_past bytes word k h l = grind (arith, drop_all, take-append-drop)

written_none : (bytes : List (Option ℕ)) → written bytes [] ≡ []
unfolding written
written_none [] = refl
written_none (b ∷ bs) = refl

pub write_all : (bytes word : List (Option ℕ)) (k : ℕ) → length word ≤ k → written_from k bytes word ≡ word
write_all bytes word k h = grind (arith, drop_all, written_none, append-nil, take-append-drop)

pub word_all : (f : ℕ) (ws : List (Option ℕ)) (k : ℕ) (a : LoadAddress) (bs : List ℕ) → length ws ≤ k → is_word_of f (drop k ws) a bs ≡ true
unfolding is_word_of
word_all f ws k a bs h = rw (drop_all k ws h) refl

-- Words lane by lane. ----

lanes_left : (n k : ℕ) (a b : List (Option ℕ)) → length a ≡ k + n → length b ≡ k + n
    → are_same_lanes k n a b ≡ is_same_word (drop k a) (drop k b)
lanes_left zero k a b la lb = grind (arith, drop_all)
lanes_left (suc n) k a b la lb =
    let here : k < length a = omega (arith, la) in
    let there : k < length b = omega (arith, lb) in
    rw (drop-cons a k None here, drop-cons b k None there)
    (ap (λ r. option_eq ◌==◌ (get_or a k None) (get_or b k None) && r)
    (lanes_left n _ a b (omega (arith, la)) (omega (arith, lb))))

pub same_lanes : (a b : List (Option ℕ)) → length a ≡ 8 → length b ≡ 8 → are_same_lanes 0 8 a b ≡ is_same_word a b
same_lanes a b la lb = lanes_left 8 0 a b la lb
