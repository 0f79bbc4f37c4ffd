-- Stores that are kept whole, and the bytes that they stand for.
use Rattle.std.proofs.Common.{◌≡◌, ℕ, zero, suc, ◌+◌, ◌-◌, ◌*◌, ◌%◌, ◌/◌, ◌<◌, ◌≤◌, ◌==◌, ◌&&◌, if◌then◌else◌, List, [], ◌∷◌, ◌++◌, map}
use Rattle.std.proofs.Common.{take, drop, length, get_or, slice_get, Option, Some, None, refl, ap, arith}
use Rattle.std.specs.Prelude.{is_none, is_some, count_ones, ◌^◌}
use Rattle.std.specs.Int.{bit_at}
use Rattle.std.specs.Int.Count.{ones_in, ones}
use Rattle.std.proofs.lemmas.Bool.Decides.{nat_tests}
use Rattle.std.proofs.lemmas.Grind.{flat_map-append, one_shifted}
use Rattle.std.proofs.lemmas.Bool.{cases_Bool}
use Rattle.std.proofs.lemmas.Nat.{mod-pow-add, mod_below, ones_cat}
use Rattle.std.proofs.lemmas.List.{append-nil, map-append, drop-drop, drop_all, drop_more, get_or_past, drop-append-le, get_or-drop}
use Rattle.std.proofs.lemmas.List.{nil_from_length}
use Rattle.std.proofs.Math.Seq.{drop-append-add}
use Rattle.memory_histories.specs.Windows.{store_bytes, after_response}
use Rattle.memory_histories.specs.Parts.{lane_bytes, lanes_of, lane_at}
use Rattle.memory_histories.proofs.Lanes.{lane_stored, length-lanes_of, store_lanes}
use Rattle.history_reasons.specs.declared.stores.KeptStore.{KeptStore}
use Rattle.history_reasons.specs.Stores.{bytes_in, all_lanes, lanes_in, first_in, bytes_of, all_bytes, with_store, after_answer, lanes_with}
use Rattle.history_reasons.specs.Stores.{without_first, gone_stores, gone_bytes, without_bytes}
use Rattle.history_reasons.specs.Log.{shortened}

-- Lanes. ----

pub lane_get : (a : ℕ) (ls : List (Option ℕ)) (k : ℕ) → lane_at a ls (a + k) ≡ get_or ls k None
lane_get a [] k = refl
lane_get a (x ∷ ls) zero = grind (arith, nat_tests)
lane_get a (x ∷ ls) (suc k) = grind (arith, nat_tests, lane_get (a + 1) ls k)

pub enabled_lane : (bs : List ℕ) (e k : ℕ) → get_or (lanes_of bs e) k None ≡ (if bit_at e k == 1 then slice_get bs k else None)
enabled_lane bs e k = grind (arith, lane_get 0 (lanes_of bs e) k, lane_stored 0 bs e k)

pub no_lane : (bs : List ℕ) (e k : ℕ) → length bs ≤ k → get_or (lanes_of bs e) k None ≡ None
no_lane bs e k past = grind (arith, get_or_past, length-lanes_of)

-- the lane at an address, by its place
pub lane_behind : (a f x : ℕ) (ls : List (Option ℕ)) → a ≤ x → f ≤ x - a → lane_at (a + f) (drop f ls) x ≡ get_or ls (x - a) None
lane_behind a f x ls low far = grind (arith, lane_get (a + f) (drop f ls) (x - a - f), get_or-drop)

-- how many bytes lanes have
abbrev pub lane_count : List (Option ℕ) → ℕ
lane_count [] = 0
lane_count (None ∷ ls) = lane_count ls
lane_count (Some b ∷ ls) = suc (lane_count ls)

pub lane_count-length : (n a : ℕ) (ls : List (Option ℕ)) (t : ℕ) (o : Option ℕ) → length (lane_bytes n a ls t o) ≡ lane_count ls
lane_count-length n a [] t o = refl
lane_count-length n a (None ∷ ls) t o = lane_count-length n (a + 1) ls t o
lane_count-length n a (Some b ∷ ls) t o = ap suc (lane_count-length n (a + 1) ls t o)

pub lane_count-ones : (bs : List ℕ) (e : ℕ) → lane_count (lanes_of bs e) ≡ ones_in (length bs) e
unfolding ones_in
lane_count-ones [] e = refl
lane_count-ones (b ∷ bs) e = grind (arith, nat_tests, lane_count-ones bs (e / 2))

pub few_ones : (n e : ℕ) → ones_in n e ≤ n
unfolding ones_in
few_ones zero e = omega arith
few_ones (suc n) e = grind (arith, few_ones n (e / 2))

one_bit : (r : ℕ) → r < 2 → count_ones r ≡ r
unfolding ones ones_in
one_bit r h = grind arith

ones_within : (n e : ℕ) → count_ones (e % 2 ^ n) ≡ ones_in n e
unfolding ones_in ones
ones_within zero e = grind (arith, mod_below e 1)
ones_within (suc n) e =
    grind (arith, mod_below e 2, mod-pow-add e n 1, ones_cat 1 (e / 2 % 2 ^ n) (e % 2), ones_within n (e / 2), one_bit (e % 2))

pub first_ones : (n e : ℕ) → n < 64 → count_ones (e % (1 * 2 ^ n % 18446744073709551616)) ≡ ones_in n e
first_ones n e h = grind (arith, ones_within n e, one_shifted)

pub all_ones : (n e : ℕ) → n ≤ 64 → 64 ≤ n → e < 18446744073709551616 → count_ones e ≡ ones_in n e
all_ones n e most least h = grind (arith, ones_within n e)

-- how many bytes a store has that is requested
pub requested_count : (n a : ℕ) (bs : List ℕ) (e t : ℕ) → length (store_bytes n a bs e t) ≡ ones_in (length bs) e
requested_count n a bs e t = grind (arith, store_lanes, lane_count-length, lane_count-ones)

-- Requests and answers. ----

pub new_bytes : (number address : ℕ) (bs full : List ℕ) (enables moment : ℕ) → length bs ≤ 64 → take (length bs) full ≡ bs
    → bytes_of (record {
      number = number;
      address = address;
      bytes = full;
      length = length bs;
      enables = enables;
      from = 0;
      began = moment;
      ended = None;
    })
    ≡ store_bytes number address bs enables moment
new_bytes number address bs full enables moment few same = grind (arith, store_lanes)

pub with_its_bytes : (s : KeptStore) (xs : List KeptStore) → all_bytes (with_store s xs) ≡ all_bytes xs ++ bytes_of s
with_its_bytes s xs = grind (arith, nat_tests, nil_from_length, append-nil, flat_map-append)

-- an answer ends all bytes of a store or none
ended : (number moment n t : ℕ) (o : Option ℕ) (a : ℕ) (ls : List (Option ℕ))
    → lane_bytes n a ls t (if is_none o && (n == number) then Some moment else o)
    ≡ map (after_response number moment) (lane_bytes n a ls t o)
ended number moment n t o a [] = refl
ended number moment n t o a (None ∷ ls) = ended number moment n t o (a + 1) ls
ended number moment n t o a (Some b ∷ ls) = grind (arith, cases_Bool, ended number moment n t o (a + 1) ls)

one_answered : (number moment : ℕ) (s : KeptStore)
    → bytes_of (after_answer number moment s) ≡ map (after_response number moment) (bytes_of s)
one_answered number moment s = grind (arith, cases_Bool, ended number moment s.number s.began s.ended (first_in s) (lanes_in s))

pub all_answered : (number moment : ℕ) (xs : List KeptStore)
    → all_bytes (map (after_answer number moment) xs) ≡ map (after_response number moment) (all_bytes xs)
all_answered number moment [] = refl
all_answered number moment (s ∷ xs) = grind (arith, one_answered, map-append, all_answered number moment xs)

-- What is forgotten. ----

lanes_gone : (n a t : ℕ) (o : Option ℕ) (count : ℕ) (ls : List (Option ℕ))
    → lane_bytes n (a + lanes_with count ls) (drop (lanes_with count ls) ls) t o ≡ drop count (lane_bytes n a ls t o)
lanes_gone n a t o (suc count) (None ∷ ls) = grind (arith, lanes_gone n (a + 1) t o (suc count) ls)
lanes_gone n a t o (suc count) (Some b ∷ ls) = grind (arith, lanes_gone n (a + 1) t o count ls)
lanes_gone n a t o count ls = grind arith

first_gone : (count : ℕ) (s : KeptStore) → bytes_of (without_first count s) ≡ drop count (bytes_of s)
first_gone count s = grind (arith, drop-drop, lanes_gone s.number (first_in s) s.began s.ended count (lanes_in s))

bytes_gone : (count : ℕ) (xs : List KeptStore) → all_bytes (without_bytes count xs) ≡ drop count (all_bytes xs)
bytes_gone count [] = grind (arith, drop_all)
bytes_gone count (s ∷ xs) =
    grind (arith, nat_tests, first_gone, drop-append-add, drop-append-le, bytes_gone (count - length (bytes_of s)) xs)

pub short_bytes : (count : ℕ) (xs : List KeptStore) → all_bytes (shortened count xs) ≡ drop count (all_bytes xs)
short_bytes count xs = grind (arith, nat_tests, bytes_gone)

-- Loops. ----

pub count_of : (s : KeptStore) → lane_count (lanes_in s) ≡ length (bytes_of s)
count_of s = grind (arith, lane_count-length)

pub whole_count : (s : KeptStore) → s.from ≡ 0 → ones_in (length (bytes_in s)) s.enables ≡ length (bytes_of s)
whole_count s whole = grind (arith, lane_count-ones, count_of)

pub count_more : (s : KeptStore) (k : ℕ) → k < length (bytes_in s)
    → lane_count (drop k (all_lanes s)) ≡ (if is_some (get_or (all_lanes s) k None) then 1 else 0) + lane_count (drop (k + 1) (all_lanes s))
count_more s k l = grind (arith, length-lanes_of, drop_more)

pub count_past : (s : KeptStore) (k : ℕ) → length (bytes_in s) ≤ k → lane_count (drop k (all_lanes s)) ≡ 0
count_past s k past = grind (arith, length-lanes_of, drop_all)

one_with : (n : ℕ) (x : Option ℕ) (ls : List (Option ℕ)) → 0 < n
    → lanes_with n (x ∷ ls) ≡ suc (lanes_with (if is_some x then n - 1 else n) ls)
one_with zero x ls h = absurd (omega arith)
one_with (suc n) x ls h = grind arith

pub with_more : (s : KeptStore) (n k : ℕ) → k < length (bytes_in s) → 0 < n
    → lanes_with n (drop k (all_lanes s))
    ≡ suc (lanes_with (if is_some (get_or (all_lanes s) k None) then n - 1 else n) (drop (k + 1) (all_lanes s)))
with_more s n k l some = grind (arith, length-lanes_of, drop_more, one_with)

none_with : (n : ℕ) → lanes_with n [] ≡ 0
none_with n = grind arith

pub with_past : (s : KeptStore) (n k : ℕ) → length (bytes_in s) ≤ k → lanes_with n (drop k (all_lanes s)) ≡ 0
with_past s n k past = grind (arith, length-lanes_of, drop_all, none_with)

pub gone_more : (xs : List KeptStore) (count k : ℕ) (d : KeptStore) → k < length xs
    → gone_stores count (drop k xs) ≡ gone_stores count (get_or xs k d ∷ drop (k + 1) xs)
gone_more xs count k d l = grind (arith, drop_more)

pub left_more : (xs : List KeptStore) (count k : ℕ) (d : KeptStore) → k < length xs
    → gone_bytes count (drop k xs) ≡ gone_bytes count (get_or xs k d ∷ drop (k + 1) xs)
left_more xs count k d l = grind (arith, drop_more)
