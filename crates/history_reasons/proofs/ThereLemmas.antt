-- What is told of a byte looks at the stores to its address alone.
use Rattle.std.proofs.Common.{◌≡◌, ℕ, ◌+◌, ◌<◌, ◌==◌, ◌&&◌, Bool, true, false, List, [], ◌∷◌, Option, Some, None, inl, inr, refl, ◌∙◌}
use Rattle.std.proofs.Common.{arith, ◌⊎◌}
use Rattle.std.specs.List.{filter, cons_option}
use Rattle.std.specs.Option.{option_map}
use Rattle.std.proofs.lemmas.Bool.{cases_Bool, ne_eqb}
use Rattle.std.proofs.lemmas.Bool.Decides.{nat_tests}
use Rattle.std.proofs.lemmas.List.Folds.{find-append}
use Rattle.std.proofs.lemmas.Grind.{reverse_onto}
use Rattle.std.proofs.lemmas.List.Elements.{filter-append, filter_map-append, filter_agree}
use Rattle.memory_histories.specs.declared.events.Rest.{Rest}
use Rattle.memory_histories.specs.declared.windows.StoreByte.{StoreByte}
use Rattle.memory_histories.specs.declared.windows.LoadByte.{LoadByte}
use Rattle.memory_histories.specs.Regular.{is_left, is_covered, overwrites, may_return_byte}
use Rattle.memory_histories.specs.Parts.{lane_bytes, lane_at}
use Rattle.memory_histories.proofs.Lanes.{all_pass}
use Rattle.memory_histories.proofs.Lists.{list_any-kept, list_any-same, filter-kept, filter-filter, filter-map}
use Rattle.history_reasons.specs.declared.stores.KeptStore.{KeptStore}
use Rattle.history_reasons.specs.Stores.{all_bytes, stored_there, last_there, first_in, lanes_in}
use Rattle.history_reasons.specs.Reasons.{stores_byte, covers, last_that, reason_by, last_reason}
use Rattle.history_reasons.proofs.Reasons.{last_more, tells, stores_law}
use Rattle.history_reasons.specs.Sources.{gives, givers, sources, at_request}

option_cases : {Y : Type 0} (o : Option Y) → (o ≡ None) ⊎ ((y : Y) × (o ≡ Some y))
option_cases None = inl refl
option_cases (Some y) = inr (y, refl)

-- The bytes at an address. ----

abbrev pub is_there : ℕ → StoreByte → Bool
is_there address s = s.address == address

module _ (n t : ℕ) (o : Option ℕ) (x : ℕ) where
  abbrev at : ℕ → StoreByte
  at b = record { number = n; address = x; byte = b; began = t; ended = o }

  none_there : (a : ℕ) (ls : List (Option ℕ)) → x < a → filter (is_there x) (lane_bytes n a ls t o) ≡ []
  none_there a ls h = all_pass n t o false (is_there x) a ls (λ y b l m. ne_eqb y x (λ e. omega arith))

  lane_there : (a : ℕ) (ls : List (Option ℕ))
      → filter (is_there x) (lane_bytes n a ls t o) ≡ cons_option (option_map at (lane_at a ls x)) []
  lane_there a [] = refl
  lane_there a (y ∷ ls) = grind (arith, nat_tests, none_there, option_cases y, lane_there (a + 1) ls)

pub bytes_there : (x : ℕ) (ss : List KeptStore) → stored_there x ss ≡ filter (is_there x) (all_bytes ss)
bytes_there x [] = refl
bytes_there x (s ∷ ss) =
    grind (arith, lane_there s.number s.began s.ended x (first_in s) (lanes_in s), option_cases, filter-append, bytes_there x ss)

-- Searches. ----

pub last_turned : (p : StoreByte → Bool) (address : ℕ) (ss : List KeptStore)
    → last_there p address ss ≡ last_that p (stored_there address ss)
last_turned p address [] = refl
last_turned p address (s ∷ ss) =
    grind (arith, reverse_onto, filter_map-append, find-append, option_cases, last_more, last_turned p address ss)

last_kept : (keep p : StoreByte → Bool) → ((s : StoreByte) → p s ≡ true → keep s ≡ true) → (xs : List StoreByte)
    → last_that p (filter keep xs) ≡ last_that p xs
last_kept keep p h [] = refl
last_kept keep p h (x ∷ xs) = grind (arith, cases_Bool, last_more, option_cases, h x, last_kept keep p h xs)

and_first : (a b : Bool) → (a && b) ≡ true → a ≡ true
and_first a b h = grind arith

and_swap : (a b : Bool) → (a && b) ≡ (b && a)
and_swap a b = grind (arith, cases_Bool)

-- What is told of a load. ----

module _ (l : LoadByte) (xs : List StoreByte) where
  abbrev near : List StoreByte
  near = filter (is_there l.address) xs

  covered_same : is_covered near l ≡ is_covered xs l
  covered_same = grind (arith, list_any-kept)

  pub request_same : at_request l near ≡ filter (is_there l.address) (at_request l xs)
  request_same = grind (arith, filter-filter, filter_agree, and_swap, filter-map)

module _ (l : LoadByte) (b : ℕ) (xs : List StoreByte) where
  gives_same : (s : StoreByte) → gives (near l xs) l b s ≡ gives xs l b s
  gives_same s = grind (arith, nat_tests, list_any-kept)

  pub givers_same : givers (near l xs) l b ≡ givers xs l b
  givers_same = filter_agree _ _ gives_same _ ∙ filter-kept (is_there l.address) _ (λ s. and_first _ _) xs

  left_same : is_left (near l xs) l b ≡ is_left xs l b
  left_same = grind (arith, list_any-same, gives_same, list_any-kept, and_first)

  by_same : (o : Option StoreByte) → last_that (stores_byte l.address b) xs ≡ o → (first : Bool) (c : Option StoreByte)
      → reason_by o (λ s. last_that (overwrites s l.began) (near l xs)) first c
      ≡ reason_by o (λ s. last_that (overwrites s l.began) xs) first c
  by_same (Some s) e first c =
      let its = rw e at (tells (stores_byte l.address b) _ (stores_law l.address b) xs) in
      grind (arith, last_kept, nat_tests)
  by_same None e first c = grind (arith, cases_Bool)

module _ (l : LoadByte) (b : ℕ) (image : List ℕ) (rest : Rest) (xs : List StoreByte) where
  may_same : may_return_byte image rest (near l xs) l b ≡ may_return_byte image rest xs l b
  may_same = grind (arith, left_same, covered_same)

  pub sources_same : sources image rest (near l xs) l b ≡ sources image rest xs l b
  sources_same = grind (arith, covered_same, givers_same)

  pub reason_same : last_reason image rest (near l xs) l b ≡ last_reason image rest xs l b
  reason_same =
      let stored = last_kept (is_there l.address) (stores_byte l.address b) (λ s. and_first _ _) xs in
      let covering = last_kept (is_there l.address) (covers l) (λ s. and_first _ _) xs in
      rw (may_same, stored, covering, by_same l b xs (last_that (stores_byte l.address b) xs) refl) refl
