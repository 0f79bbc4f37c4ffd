-- An answer ends its store, which is found from the places of the open stores.
use Rattle.std.proofs.Common.{◌≡◌, ℕ, zero, suc, ◌+◌, ◌-◌, ◌<◌, ◌≤◌, ◌==◌, not, if◌then◌else◌, true, List, [], ◌∷◌, ◌++◌, map, take, drop}
use Rattle.std.proofs.Common.{length, get_or, slice_get, inl, inr, refl, ◌∙◌, arith, length-drop, length-append}
use Rattle.std.specs.Prelude.{set}
use Rattle.std.specs.List.{filter, list_any, copy_within}
use Rattle.std.specs.Option.{option_map}
use Rattle.std.proofs.lemmas.Bool.{cases_Bool, cases_lt}
use Rattle.std.proofs.lemmas.Bool.Decides.{nat_tests}
use Rattle.std.proofs.lemmas.Grind.{get_or-set_at}
use Rattle.std.proofs.lemmas.List.{get_or_append_left, get_or_push, get_or-drop, get_or-map, get_or-set_other, length-map, length-set}
use Rattle.std.proofs.lemmas.List.{same_lists, drop_more, take_all}
use Rattle.std.proofs.lemmas.List.Folds.{list_any-append}
use Rattle.std.proofs.lemmas.List.Edits.{take-paste}
use Rattle.std.proofs.lemmas.Option.{slice_get-get_or, slice_get_past}
use Rattle.memory_histories.proofs.Lists.{list_any-kept}
use Rattle.history_reasons.specs.declared.places.StorePlace.{StorePlace}
use Rattle.history_reasons.specs.declared.stores.KeptStore.{KeptStore}
use Rattle.history_reasons.specs.Stores.{with_store, is_open_store, after_answer, cut, gone_stores, gone_bytes}
use Rattle.history_reasons.specs.Log.{shortened, gone}
use Rattle.history_reasons.specs.Places.{is_place_of, reaches, AreFound, put, ended_from, ended_at, moved_down}

-- The store at a place. ----

pub put_there : (f : KeptStore → KeptStore) (xs : List KeptStore) (i : ℕ) (d : KeptStore) → i < length xs
    → set xs i (f (get_or xs i d)) ≡ put i (option_map f (slice_get xs i)) xs
put_there f xs i d l = grind (arith, slice_get-get_or)

pub put_past : (f : KeptStore → KeptStore) (xs : List KeptStore) (i : ℕ) → length xs ≤ i
    → xs ≡ put i (option_map f (slice_get xs i)) xs
put_past f xs i l = grind (arith, slice_get_past)

module _ (number moment : ℕ) where
  abbrev answered : KeptStore → KeptStore
  answered = after_answer number moment

  abbrev step : StorePlace → List KeptStore → List KeptStore
  step p xs = if is_place_of number p then ended_from p number moment xs else xs

  length_step : (p : StorePlace) (xs : List KeptStore) → length (step p xs) ≡ length xs
  length_step p xs = grind (arith, cases_Bool, cases_lt p.first (length xs), slice_get_past, slice_get-get_or, length-set)

  length_at : (ps : List StorePlace) (xs : List KeptStore) → length (ended_at ps number moment xs) ≡ length xs
  length_at [] xs = refl
  length_at (p ∷ ps) xs = length_at ps (step p xs) ∙ length_step p xs

  step_at : (p : StorePlace) (xs : List KeptStore) (k : ℕ) (d : KeptStore) → k < length xs
      → get_or (step p xs) k d ≡ (if reaches number k p then answered (get_or xs k d) else get_or xs k d)
  step_at p xs k d l =
      grind (arith, nat_tests, cases_lt p.first (length xs), slice_get_past, slice_get-get_or, get_or-set_at, get_or-set_other)

  -- where an open store of this number is reached, it is answered; any other stays
  all_at : (ps : List StorePlace) (xs : List KeptStore) (k : ℕ) (d : KeptStore) → k < length xs
      → (is_open_store number (get_or xs k d) ≡ true → list_any (reaches number k) ps ≡ true)
      → get_or (ended_at ps number moment xs) k d ≡ answered (get_or xs k d)
  all_at [] xs k d l h = grind (arith, cases_Bool)
  all_at (p ∷ ps) xs k d l h = grind (arith, cases_Bool, length_step, step_at, all_at ps (step p xs) k d)

  pub all_ended : (ps : List StorePlace) (xs : List KeptStore) → AreFound ps xs → ended_at ps number moment xs ≡ map answered xs
  all_ended ps xs h = same_lists _ _ (grind (arith, length_at, length-map))
      (λ k d l. grind (arith, nat_tests, length_at, all_at ps xs k d, get_or-map, h k d))

pub ended_at_more : (ps : List StorePlace) (i number moment : ℕ) (xs : List KeptStore) (d : StorePlace) → i < length ps
    → ended_at (drop i ps) number moment xs ≡ ended_at (get_or ps i d ∷ drop (i + 1) ps) number moment xs
ended_at_more ps i number moment xs d l = grind (arith, drop_more)

-- They are found as a history goes. ----

pub request_found : (ps : List StorePlace) (xs : List KeptStore) (s : KeptStore) (p : StorePlace) → p.number ≡ s.number
    → p.first ≡ length xs → AreFound ps xs → AreFound (ps ++ p ∷ []) (with_store s xs)
request_found ps xs s p its first h k d l none =
    grind (arith, nat_tests, list_any-append, get_or_append_left, get_or_push, length-append, h k d)

pub answer_found : (ps : List StorePlace) (xs : List KeptStore) (number moment : ℕ) → AreFound ps xs
    → AreFound (filter (λ p. not (is_place_of number p)) ps) (map (after_answer number moment) xs)
answer_found ps xs number moment h k d l none =
    grind (arith, nat_tests, length-map, get_or-map, list_any-kept, h k d)

-- a place that reached a store reaches it where it has come
moved_reaches : (number c k : ℕ) (ps : List StorePlace) → list_any (reaches number (c + k)) ps ≡ true
    → list_any (reaches number k) (map (moved_down c) ps) ≡ true
moved_reaches number c k [] h = h
moved_reaches number c k (p ∷ ps) h = grind (arith, nat_tests, moved_reaches number c k ps)

pub rest_found : (ps : List StorePlace) (xs : List KeptStore) (c : ℕ) → AreFound ps xs → AreFound (map (moved_down c) ps) (drop c xs)
rest_found ps xs c h k d l none = grind (arith, length-drop, get_or-drop, moved_reaches)

-- if none is forgotten, each stays where it is
pub not_moved : (c : ℕ) (ps : List StorePlace) → c ≡ 0 → ps ≡ map (moved_down c) ps
not_moved c [] e = refl
not_moved c (p ∷ ps) e = grind (arith, not_moved c ps e)

-- the first are forgotten where those behind them are copied over them
pub copied_down : (xs : List KeptStore) (c n : ℕ) → c ≤ length xs → n ≡ length xs → take (n - c) (copy_within xs c n 0) ≡ drop c xs
copied_down xs c n few all = grind (arith, length-drop, take-paste xs 0 (drop c xs) (n - c), take_all)

-- the first one is found though some of its bytes are gone
cut_found : (ps : List StorePlace) (xs : List KeptStore) (count : ℕ) → AreFound ps xs → AreFound ps (cut count xs)
cut_found ps [] count h k d l none = h k d l none
cut_found ps (x ∷ xs) count h zero d l none = h zero d l none
cut_found ps (x ∷ xs) count h (suc k) d l none = h (suc k) d l none

pub short_found : (ps : List StorePlace) (xs : List KeptStore) (count : ℕ) → AreFound ps xs
    → AreFound (map (moved_down (gone count xs)) ps) (shortened count xs)
short_found ps xs count h = elim (cases_Bool (count == 0)) [
  | inl e ↦ rw (e, ← not_moved 0 ps refl) h
  | inr e ↦ rw e (cut_found _ _ (gone_bytes count xs) (rest_found ps xs (gone_stores count xs) h))
]
