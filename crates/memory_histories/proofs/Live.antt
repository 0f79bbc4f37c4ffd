-- Which stores a load may still see, and that those that are dropped change no answer.
use Rattle.std.proofs.Common.{◌≡◌, ℕ, suc, ◌+◌, ◌≤◌, Bool, true, false, ◌&&◌, ◌||◌, not, ◌==◌, List, [], ◌∷◌, map, None, refl, sym, ◌∙◌}
use Rattle.std.proofs.Common.{inl, inr, arith}
use Rattle.std.specs.Prelude.{zero, is_some}
use Rattle.std.specs.List.{All, Contains, filter, list_any}
use Rattle.std.proofs.lemmas.Bool.{cases_Bool}
use Rattle.std.proofs.lemmas.List.Folds.{Any-from_list_any, list_any-from_Any, list_any-append}
use Rattle.memory_histories.specs.declared.windows.StoreByte.{StoreByte}
use Rattle.memory_histories.specs.declared.windows.LoadByte.{LoadByte}
use Rattle.memory_histories.specs.Windows.{is_open, after_response}
use Rattle.memory_histories.specs.Regular.{is_before, is_overwritten, is_left, is_covered}
use Rattle.memory_histories.specs.Kept.{is_past, is_in, unit_of, is_dropped, answered_at, answered_after, is_unanswered, is_seen, IsTimely}
use Rattle.memory_histories.proofs.Lists.{list_any-agree, list_any-same, list_any-never, list_any-map, list_any-filter, list_any-or}
use Rattle.memory_histories.proofs.Lists.{list_any-kept, filter-kept}

-- Open stores. ----

-- an open byte is not overwritten
never_past : (stores : List StoreByte) (s : StoreByte) → s.ended ≡ None → is_past stores s ≡ false
never_past stores s e = list_any-never _ (λ o. grind arith) stores

pub list_any-open : (stores : List StoreByte) (n : ℕ) → list_any (is_open n) (filter is_unanswered stores) ≡ list_any (is_open n) stores
list_any-open stores n = grind (arith, list_any-kept)

pub filter-open : (stores : List StoreByte) (n : ℕ) → filter (is_open n) (filter is_unanswered stores) ≡ filter (is_open n) stores
filter-open stores n = grind (arith, filter-kept)

-- At the moment of a request. ----

some_more : {X : Type 0} (p q : X → Bool) → ((x : X) → p x ≡ true → q x ≡ true) → (xs : List X) → list_any p xs ≡ true
    → list_any q xs ≡ true
some_more p q h [] e = e
some_more p q h (x ∷ xs) e = grind (arith, h x, some_more p q h xs)

same_tests : (x y : Bool) → (x ≡ true → y ≡ true) → (y ≡ true → x ≡ true) → x ≡ y
same_tests x y f g = grind arith

-- the stores that were answered at an address: the latest of them is live
abbrev ended_at : ℕ → StoreByte → Bool
ended_at a s = (s.address == a) && is_some s.ended

abbrev pub puts : ℕ → ℕ → StoreByte → Bool
puts a b s = (s.address == a) && (s.byte == b)

module _ (t : ℕ) (stores : List StoreByte) (timely : All (IsTimely t) stores) where
  overwritten_now : (s : StoreByte) → is_overwritten stores s t ≡ is_past stores s
  overwritten_now s = grind (arith, list_any-agree)

  climb : (a n : ℕ) (s : StoreByte) → Contains stores s → ended_at a s ≡ true → t ≤ s.began + n
      → list_any (λ s. s.address == a) (filter (is_seen (unit_of a) stores) stores) ≡ true
  climb a zero s c q h = grind arith
  climb a (suc n) s c q h = elim (cases_Bool (is_past stores s)) [
    | inl past ↦ let w = Any-from_list_any _ stores past in climb a n w.1 (w.0, w.2, w.3) (grind arith) (grind arith)
    | inr live ↦ rw list_any-filter (list_any-from_Any _ stores (c.0, s, c.1, c.2, grind arith))
  ]

  pub covered_now : (l : LoadByte) → l.began ≡ t
      → is_covered stores l ≡ list_any (λ s. s.address == l.address) (filter (is_seen (unit_of l.address) stores) stores)
  covered_now l e =
      let a = l.address in
      list_any-agree _ (ended_at a) stores (λ k d i. let h = timely k d i in grind arith)
      ∙ same_tests _ _ (λ h. let w = Any-from_list_any _ stores h in climb a t w.1 (w.0, w.2, w.3) w.4 (omega arith))
      (λ h. some_more (λ s. is_seen (unit_of a) stores s && (s.address == a)) (ended_at a) (λ s i. grind arith) stores
      (rw list_any-filter at h))

  -- what a load may see is of an answered store, in its unit, or of an open one
  pub left_now : (l : LoadByte) (b : ℕ) → l.began ≡ t
      → is_left stores l b
      ≡ (list_any (puts l.address b) (filter (is_seen (unit_of l.address) stores) stores) || list_any (puts l.address b)
      (filter is_unanswered stores))
  left_now l b e = rw (list_any-filter, list_any-filter, ← list_any-or)
      (list_any-same _ _ (λ s. grind (arith, never_past, overwritten_now)) stores)

-- At a store's response. ----

abbrev drops : StoreByte → StoreByte → Bool
drops s e = (e.address == s.address) && is_before s.ended e.began

module _ (n t : ℕ) (stores : List StoreByte) (timely : All (IsTimely t) stores) where
  -- what is overwritten then: what was so before, and what the store overwrites
  past_after : (s : StoreByte) → is_past (map (after_response n t) stores) (after_response n t s)
      ≡ (is_past stores s || list_any (drops s) (filter (is_open n) stores))
  past_after s = rw (list_any-map, list_any-filter, ← list_any-or)
      (list_any-agree _ _ stores (λ k d l. let h = timely k d l in grind arith))

  -- after the answer a load may see what it could before and wasn't overwritten now, and the bytes of the store
  seen_answered : (u : ℕ) (test : StoreByte → Bool) (s : StoreByte)
      → (is_seen u (map (after_response n t) stores) (after_response n t s) && test (after_response n t s))
      ≡ ((is_seen u stores s && (not (is_dropped u (filter (is_open n) stores) s) && test s)) ||
      (is_open n s && (is_in u s && test (answered_at t s))))
  seen_answered u test s = rw past_after (grind (arith, list_any-never, list_any-same))

  pub answered_seen : (u : ℕ) (answered : List StoreByte)
      → ((test : StoreByte → Bool) → list_any test answered ≡ list_any test (filter (is_seen u stores) stores)) → (test : StoreByte → Bool)
      → list_any test (answered_after t (filter (is_open n) stores) u answered)
      ≡ list_any test (filter (is_seen u (map (after_response n t) stores)) (map (after_response n t) stores))
  answered_seen u answered same test =
      rw (
        list_any-append,
        list_any-filter,
        same (λ s. not (is_dropped u (filter (is_open n) stores) s) && test s),
        list_any-filter,
        list_any-map,
        list_any-filter,
        list_any-filter,
        ← list_any-or,
        list_any-filter,
        list_any-map,
      )
      (sym (list_any-same _ _ (seen_answered u test) stores))

  -- and nothing changes for a load that was requested before
  overwritten_answered : (m : ℕ) → m ≤ t → (s : StoreByte)
      → is_overwritten (map (after_response n t) stores) (after_response n t s) m ≡ is_overwritten stores s m
  overwritten_answered m h s = grind (arith, list_any-map, list_any-agree)

  pub left_answered : (l : LoadByte) (b : ℕ) → l.began ≤ t → is_left (map (after_response n t) stores) l b ≡ is_left stores l b
  left_answered l b h = rw list_any-map (list_any-same _ _ (λ s. let o = overwritten_answered l.began h s in grind arith) stores)

pub unanswered_after : (n t : ℕ) (stores : List StoreByte)
    → filter (λ s. not (is_open n s)) (filter is_unanswered stores) ≡ filter is_unanswered (map (after_response n t) stores)
unanswered_after n t [] = refl
unanswered_after n t (s ∷ stores) = grind (arith, unanswered_after n t stores)

pub covered_answered : (n t : ℕ) (stores : List StoreByte) (l : LoadByte) → l.began ≤ t
    → is_covered (map (after_response n t) stores) l ≡ is_covered stores l
covered_answered n t stores l h = grind (arith, list_any-map, l.began, list_any-same)
