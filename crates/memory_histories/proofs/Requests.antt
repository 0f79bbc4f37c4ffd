-- What a request changes for the loads that are open, and what a load that is requested now may return.
use Rattle.std.proofs.Common.{◌≡◌, ℕ, ◌+◌, ◌/◌, Bool, true, false, ◌&&◌, ◌||◌, not, ◌==◌, List, [], ◌∷◌, ◌++◌, None, ap, append-nil, arith}
use Rattle.std.specs.Prelude.{is_some}
use Rattle.std.specs.List.{All, filter, list_any}
use Rattle.std.proofs.lemmas.List.Elements.{filter-append, filter_agree}
use Rattle.std.proofs.lemmas.List.Folds.{list_any-append, list_any_none}
use Rattle.memory_histories.specs.declared.events.Rest.{Rest}
use Rattle.memory_histories.specs.declared.windows.StoreByte.{StoreByte}
use Rattle.memory_histories.specs.declared.windows.LoadByte.{LoadByte}
use Rattle.memory_histories.specs.declared.sets.ByteSet.{ByteSet}
use Rattle.memory_histories.specs.Sets.{has, with_byte, no_bytes}
use Rattle.memory_histories.specs.Windows.{store_bytes}
use Rattle.memory_histories.specs.Regular.{is_overwritten, is_left, is_covered, may_return_byte}
use Rattle.memory_histories.specs.Kept.{with_stores, opened, unit_of, is_in, is_unanswered, is_seen, IsTimely}
use Rattle.memory_histories.proofs.Lists.{list_any-agree, list_any-same, list_any-never, filter-all}
use Rattle.memory_histories.proofs.ByteSets.{has-with_byte, has-no_bytes, has-all_bytes}
use Rattle.memory_histories.proofs.Live.{covered_now, left_now, puts}

-- The bytes of a store that is requested. ----

-- they are open, and requested at this moment
abbrev pub IsNew : ℕ → StoreByte → Type 0
IsNew t s = (s.began ≡ t) × (s.ended ≡ None)

pub store_bytes-new : (n a : ℕ) (bs : List ℕ) (e t : ℕ) → All (IsNew t) (store_bytes n a bs e t)
store_bytes-new n a [] e t = grind arith
store_bytes-new n a (b ∷ bs) e t = grind (arith, store_bytes-new n (a + 1) bs (e / 2) t)

module _ (t : ℕ) (stores added : List StoreByte) (new : All (IsNew t) added) where
  -- a test that no open byte passes gives what it gave before
  any_before : (p : StoreByte → Bool) → ((s : StoreByte) → s.ended ≡ None → p s ≡ false) → list_any p (stores ++ added) ≡ list_any p stores
  any_before p h = grind (arith, list_any-append, list_any_none)

  overwritten_before : (m : ℕ) (s : StoreByte) → is_overwritten (stores ++ added) s m ≡ is_overwritten stores s m
  overwritten_before m s = any_before _ (λ o e. grind arith)

  pub unanswered_requested : filter is_unanswered (stores ++ added) ≡ filter is_unanswered stores ++ added
  unanswered_requested = grind (arith, filter-append, filter-all true is_unanswered added)

  pub seen_requested : (u : ℕ) → filter (is_seen u (stores ++ added)) (stores ++ added) ≡ filter (is_seen u stores) stores
  seen_requested u =
      rw (
        filter-append,
        filter_agree (is_seen u (stores ++ added)) (is_seen u stores)
            (λ s. ap (λ x. is_in u s && (is_some s.ended && not x)) (any_before _ (λ o e. grind arith))) stores,
        filter-all false (is_seen u (stores ++ added)) added (λ k d l. let e = new k d l in grind arith),
      ) (append-nil _)

  pub left_requested : (l : LoadByte) (b : ℕ)
      → is_left (stores ++ added) l b ≡ (is_left stores l b || list_any (λ s. (s.address == l.address) && (s.byte == b)) added)
  left_requested l b =
      rw (
        list_any-append,
        list_any-same _ _
            (λ s. ap (λ x. (s.address == l.address) && ((s.byte == b) && not x)) (overwritten_before l.began s)) stores,
      )
      (ap (λ x. is_left stores l b || x) (list_any-agree _ _ added (λ k d i. let e = new k d i in grind (arith, list_any-never))))

  pub covered_requested : (l : LoadByte) → is_covered (stores ++ added) l ≡ is_covered stores l
  covered_requested l = any_before _ (λ s e. grind arith)

-- Sets. ----

has-with_stores : (stores : List StoreByte) (a : ℕ) (set : ByteSet) (b : ℕ)
    → has (with_stores stores a set) b ≡ (has set b || list_any (λ s. (s.address == a) && (s.byte == b)) stores)
has-with_stores [] a set b = grind arith
has-with_stores (s ∷ ss) a set b = grind (arith, has-with_byte, has-with_stores ss a set b, has-with_stores ss a (with_byte set s.byte) b)

pub has-only : (i b : ℕ) → has (with_byte no_bytes i) b ≡ (i == b)
has-only i b = grind (arith, has-with_byte, has-no_bytes)

-- the set of a load that is requested now
pub opened_exact : (image : List ℕ) (r : Rest) (t : ℕ) (stores answered : List StoreByte) → All (IsTimely t) stores → (l : LoadByte)
    → l.began ≡ t
    → ((test : StoreByte → Bool) → list_any test answered ≡ list_any test (filter (is_seen (unit_of l.address) stores) stores)) → (b : ℕ)
    → has (opened image r (filter is_unanswered stores) answered l).may b ≡ may_return_byte image r stores l b
opened_exact image r t stores answered timely l e same b =
    grind (
      arith,
      has-with_stores,
      has-no_bytes,
      has-only,
      has-all_bytes,
      left_now t stores timely l b,
      covered_now t stores timely l,
      same (puts l.address b),
      same (λ s. s.address == l.address),
    )

-- and that of a load that is open when a store is requested
pub requested_exact : (image : List ℕ) (r : Rest) (t : ℕ) (stores added : List StoreByte) → All (IsNew t) added
    → (l : LoadByte) (set : ByteSet) (b : ℕ)
    → has set b ≡ may_return_byte image r stores l b
    → has (with_stores added l.address set) b ≡ may_return_byte image r (stores ++ added) l b
requested_exact image r t stores added new l set b h =
    grind (arith, has-with_stores, left_requested t stores added new l b, covered_requested t stores added new l)
