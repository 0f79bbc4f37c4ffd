-- What a load got of the stores that a cut leaves out, and closed cuts event by event.
use Rattle.std.proofs.Common.{◌≡◌, ℕ, ◌+◌, ◌==◌, ◌<◌, ◌≤◌, ◌⊎◌, true, false, List, ◌++◌, map, length, Option, Some, None, inl, inr, refl}
use Rattle.std.proofs.Common.{sym, ap}
use Rattle.std.proofs.Common.{◌∙◌}
use Rattle.std.proofs.Common.{[], ◌∷◌, ◌&&◌, Bool, fold, subst, arith}
use Rattle.std.specs.List.{All, list_any}
use Rattle.std.proofs.lemmas.Bool.{both_ways, eq-eqb, and_parts, and_from}
use Rattle.std.proofs.lemmas.List.Folds.{list_any-append, list_any_none}
use Rattle.memory_histories.specs.declared.windows.StoreByte.{StoreByte}
use Rattle.memory_histories.specs.declared.events.HistoryEvent.{HistoryEvent}
use Rattle.memory_histories.specs.declared.events.HistoryEvent.TheVariants.{LoadRequest, LoadResponse, StoreRequest, StoreResponse}
use Rattle.memory_histories.specs.declared.events.Rest.{Rest}
use Rattle.memory_histories.specs.Windows.{Windows, cons_if, after_response, windows_after}
use Rattle.memory_histories.specs.Regular.{overwrites, is_overwritten}
use Rattle.memory_histories.specs.Kept.{IsTimely}
use Rattle.memory_histories.proofs.Lists.{list_any-agree, list_any-map}
use Rattle.memory_histories.proofs.Requests.{IsNew}
use Rattle.atomic_histories.specs.declared.unit.UnitPlace.{UnitPlace}
use Rattle.atomic_histories.specs.declared.unit.LoadAddress.{LoadAddress}
use Rattle.atomic_histories.specs.Words.{read_byte, is_as_it_stood}
use Rattle.atomic_histories.specs.Law.{is_got}
use Rattle.atomic_histories.specs.Stands.{One}
use Rattle.atomic_histories.proofs.Lists.{one_weaker, one_left, one_map, one_any}
use Rattle.history_laws.specs.Cuts.{Cut, stays_from, has_mark_of_request, lacks_giver, has_givers, is_closed_from}
use Rattle.history_laws.proofs.Words.{lane, lane_word, word_lane, as_none}
use Rattle.history_laws.proofs.Fits.{after_here}
use Rattle.history_laws.proofs.Agrees.{any_byte}

overwritten_requested : (stores added : List StoreByte) (t : ℕ) → All (IsNew t) added → (s : StoreByte) (m : ℕ)
    → is_overwritten (stores ++ added) s m ≡ is_overwritten stores s m
overwritten_requested stores added t new s m = open_added (overwrites s m) (λ o e. grind arith)
  where
    open_added : (p : StoreByte → Bool) → ((o : StoreByte) → o.ended ≡ None → p o ≡ false)
        → list_any p (stores ++ added) ≡ list_any p stores
    open_added p h = grind (arith, list_any-append, list_any_none)

overwritten_answered : (stores : List StoreByte) (n t : ℕ) → All (IsTimely t) stores → (s : StoreByte) (m : ℕ) → m ≤ t
    → is_overwritten (map (after_response n t) stores) (after_response n t s) m ≡ is_overwritten stores s m
overwritten_answered stores n t timely s m h = grind (arith, list_any-map, list_any-agree)

-- a byte of the unit
abbrev pub IsLane : UnitPlace → ℕ → Type 0
IsLane unit j = (j < unit.size) × (j < 8)

module _ (unit : UnitPlace) (stays : Cut) where
  -- a load got a byte from a store that is left out
  abbrev pub IsSource : List StoreByte → ℕ → ℕ → Option ℕ → StoreByte → Type 0
  IsSource stores began j x s = (stays s.began ≡ false) × ((s.address ≡ unit.first + j) × ((x ≡ Some s.byte)
      × (is_overwritten stores s began ≡ false)))

  abbrev pub IsGotAlike : List StoreByte → ℕ → List (Option ℕ) → List (Option ℕ) → ℕ → Type 0
  IsGotAlike stores began w v j = (lane w j ≡ lane v j) ⊎ (IsLane unit j × One (IsSource stores began j (lane w j)) stores)

  abbrev pub GotAlike : List StoreByte → ℕ → Option (List (Option ℕ)) → Option (List (Option ℕ)) → Type 0
  GotAlike stores began None None = Unit {0}
  GotAlike stores began (Some w) (Some v) = (length v ≡ length w) × ((j : ℕ) → j < length w → IsGotAlike stores began w v j)
  GotAlike stores began got kept = ⊥

  pub none_kept : (stores : List StoreByte) (began : ℕ) (got other : Option (List (Option ℕ))) → GotAlike stores began got other
      → got ≡ None
      → other ≡ None
  none_kept stores began None None h e = refl
  none_kept stores began None (Some v) h e = absurd h
  none_kept stores began (Some w) other h e = cc

  -- no byte that it is answered may be of a store that is left out
  abbrev pub IsFree : List StoreByte → LoadAddress → ℕ → List ℕ → Type 0
  IsFree stores address began bytes = (j b : ℕ) → IsLane unit j → read_byte address bytes (unit.first + j) ≡ Some b
      → lacks_giver stays stores (any_byte (unit.first + j) began) b ≡ false

  kept_byte : (stores : List StoreByte) (address : LoadAddress) (began : ℕ) (bytes : List ℕ) (w v : List (Option ℕ)) (j : ℕ)
      → IsFree stores address began bytes → IsGotAlike stores began w v j → (o : Option ℕ) → read_byte address bytes (unit.first + j) ≡ o
      → is_as_it_stood (lane w j) o ≡ true → is_as_it_stood (lane v j) o ≡ true
  kept_byte stores address began bytes w v j spared (inl same) o e h = subst (λ x. is_as_it_stood x o ≡ true) same h
  kept_byte stores address began bytes w v j spared (inr p) None e h = as_none (lane v j)
  kept_byte stores address began bytes w v j spared (inr p) (Some b) e h =
      absurd (both_ways _ (spared j b p.0 e) (one_any _ stores (one_weaker (IsSource stores began j (lane w j)) _
      (λ s q. let same : (s.byte == b) ≡ true = subst (λ x. is_as_it_stood x (Some b) ≡ true) q.1.1.0 h in
      rw (q.0, eq-eqb s.address (unit.first + j) q.1.0, same, q.1.1.1) refl) stores p.1)))

  pub kept_got : (stores : List StoreByte) (address : LoadAddress) (began : ℕ) (bytes : List ℕ) (got other : Option (List (Option ℕ)))
      → IsFree stores address began bytes → GotAlike stores began got other → is_got unit address bytes got ≡ true
      → is_got unit address bytes other ≡ true
  kept_got stores address began bytes None other spared g h = cc
  kept_got stores address began bytes (Some w) None spared g h = absurd g
  kept_got stores address began bytes (Some w) (Some v) spared g h =
      lane_word unit.first v address bytes (λ j l. kept_byte stores address began bytes w v j spared (g.1 j (subst (λ n. j < n) g.0 l))
      (read_byte address bytes (unit.first + j)) refl (word_lane unit.first w address bytes j h))

  -- What it may have got stays so. ----

  pub got_more : (stores more : List StoreByte) (began : ℕ) → ((j : ℕ) (x : Option ℕ) → One (IsSource stores began j x) stores
      → One (IsSource more began j x) more) → (got other : Option (List (Option ℕ))) → GotAlike stores began got other
      → GotAlike more began got other
  got_more stores more began f None None g = tt
  got_more stores more began f None (Some v) g = absurd g
  got_more stores more began f (Some w) None g = absurd g
  got_more stores more began f (Some w) (Some v) g =
      (g.0, λ j l. elim (g.1 j l) [ inl a ↦ inl a | inr p ↦ inr (p.0, f j (lane w j) p.1) ])

  pub source_requested : (stores added : List StoreByte) (t : ℕ) → All (IsNew t) added → (began j : ℕ) (x : Option ℕ)
      → One (IsSource stores began j x) stores → One (IsSource (stores ++ added) began j x) (stores ++ added)
  source_requested stores added t new began j x h =
      one_left _ stores added (one_weaker _ _ (λ s q. (
        q.0,
        (q.1.0, (q.1.1.0, overwritten_requested stores added t new s began ∙ q.1.1.1)),
      )) stores h)

  pub source_answered : (stores : List StoreByte) (n t : ℕ) → All (IsTimely t) stores → (began : ℕ) → began < t → (j : ℕ) (x : Option ℕ)
      → One (IsSource stores began j x) stores → One (IsSource (map (after_response n t) stores) began j x)
      (map (after_response n t) stores)
  source_answered stores n t timely began l j x h =
      one_map (after_response n t) _ stores (one_weaker _ _ (λ s q. let k = after_here n t s in (
        ap stays k.1.1.0 ∙ q.0,
        (
          k.0 ∙ q.1.0,
          (q.1.1.0 ∙ ap Some (sym k.1.0), overwritten_answered stores n t timely s began (omega arith) ∙ q.1.1.1),
        ),
      )) stores h)

  -- Event by event. ----

  pub stays_more : (w : Windows) (history : List HistoryEvent) (event : HistoryEvent)
      → stays_from stays w.moment (history ++ event ∷ [])
      ≡ stays_from stays w.moment history ++ cons_if (stays (fold windows_after w history).moment) event []
  stays_more w [] event = refl
  stays_more w (x ∷ xs) event =
      ap (cons_if (stays w.moment) x) (stays_more (windows_after w x) xs event) ∙ cons_apart (stays w.moment) x _ _
    where
      cons_apart : (c : Bool) (x : HistoryEvent) (xs ys : List HistoryEvent) → cons_if c x (xs ++ ys) ≡ cons_if c x xs ++ ys
      cons_apart true x xs ys = refl
      cons_apart false x xs ys = refl

  abbrev pub IsClosedAt : Windows → HistoryEvent → Type 0
  IsClosedAt w event = (has_mark_of_request stays w event ≡ true) × (has_givers unit stays w event ≡ true)

  pub closed_parts : (w : Windows) (history : List HistoryEvent) (event : HistoryEvent)
      → is_closed_from unit stays w (history ++ event ∷ []) ≡ true
      → (is_closed_from unit stays w history ≡ true) × IsClosedAt (fold windows_after w history) event
  closed_parts w [] event h = let p = and_parts _ _ (and_parts _ _ h).0 in (refl, (p.0, p.1))
  closed_parts w (x ∷ xs) event h =
      let p = and_parts _ _ h in
      let r = closed_parts (windows_after w x) xs event p.1 in
      (and_from _ _ p.0 r.0, r.1)

-- the cut is closed, whatever memory had before the first store
abbrev over : List ℕ → Rest → Windows → Windows
over image rest w = record { image = image; rest = rest; moment = w.moment; stores = w.stores; loads = w.loads }

pub closed_over : (image : List ℕ) (rest : Rest) (unit : UnitPlace) (stays : Cut) (w : Windows) (history : List HistoryEvent)
    → is_closed_from unit stays (over image rest w) history ≡ is_closed_from unit stays w history
closed_over image rest unit stays w [] = refl
closed_over image rest unit stays w (LoadRequest n a len e ∷ es) =
    closed_over image rest unit stays (windows_after w (LoadRequest n a len e)) es
closed_over image rest unit stays w (LoadResponse n bytes ∷ es) =
    ap (λ t. (has_mark_of_request stays w (LoadResponse n bytes) && has_givers unit stays w (LoadResponse n bytes)) && t)
    (closed_over image rest unit stays (windows_after w (LoadResponse n bytes)) es)
closed_over image rest unit stays w (StoreRequest n a bytes e ∷ es) =
    closed_over image rest unit stays (windows_after w (StoreRequest n a bytes e)) es
closed_over image rest unit stays w (StoreResponse n ∷ es) =
    ap (λ t. (has_mark_of_request stays w (StoreResponse n) && true) && t)
    (closed_over image rest unit stays (windows_after w (StoreResponse n)) es)
