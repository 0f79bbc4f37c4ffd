-- What stays of a history has moments at a unit, if the cut is closed there: what the unit may be after the history, beside what it may
-- be after what stays.
use Rattle.std.proofs.Common.{◌≡◌, ℕ, ◌+◌, ◌-◌, ◌<◌, ◌≤◌, ◌⊎◌, Bool, true, false, ◌&&◌, ◌||◌, not, ◌==◌, if◌then◌else◌, nat_lt, List}
use Rattle.std.proofs.Common.{[], ◌∷◌, ◌++◌, map, length, Option, Some, None, inl, inr, refl, sym, ap, ◌∙◌, subst, arith}
use Rattle.std.proofs.Common.{append-nil, eqb-true, eq-eqb}
use Rattle.std.specs.Prelude.{is_some}
use Rattle.std.specs.Borrow.{Bor}
use Rattle.std.specs.List.{All, filter, find, list_all, list_any, zip}
use Rattle.std.proofs.lemmas.Bool.{cases_Bool, and_from, lt-ltb, le-leb, leb-true, ltb-true, ltb-false, false_from_ne_true}
use Rattle.std.proofs.lemmas.List.{map-append}
use Rattle.std.proofs.lemmas.Option.{none-some, same_Some, cond_some, slice_get_within}
use Rattle.memory_histories.specs.declared.events.HistoryEvent.{HistoryEvent}
use Rattle.memory_histories.specs.declared.events.HistoryEvent.TheVariants.{LoadRequest, LoadResponse, StoreRequest, StoreResponse}
use Rattle.memory_histories.specs.declared.events.Rest.{Rest}
use Rattle.memory_histories.specs.declared.events.Rest.TheVariants.{Zeros}
use Rattle.memory_histories.specs.declared.windows.StoreByte.{StoreByte}
use Rattle.memory_histories.specs.declared.windows.LoadByte.{LoadByte}
use Rattle.memory_histories.specs.Windows.{Windows, opening, cons_if, store_bytes, is_open, is_of, after_response, windows_after}
use Rattle.memory_histories.specs.Kept.{IsTimely}
use Rattle.memory_histories.proofs.Lists.{filter-map}
use Rattle.memory_histories.proofs.Requests.{store_bytes-new}
use Rattle.atomic_histories.specs.declared.unit.OpenStore.{OpenStore}
use Rattle.atomic_histories.specs.declared.unit.UnitPlace.{UnitPlace}
use Rattle.atomic_histories.specs.declared.unit.LoadAddress.{LoadAddress}
use Rattle.atomic_histories.specs.Words.{at_unit, at_lane, stored_byte, reads_from, is_at, written_byte, written}
use Rattle.atomic_histories.specs.Operations.{Opened, none_opened, opened_by, has_number, answer_fault, form_fault}
use Rattle.atomic_histories.specs.Law.{OpenLoad, UnitMemory, HiddenStep, MayBe, starts, steps, sees, untouched, done_store, done_load}
use Rattle.atomic_histories.specs.Law.{is_store, is_load, is_got, may_answer_load, may_answer_store, with_load, with_store}
use Rattle.atomic_histories.specs.Law.{without_load, without_store, seen, is_formed, unit_at}
use Rattle.atomic_histories.specs.Stands.{Each, One}
use Rattle.atomic_histories.proofs.Lists.{each_weaker, each_append, each_map, each_both, each_filter, each_unmap, each_replace, each_at}
use Rattle.atomic_histories.proofs.Lists.{all_each, each_all, one_weaker, one_left, one_last, one_map, one_elim, one_each, one_filter}
use Rattle.atomic_histories.proofs.Lists.{each_from_all, filter_swap}
use Rattle.atomic_histories.proofs.Links.{is_allowed, reads}
use Rattle.atomic_histories.proofs.MayLaws.{then_it}
use Rattle.history_laws.specs.Cuts.{Cut, what_stays, is_alike, has_mark_of_request, lacks_giver, is_within, has_givers}
use Rattle.history_laws.specs.Cuts.{is_closed_from, CutIsAtomicAt, CutRefutes}
use Rattle.history_laws.proofs.Lists.{each_passing, one_right, map_apart, kept_with, kept_without, kept_same}
use Rattle.history_laws.proofs.Pieces.{Marked, is_number, same_load, paid_at}
use Rattle.history_laws.proofs.Open.{answer_formed, loads_under, marked_after}
use Rattle.history_laws.proofs.Words.{some_lane, lane_past, lane, zero_plus, lane_written, length_written, lane_map, stored_new, each_new}
use Rattle.history_laws.proofs.Words.{new_byte}
use Rattle.history_laws.proofs.Fits.{Fits, IsDone, IsLast, IsByteOf, HasStore, not_both, after_cases, not_overwritten, done_more, done_same}
use Rattle.history_laws.proofs.Fits.{done_old}
use Rattle.history_laws.proofs.Fits.{done_with, none_under, last_same, last_done, last_requested, last_answered, after_here}
use Rattle.history_laws.proofs.Sources.{IsLane, IsSource, GotAlike, none_kept, IsFree, kept_got, got_more, source_requested}
use Rattle.history_laws.proofs.Sources.{source_answered, IsClosedAt, stays_more, closed_parts, closed_over}
use Rattle.history_laws.proofs.Agrees.{formed_parts, load_byte, any_byte, number_of, its_number, Agrees, marks_more}
use Rattle.history_laws.proofs.Agrees.{each_first}
use Rattle.history_laws.proofs.Atomic.{windows_by, marks_by, timely_by, agrees_by, windows_more, fits}

-- a mark is the other one
alike : (a b : Bool) → is_alike a b ≡ true → a ≡ b
alike true true h = refl
alike false false h = refl
alike _ _ h = cc

-- Both units. ----

-- an open store, and when it was requested
record CutStore : Type 0 where
  pub store : OpenStore
  pub began : ℕ

-- an open load, and what it got of the history, and of what stays
record CutLoad : Type 0 where
  pub number : ℕ
  pub address : LoadAddress
  pub began : ℕ
  pub got : Option (List (Option ℕ))
  pub kept : Option (List (Option ℕ))

-- a unit by the history and by what stays
record Both : Type 0 where
  pub word : List (Option ℕ)
  pub kept : List (Option ℕ)
  pub stores : List CutStore
  pub loads : List CutLoad

abbrev store_of : CutStore → OpenStore
store_of s = s.store

abbrev whole_load : CutLoad → OpenLoad
whole_load l = record { number = l.number; address = l.address; got = l.got }

abbrev kept_load : CutLoad → OpenLoad
kept_load l = record { number = l.number; address = l.address; got = l.kept }

abbrev whole : Both → UnitMemory
whole b = record { word = b.word; stores = map store_of b.stores; loads = map whole_load b.loads }

abbrev done_cut : CutStore → CutStore
done_cut s = record { store = done_store s.store; began = s.began }

abbrev got_cut : List (Option ℕ) → List (Option ℕ) → CutLoad → CutLoad
got_cut word kept l = record { number = l.number; address = l.address; began = l.began; got = Some word; kept = Some kept }

module _ (image : List ℕ) (rest : Rest) (unit : UnitPlace) (stays : Cut) where
  abbrev store_stays : CutStore → Bool
  store_stays s = stays s.began

  abbrev load_stays : CutLoad → Bool
  load_stays l = stays l.began

  abbrev kept : Both → UnitMemory
  kept b = record { word = b.kept; stores = map store_of (filter store_stays b.stores); loads = map kept_load (filter load_stays b.loads) }

  -- a store that is left out was the last to write a byte
  abbrev IsLost : List OpenStore → List StoreByte → ℕ → Option ℕ → StoreByte → Type 0
  IsLost os stores j x s = (stays s.began ≡ false) × IsLast image rest unit j os stores x s

  abbrev Alike : List OpenStore → List StoreByte → ℕ → Option ℕ → Option ℕ → Type 0
  Alike os stores j x y = (x ≡ y) ⊎ (IsLane unit j × One (IsLost os stores j x) stores)

  abbrev HasByteAt : List StoreByte → CutStore → ℕ → ℕ → StoreByte → Type 0
  HasByteAt stores s j b x = IsByteOf image rest unit j s.store.number b x × (x.began ≡ s.began)

  abbrev HasBytes : List StoreByte → CutStore → Type 0
  HasBytes stores s = (list_any is_some s.store.bytes ≡ true) × ((j b : ℕ) → lane s.store.bytes j ≡ Some b
      → IsLane unit j × One (HasByteAt stores s j b) stores)

  abbrev IsOf : CutLoad → Marked ℕ → Type 0
  IsOf l k = (k.operation.number ≡ l.number) × ((reads k.operation ≡ l.address) × (k.mark ≡ l.began))

  abbrev IsCutLoad : List StoreByte → ℕ → List (Marked ℕ) → CutLoad → Type 0
  IsCutLoad stores moment ks l = (l.began < moment) × (One (IsOf l) ks × GotAlike unit stays stores l.began l.got l.kept)

  record Holds (stores : List StoreByte) (moment : ℕ) (ks : List (Marked ℕ)) (b : Both) : Type 0 where
    pub wide : length b.kept ≡ length b.word
    pub lanes : (j : ℕ) → j < length b.word → Alike (map store_of b.stores) stores j (lane b.word j) (lane b.kept j)
    pub bytes : Each (HasBytes stores) b.stores
    pub loads : Each (IsCutLoad stores moment ks) b.loads

  -- Effects. ----

  lane_effect : (before : List OpenStore) (o : OpenStore) (after : List OpenStore) (stores : List StoreByte) (j t : ℕ) (x y v : Option ℕ)
      → lane o.bytes j ≡ v → ((c : ℕ) → v ≡ Some c → IsLane unit j × One (λ s. IsByteOf image rest unit j o.number c s
      × (s.began ≡ t)) stores)
      → Alike (before ++ o ∷ after) stores j x y → (k : Bool) → stays t ≡ k
      → Alike (before ++ done_store o ∷ after) stores j (written_byte v x) (if k then written_byte v y else y)
  lane_effect before o after stores j t x y None e has (inl a) true m = inl a
  lane_effect before o after stores j t x y None e has (inl a) false m = inl a
  lane_effect before o after stores j t x y None e has (inr p) k m =
      let more : One (IsLost (before ++ done_store o ∷ after) stores j x) stores = one_weaker _ _ (λ s q. (
        q.0,
        last_same image rest unit j _ _ stores x (done_more image rest unit j before o after) (done_same image rest unit j before o after
            e) s q.1,
      )) stores p.1 in
      inr (p.0, more)
  lane_effect before o after stores j t x y (Some c) e has a true m = inl refl
  lane_effect before o after stores j t x y (Some c) e has a false m =
      let r = has c refl in
      inr (r.0, one_weaker _ _ (λ s q. (ap stays q.1 ∙ m, last_done image rest unit j before o after stores c e s q.0)) stores r.1)

  abbrev kept_word : Bool → List (Option ℕ) → List (Option ℕ) → List (Option ℕ)
  kept_word k bytes word = if k then written bytes word else word

  lane_kept : (k : Bool) (bytes word : List (Option ℕ)) (j : ℕ) → j < length word
      → lane (kept_word k bytes word) j ≡ (if k then written_byte (lane bytes j) (lane word j) else lane word j)
  lane_kept true bytes word j l = lane_written bytes word j l
  lane_kept false bytes word j l = refl

  length_kept : (k : Bool) (bytes word : List (Option ℕ)) → length (kept_word k bytes word) ≡ length word
  length_kept true bytes word = length_written bytes word
  length_kept false bytes word = refl

  abbrev with_effect : List (Option ℕ) → List (Option ℕ) → List CutStore → CutStore → List CutStore → List CutLoad → Both
  with_effect word other before s after loads = record {
    word = written s.store.bytes word;
    kept = kept_word (stays s.began) s.store.bytes other;
    stores = before ++ done_cut s ∷ after;
    loads = loads;
  }

  got_from : (os : List OpenStore) (stores : List StoreByte) (j began : ℕ) (x y : Option ℕ) → Alike os stores j x y
      → (x ≡ y) ⊎ (IsLane unit j × One (IsSource unit stays stores began j x) stores)
  got_from os stores j began x y (inl a) = inl a
  got_from os stores j began x y (inr p) =
      inr (
        p.0,
        one_weaker _ _ (λ s q. (
          q.0,
          (q.1.0, (q.1.1.0, not_overwritten image rest unit j os stores s began q.1.0 q.1.1.1.1)),
        )) stores p.1,
      )

  abbrev with_got : List (Option ℕ) → List (Option ℕ) → List CutStore → List CutLoad → CutLoad → List CutLoad → Both
  with_got word other ss before l after = record { word = word; kept = other; stores = ss; loads = before ++ got_cut word other l ∷ after }

  -- What an answered load got. ----

  abbrev answered_test : ℕ → ℕ → LoadByte → Bool
  answered_test n moment l = not (is_of n l) || is_alike (stays l.began) (stays moment)

  same_mark : (n moment : ℕ) (l : CutLoad) (k : Marked ℕ) → IsOf l k
      → answered_test n moment (load_byte k.operation k.operation.address k.mark) ≡ true → (l.number == n) ≡ true
      → stays l.began ≡ stays moment
  same_mark n moment l k q h e =
      let hit : (k.operation.number == n) ≡ true = ap (λ x. x == n) q.0 ∙ e in
      ap stays (sym q.1.1) ∙ alike _ _ (rw hit at h)

  kept_answer : (n : ℕ) (bytes : List ℕ) (stores : List StoreByte) (l : CutLoad) → GotAlike unit stays stores l.began l.got l.kept
      → ((l.number == n) ≡ true → IsFree unit stays stores l.address l.began bytes)
      → (not (is_load n (whole_load l)) || is_got unit l.address bytes l.got) ≡ true
      → (not (is_load n (kept_load l)) || is_got unit l.address bytes l.kept) ≡ true
  kept_answer n bytes stores l g spared h = elim (cases_Bool (l.number == n)) [
    | inl e ↦ rw e (kept_got unit stays stores l.address l.began bytes l.got l.kept (spared e) g (rw e at h))
    | inr e ↦ rw e refl
  ]

  -- the operations without those of a number
  abbrev others_of : ℕ → CutLoad → Bool
  others_of n l = not (l.number == n)

  untrue : (b : Bool) → not b ≡ false → b ≡ true
  untrue true h = refl
  untrue false h = cc

  still_of : (n : ℕ) (ks : List (Marked ℕ)) (l : CutLoad) → others_of n l ≡ true → One (IsOf l) ks
      → One (IsOf l) (filter (λ k. not (is_number n k)) ks)
  still_of n ks l e h = one_filter (IsOf l) (λ k. not (is_number n k)) ks
      (one_weaker (IsOf l) (λ k. IsOf l k × (not (is_number n k) ≡ true)) (λ k q. (q, ap (λ x. not (x == n)) q.0 ∙ e)) ks h)

  loads_on : (stores more : List StoreByte) (moment : ℕ) (ks : List (Marked ℕ)) → ((began : ℕ) → began < moment → (j : ℕ) (x : Option ℕ)
      → One (IsSource unit stays stores began j x) stores → One (IsSource unit stays more began j x) more) → (ls : List CutLoad)
      → Each (IsCutLoad stores moment ks) ls → Each (IsCutLoad more (moment + 1) ks) ls
  loads_on stores more moment ks f ls h =
      each_weaker _ _ (λ l q. (omega arith, (q.1.0, got_more unit stays stores more l.began (f l.began q.0) l.got l.kept q.1.1))) ls h

  -- Open stores. ----

  lane_inside : (f : ℕ → Option ℕ) (j b : ℕ) → lane (at_unit unit f) j ≡ Some b → IsLane unit j × (f (unit.first + j) ≡ Some b)
  lane_inside f j b h = elim (cases_Bool (nat_lt j 8)) [
    | inl l ↦
        let here : at_lane unit f j ≡ Some b = (ap (at_lane unit f) (sym (zero_plus j)) ∙ sym (lane_map (at_lane unit f) 8 0 j (ltb-true j 8
        l))) ∙ h in
        let p = then_it _ _ b here in
        ((ltb-true j unit.size p.0, ltb-true j 8 l), p.1)
    | inr l ↦ absurd (none-some b (sym (lane_past (at_lane unit f) 8 0 j (ltb-false j 8 l)) ∙ h))
  ]

  lanes_requested : (os ds : List OpenStore) (stores added : List StoreByte) (j : ℕ) (x y : Option ℕ)
      → (IsLane unit j → (s : StoreByte) → IsDone image rest unit j os s → IsDone image rest unit j ds s)
      → (IsLane unit j → (s : StoreByte) → IsDone image rest unit j ds s → IsDone image rest unit j os s)
      → (IsLane unit j → Each (λ s. IsDone image rest unit j os s → ⊥) added)
      → Alike os stores j x y → Alike ds (stores ++ added) j x y
  lanes_requested os ds stores added j x y f g new (inl a) = inl a
  lanes_requested os ds stores added j x y f g new (inr p) =
      inr (
        p.0,
        one_left _ stores added (one_weaker _ _ (λ s q. (
          q.0,
          last_requested image rest unit j os ds stores added x (f p.0) (g p.0) (new p.0) s q.1,
        )) stores p.1),
      )

  bytes_more : (stores added : List StoreByte) (ss : List CutStore) → Each (HasBytes stores) ss → Each (HasBytes (stores ++ added)) ss
  bytes_more stores added ss h =
      each_weaker (HasBytes stores) (HasBytes (stores ++ added)) (λ s q. (
        q.0,
        λ j b e.
            let r = q.1 j b e in (r.0, one_left (HasByteAt (stores ++ added) s j b) stores added r.1),
      )) ss h

  new_bytes : (stores : List StoreByte) (n a : ℕ) (bs : List ℕ) (e t : ℕ) → list_any is_some (at_unit unit (stored_byte a bs e)) ≡ true
      → HasBytes (stores ++ store_bytes n a bs e t)
      (record { store = record { number = n; bytes = at_unit unit (stored_byte a bs e); is_done = false }; began = t })
  new_bytes stores n a bs e t d = (
    d,
    λ j b h. let r = lane_inside (stored_byte a bs e) j b h in (
      r.0,
      one_right _ stores (store_bytes n a bs e t) (one_weaker (λ s. s ≡ new_byte n (unit.first + j) b t) _ (λ s q. (
        (ap (λ x. x.address) q, (ap (λ x. x.ended) q, (ap (λ x. x.number) q, ap (λ x. x.byte) q))),
        ap (λ x. x.began) q,
      )) (store_bytes n a bs e t) (stored_new n a bs e t (unit.first + j) b r.1)),
    ),
  )

  abbrev other_store : ℕ → CutStore → Bool
  other_store n s = not (s.store.number == n)

  abbrev response_test : ℕ → ℕ → StoreByte → Bool
  response_test n moment s = not (is_open n s) || is_alike (stays s.began) (stays moment)

  -- a byte of the store is open
  its_byte : (stores : List StoreByte) (n moment : ℕ) (s : CutStore) (j b : ℕ) → (s.store.number == n) ≡ true → (x : StoreByte)
      → HasByteAt stores s j b x → response_test n moment x ≡ true → stays s.began ≡ stays moment
  its_byte stores n moment s j b e x q h =
      let number = eq-eqb x.number n (q.0.1.1.0 ∙ eqb-true s.store.number n e) in
      let fresh : is_open n x ≡ true = rw (q.0.1.0, number) refl in
      ap stays (sym q.1) ∙ alike _ _ (rw fresh at h)

  bytes_answered : (stores : List StoreByte) (n t : ℕ) (s : CutStore) → HasBytes stores s → other_store n s ≡ true
      → HasBytes (map (after_response n t) stores) s
  bytes_answered stores n t s q other = (
    q.0,
    λ j b e. let r = q.1 j b e in (
      r.0,
      one_map (after_response n t) (HasByteAt stores s j b) stores (one_weaker (HasByteAt stores s j b) (λ x. HasByteAt stores s j b
          (after_response n t x)) (λ x h. elim (after_cases n t x) [
            | inl c ↦ absurd (not_both _ other (eq-eqb s.store.number n (sym h.0.1.1.0 ∙ c.1.0)))
            | inr c ↦ subst (HasByteAt stores s j b) (sym c.1) h
          ]) stores r.1),
    ),
  )

  lanes_answered : (os : List OpenStore) (stores : List StoreByte) (n t j : ℕ) (x y : Option ℕ) → may_answer_store n os ≡ true
      → (IsLane unit j → Each (HasStore image rest unit j os) stores) → Each (IsTimely t) stores → Alike os stores j x y
      → Alike (filter (λ o. not (is_store n o)) os) (map (after_response n t) stores) j x y
  lanes_answered os stores n t j x y may has timely (inl a) = inl a
  lanes_answered os stores n t j x y may has timely (inr p) =
      inr (
        p.0,
        one_map (after_response n t) _ stores (one_weaker _ _ (λ s q. (
          ap stays (after_here n t s).1.1.0 ∙ q.0,
          last_answered image rest unit j os stores n t x may (has p.0) timely s q.1,
        )) stores p.1),
      )

  kept_stores_answer : (n : ℕ) (ss : List CutStore) → may_answer_store n (map store_of ss) ≡ true
      → may_answer_store n (map store_of (filter store_stays ss)) ≡ true
  kept_stores_answer n ss h =
      let test : OpenStore → Bool = λ o. not (is_store n o) || o.is_done in
      each_all test _ (each_map store_of (λ o. test o ≡ true) (filter store_stays ss) (each_filter _ store_stays ss (each_unmap store_of (λ
      o. test o ≡ true) ss (all_each test _ h))))

  -- Both units, step by step. ----

  -- what the unit may be after the history, and after what stays
  record State (start : UnitMemory) (past : List HistoryEvent) (stores : List StoreByte) (moment : ℕ) (ks : List (Marked ℕ))
      (m : UnitMemory) : Type 0 where
    pub both : Both
    pub is : whole both ≡ m
    pub holds : Holds stores moment ks both
    pub may : MayBe unit start past (kept both)

  keeps_on : (start : UnitMemory) (past : List HistoryEvent) (event : HistoryEvent) (m n : UnitMemory) (c : Bool)
      → (c ≡ true → seen unit m event ≡ Some n) → (c ≡ false → m ≡ n) → MayBe unit start past m
      → MayBe unit start (past ++ cons_if c event []) n
  keeps_on start past event m n true f g r = sees past event m n r (f refl)
  keeps_on start past event m n false f g r =
      subst (λ x. MayBe unit start x n) (sym (append-nil past)) (subst (MayBe unit start past) (g refl) r)

  module _ (start : UnitMemory) (past : List HistoryEvent) (w : Windows) (ks : List (Marked ℕ)) where
    abbrev Now : Both → Type 0
    Now b = Holds w.stores w.moment ks b × MayBe unit start past (kept b)

    abbrev Here : UnitMemory → Type 0
    Here m = State start past w.stores w.moment ks m

    abbrev After : HistoryEvent → UnitMemory → Type 0
    After event m =
        State start (past ++ cons_if (stays w.moment) event []) (windows_after w event).stores (w.moment + 1)
        (marked_after w.moment ks event)
        m

    abbrev AreFits : UnitMemory → Type 0
    AreFits m = (j : ℕ) → IsLane unit j → Fits image rest unit j w.stores w.moment ks m

    -- Hidden steps. ----

    store_effect : (word other : List (Option ℕ)) (before : List CutStore) (s : CutStore) (after : List CutStore) (loads : List CutLoad)
        → s.store.is_done ≡ false → Now (record { word = word; kept = other; stores = before ++ s ∷ after; loads = loads })
        → Now (with_effect word other before s after loads)
    store_effect word other before s after loads fresh now =
        let h = now.0 in
        let bytes = s.store.bytes in
        let has = each_at (HasBytes w.stores) before s after h.bytes in
        let ls = map kept_load (filter load_stays loads) in
        let left : List CutStore → UnitMemory = λ ss. record { word = other; stores = map store_of ss; loads = ls } in (
          record {
            wide = length_kept (stays s.began) bytes other ∙ (h.wide ∙ sym (length_written bytes word));
            lanes = λ j l.
                let m : j < length word = subst (λ n. j < n) (length_written bytes word) l in
                let n : j < length other = subst (λ n. j < n) (sym h.wide) m in
                let old = subst (λ os. Alike os w.stores j (lane word j) (lane other j)) (map-append store_of before (s ∷ after))
                (h.lanes j m) in
                let new = lane_effect (map store_of before) s.store (map store_of after) w.stores j s.began _ _ _ refl (has.1 j) old
                (stays s.began) refl in
                rw (
                  map-append store_of before (done_cut s ∷ after),
                  lane_written bytes word j m,
                  lane_kept (stays s.began) bytes other j n,
                ) new;
            bytes = each_replace (HasBytes w.stores) before s (done_cut s) after (λ q. q) h.bytes;
            loads = h.loads;
          },
          elim (cases_Bool (stays s.began)) [
            | inl e ↦ rw e (steps past _ _ now.1 (inl (
              map store_of (filter store_stays before),
              s.store,
              map store_of (filter store_stays after),
              kept_with store_of store_stays before s after e,
              fresh,
              ap (λ os. record { word = written bytes other; stores = os; loads = ls }) (kept_with store_of store_stays before (done_cut s)
                  after e),
            )))
            | inr e ↦ rw e (subst (λ ss. MayBe unit start past (left ss)) (kept_without store_stays before s after e ∙
                sym (kept_without store_stays before (done_cut s) after e)) now.1)
          ],
        )

    load_effect : (word other : List (Option ℕ)) (ss : List CutStore) (before : List CutLoad) (l : CutLoad) (after : List CutLoad)
        → l.got ≡ None → Now (record { word = word; kept = other; stores = ss; loads = before ++ l ∷ after })
        → Now (with_got word other ss before l after)
    load_effect word other ss before l after none now =
        let h = now.0 in
        let new = got_cut word other l in
        let its = each_at (IsCutLoad w.stores w.moment ks) before l after h.loads in
        let os = map store_of (filter store_stays ss) in
        let left : List OpenLoad → UnitMemory = λ ls. record { word = other; stores = os; loads = ls } in (
          record {
            wide = h.wide;
            lanes = h.lanes;
            bytes = h.bytes;
            loads = each_replace (IsCutLoad w.stores w.moment ks) before l new after (λ q. (
              q.0,
              (
                q.1.0,
                (h.wide, λ j m. got_from (map store_of ss) w.stores j l.began (lane word j) (lane other j) (h.lanes j m)),
              ),
            )) h.loads;
          },
          elim (cases_Bool (stays l.began)) [
            | inl e ↦ steps past _ _ now.1 (inr (
              map kept_load (filter load_stays before),
              kept_load l,
              map kept_load (filter load_stays after),
              kept_with kept_load load_stays before l after e,
              none_kept unit stays w.stores l.began l.got l.kept its.1.1 none,
              ap left (kept_with kept_load load_stays before new after e),
            ))
            | inr e ↦ subst (λ ls. MayBe unit start past (left (map kept_load ls))) (kept_without load_stays before l after e ∙
                sym (kept_without load_stays before new after e)) now.1
          ],
        )

    hides : (m n : UnitMemory) → Here m → HiddenStep m n → Here n
    hides m n c (inl s) =
        let b = c.both in
        let r = map_apart store_of b.stores s.0 s.1 s.2 (ap (λ x. x.stores) c.is ∙ s.3) in
        let parts : map store_of (r.0 ++ done_cut r.1 ∷ r.2) ≡ s.0 ++ done_store s.1 ∷ s.2 =
        map-append store_of r.0 (done_cut r.1 ∷ r.2) ∙ (λ i. r.4 i ++ done_store (r.5 i) ∷ r.6 i) in
        let now = store_effect b.word b.kept r.0 r.1 r.2 b.loads (ap (λ x. x.is_done) r.5 ∙ s.4) (subst (λ ss. Now (record {
          word = b.word;
          kept = b.kept;
          stores = ss;
          loads = b.loads;
        })) r.3 (c.holds, c.may)) in
        record {
          both = with_effect b.word b.kept r.0 r.1 r.2 b.loads;
          is = (λ i. record { word = written (r.5 i).bytes (c.is i).word; stores = parts i; loads = (c.is i).loads }) ∙ sym s.5;
          holds = now.0;
          may = now.1;
        }
    hides m n c (inr s) =
        let b = c.both in
        let r = map_apart whole_load b.loads s.0 s.1 s.2 (ap (λ x. x.loads) c.is ∙ s.3) in
        let parts : map whole_load (r.0 ++ got_cut b.word b.kept r.1 ∷ r.2) ≡ s.0 ++ done_load m.word s.1 ∷ s.2 =
        map-append whole_load r.0 (got_cut b.word b.kept r.1 ∷ r.2) ∙ (λ i. r.4 i ++ done_load (c.is i).word (r.5 i) ∷ r.6 i) in
        let now = load_effect b.word b.kept b.stores r.0 r.1 r.2 (ap (λ x. x.got) r.5 ∙ s.4) (subst (λ ls. Now (record {
          word = b.word;
          kept = b.kept;
          stores = b.stores;
          loads = ls;
        })) r.3 (c.holds, c.may)) in
        record {
          both = with_got b.word b.kept b.stores r.0 r.1 r.2;
          is = (λ i. record { word = (c.is i).word; stores = (c.is i).stores; loads = parts i }) ∙ sym s.5;
          holds = now.0;
          may = now.1;
        }

    -- A load is requested. ----

    asked : (k : Marked ℕ) (ls : List CutLoad) → Each (IsCutLoad w.stores w.moment ks) ls
        → Each (IsCutLoad w.stores (w.moment + 1) (ks ++ k ∷ [])) ls
    asked k ls h = each_weaker _ _ (λ l q. (omega arith, (one_left (IsOf l) ks _ q.1.0, q.1.1))) ls h

    asks : (m : UnitMemory) (n a len en : ℕ) → Here m → (d : Bool) → is_at unit a len ≡ d
        → After (LoadRequest n a len en) (if d then with_load n (reads_from a en) m else m)
    asks m n a len en c true d =
        let b = c.both in
        let k : Marked ℕ = record { operation = record { number = n; address = a; length = len; enables = en }; mark = w.moment } in
        let l : CutLoad = record { number = n; address = reads_from a en; began = w.moment; got = None; kept = None } in
        let next : Both = record { word = b.word; kept = b.kept; stores = b.stores; loads = b.loads ++ l ∷ [] } in
        let left : List OpenLoad → UnitMemory = λ ls. record {
          word = b.kept;
          stores = map store_of (filter store_stays b.stores);
          loads = ls;
        } in
        record {
          both = next;
          is = ap (λ ls. record { word = b.word; stores = map store_of b.stores; loads = ls }) (map-append whole_load b.loads (l ∷ []))
              ∙ ap (with_load n (reads_from a en)) c.is;
          holds = record {
            wide = c.holds.wide;
            lanes = c.holds.lanes;
            bytes = c.holds.bytes;
            loads = each_append _ b.loads (l ∷ []) (asked k b.loads c.holds.loads) (
              (omega arith, (one_last (IsOf l) ks k (refl, (refl, refl)), tt)),
              tt,
            );
          };
          may = keeps_on start past (LoadRequest n a len en) (kept b) (kept next) (stays w.moment)
              (λ e. rw d (ap (λ ls. Some (left ls)) (sym (kept_with kept_load load_stays b.loads l [] e))))
              (λ e. ap (λ ls. left (map kept_load ls)) (sym (kept_without load_stays b.loads l [] e ∙
              ap (filter load_stays) (append-nil b.loads)))) c.may;
        }
    asks m n a len en c false d =
        let b = c.both in
        record {
          both = b;
          is = c.is;
          holds = record { wide = c.holds.wide; lanes = c.holds.lanes; bytes = c.holds.bytes; loads = asked _ b.loads c.holds.loads };
          may = keeps_on start past (LoadRequest n a len en) (kept b) (kept b) (stays w.moment) (λ e. rw d refl) (λ e. refl) c.may;
        }

    -- A load is answered. ----

    load_marks : (o : Opened) (n : ℕ) (ls : List CutLoad) → Agrees o w ks → list_all (answered_test n w.moment) w.loads ≡ true
        → Each (IsCutLoad w.stores w.moment ks) ls → Each (λ l. (l.number == n) ≡ true → stays l.began ≡ stays w.moment) ls
    load_marks o n ls g h each =
        let test = answered_test n w.moment in
        let first = each_first test ks g.loads.each_some (subst (λ x. list_all test x ≡ true) g.loads.bytes h) in
        each_weaker _ _
        (λ l q e. one_elim _ _ ks (one_each (IsOf l) (λ k. test (load_byte k.operation k.operation.address k.mark) ≡ true) ks q.1.0
        first) (λ k r. same_mark n w.moment l k r.0 r.1 e)) ls each

    free : (o : Opened) (n : ℕ) (bytes : List ℕ) → Agrees o w ks → answer_fault (find (has_number n) o.loads) (length bytes) ≡ None
        → list_all (λ p. not (is_within unit p.0.address && lacks_giver stays w.stores p.0 p.1)) (zip (filter (is_of n) w.loads) bytes)
        ≡ true
        → (l : CutLoad) → One (IsOf l) ks → (l.number == n) ≡ true → IsFree unit stays w.stores l.address l.began bytes
    free o n bytes g f h l of e j b lane_of its =
        let may : LoadByte → ℕ → Bool = λ x c. not (is_within unit x.address && lacks_giver stays w.stores x c) in
        let r = answer_formed _ _ f in
        let u = loads_under load_byte number_of its_number ks w.loads o.loads g.loads n r.0 r.1.0 in
        let k = u.0 in
        let same = same_load ks n k (λ x. (reads x.operation ≡ l.address) × (x.mark ≡ l.began)) g.loads.different u.1.0
        (one_weaker (IsOf l) (λ x. (x.operation.number ≡ n) × ((reads x.operation ≡ l.address) × (x.mark ≡ l.began))) (λ x p.
        (p.0 ∙ eqb-true l.number n e, p.1)) ks of) in
        let at = unit.first + j in
        let got = then_it _ _ b its in
        let low = leb-true l.address.first at got.0 in
        let i = at - l.address.first in
        let read = then_it _ _ b got.1 in
        let inside = slice_get_within bytes i b read.1 in
        let long : i < k.operation.length = subst (λ x. i < x) (sym (ap (λ x. x.length) u.1.1.0 ∙ r.1.1)) inside in
        let all = all_each (λ p. may p.0 p.1) _ (subst (λ ls. list_all (λ p. may p.0 p.1) (zip ls bytes) ≡ true) u.1.1.1 h) in
        let there =
        paid_at load_byte number_of its_number may k.operation k.mark k.operation.length k.operation.address bytes all i b read.1
        long in
        let place : k.operation.address + i ≡ at = (let s = ap (λ x. x.first) same.0 in omega arith) in
        let here : not (is_within unit at && lacks_giver stays w.stores (any_byte at l.began) b) ≡ true =
        subst (λ t. not (is_within unit at && lacks_giver stays w.stores (any_byte at t) b) ≡ true) same.1
        (subst (λ x. not (is_within unit x && lacks_giver stays w.stores (any_byte x k.mark) b) ≡ true) place there) in
        let bound = lane_of.0 in
        let within : is_within unit at ≡ true = and_from _ _ (le-leb unit.first at (omega arith)) (lt-ltb at (unit.first + unit.size) (omega
        arith)) in
        false_from_ne_true _ (λ t. not_both _ here (and_from _ _ within t))

    kept_answers : (o : Opened) (n : ℕ) (bytes : Bor (List ℕ)) (ls : List CutLoad) → Agrees o w ks
        → form_fault o (LoadResponse n bytes) ≡ None → has_givers unit stays w (LoadResponse n bytes) ≡ true → stays w.moment ≡ true
        → Each (IsCutLoad w.stores w.moment ks) ls → may_answer_load unit n bytes.now (map whole_load ls) ≡ true
        → may_answer_load unit n bytes.now (map kept_load (filter load_stays ls)) ≡ true
    kept_answers o n bytes ls g f sources mark each h =
        let all = (rw mark at sources) in
        let lets : OpenLoad → Bool = λ l. not (is_load n l) || is_got unit l.address bytes.now l.got in
        let may = each_unmap whole_load (λ l. lets l ≡ true) ls (all_each lets _ h) in
        each_all lets _ (each_map kept_load (λ l. lets l ≡ true) (filter load_stays ls) (each_filter _ load_stays ls (each_weaker (λ l.
        IsCutLoad w.stores w.moment ks l × (lets (whole_load l) ≡ true)) (λ l. lets (kept_load l) ≡ true)
        (λ l q. kept_answer n bytes.now w.stores l q.0.1.1 (λ e. free o n bytes.now g f all l q.0.1.0 e) q.1) ls
        (each_both _ (λ l. lets (whole_load l) ≡ true) ls each may))))

    answers_load : (o : Opened) (m p : UnitMemory) (n : ℕ) (bytes : Bor (List ℕ)) → Here m → Agrees o w ks
        → form_fault o (LoadResponse n bytes) ≡ None → has_mark_of_request stays w (LoadResponse n bytes) ≡ true
        → has_givers unit stays w (LoadResponse n bytes) ≡ true → seen unit m (LoadResponse n bytes) ≡ Some p
        → After (LoadResponse n bytes) p
    answers_load o m p n bytes c g f marks sources e =
        let b = c.both in
        let r = cond_some _ _ p e in
        let next : Both = record { word = b.word; kept = b.kept; stores = b.stores; loads = filter (others_of n) b.loads } in
        let left : List OpenLoad → UnitMemory = λ ls. record {
          word = b.kept;
          stores = map store_of (filter store_stays b.stores);
          loads = ls;
        } in
        let may = subst (λ x. may_answer_load unit n bytes.now x.loads ≡ true) (sym c.is) r.0 in
        record {
          both = next;
          is = ap (λ ls. record { word = b.word; stores = map store_of b.stores; loads = ls }) (sym (filter-map whole_load (λ l.
              not (is_load n l)) b.loads)) ∙ (ap (without_load n) c.is ∙ r.1);
          holds = record {
            wide = c.holds.wide;
            lanes = c.holds.lanes;
            bytes = c.holds.bytes;
            loads = each_passing _ (others_of n) b.loads (each_weaker (IsCutLoad w.stores w.moment ks) (λ l. others_of n l ≡ true
                → IsCutLoad w.stores (w.moment + 1) (filter (λ k. not (is_number n k)) ks) l)
                (λ l q h. (omega arith, (still_of n ks l h q.1.0, q.1.1))) b.loads c.holds.loads);
          };
          may = keeps_on start past (LoadResponse n bytes) (kept b) (kept next) (stays w.moment)
              (λ t. let k = kept_answers o n bytes b.loads g f sources t c.holds.loads may in
              rw k (ap (λ ls. Some (left ls)) (filter-map kept_load (λ l. not (is_load n l)) (filter load_stays b.loads) ∙
              ap (map kept_load) (filter_swap load_stays (others_of n) b.loads))))
              (λ t. ap (λ ls. left (map kept_load ls)) (kept_same load_stays (others_of n) b.loads
              (each_weaker _ _ (λ l q h. q (untrue _ h) ∙ t) b.loads (load_marks o n b.loads g marks c.holds.loads)))) c.may;
        }

    -- A store is requested. ----

    undone : (m : UnitMemory) (n a : ℕ) (bs : List ℕ) (es : ℕ) → AreFits m → list_any (is_open n) w.stores ≡ false → (j : ℕ) → IsLane unit j
        → Each (λ x. IsDone image rest unit j m.stores x → ⊥) (store_bytes n a bs es w.moment)
    undone m n a bs es fit fresh j l =
        let here = fit j l in
        each_weaker _ _ (λ x h z. none_under image rest unit j m.stores w.stores n fresh here.has_bytes x h.0 h.1.0 z)
        (store_bytes n a bs es w.moment) (each_new n a bs es w.moment)

    loads_past : (n a : ℕ) (bs : List ℕ) (es : ℕ) (ls : List CutLoad) → Each (IsCutLoad w.stores w.moment ks) ls
        → Each (IsCutLoad (w.stores ++ store_bytes n a bs es w.moment) (w.moment + 1) ks) ls
    loads_past n a bs es ls h = loads_on w.stores _ w.moment ks (λ t l j x. source_requested unit stays w.stores _ w.moment
        (store_bytes-new n a bs es w.moment) t j x) ls h

    stores_ask : (m : UnitMemory) (n a : ℕ) (bytes : Bor (List ℕ)) (es : ℕ) → Here m → AreFits m → list_any (is_open n) w.stores ≡ false
        → (d : Bool) → list_any is_some (at_unit unit (stored_byte a bytes.now es)) ≡ d
        → After (StoreRequest n a bytes es) (if d then with_store n (at_unit unit (stored_byte a bytes.now es)) m else m)
    stores_ask m n a bytes es c fit fresh true d =
        let b = c.both in
        let added = store_bytes n a bytes.now es w.moment in
        let word = at_unit unit (stored_byte a bytes.now es) in
        let s : CutStore = record { store = record { number = n; bytes = word; is_done = false }; began = w.moment } in
        let next : Both = record { word = b.word; kept = b.kept; stores = b.stores ++ s ∷ []; loads = b.loads } in
        let left : List OpenStore → UnitMemory = λ os. record {
          word = b.kept;
          stores = os;
          loads = map kept_load (filter load_stays b.loads);
        } in
        let os = map store_of b.stores in
        let new = undone (whole b) n a bytes.now es (subst AreFits (sym c.is) fit) fresh in
        record {
          both = next;
          is = ap (λ x. record { word = b.word; stores = x; loads = map whole_load b.loads }) (map-append store_of b.stores (s ∷ []))
              ∙ ap (with_store n word) c.is;
          holds = record {
            wide = c.holds.wide;
            lanes = λ j l. rw (map-append store_of b.stores (s ∷ [])) (lanes_requested os (os ++ s.store ∷ []) w.stores added j _ _ (λ i x
                z. done_with image rest unit j os _ x z) (λ i x z. done_old image rest unit j os s.store x refl z) (new j)
                (c.holds.lanes j l));
            bytes = each_append (HasBytes (w.stores ++ added)) b.stores (s ∷ []) (bytes_more w.stores added b.stores c.holds.bytes) (
              new_bytes w.stores n a bytes.now es w.moment d,
              tt,
            );
            loads = loads_past n a bytes.now es b.loads c.holds.loads;
          };
          may = keeps_on start past (StoreRequest n a bytes es) (kept b) (kept next) (stays w.moment)
              (λ e. rw d (ap (λ x. Some (left x)) (sym (kept_with store_of store_stays b.stores s [] e))))
              (λ e. ap (λ x. left (map store_of x)) (sym (kept_without store_stays b.stores s [] e ∙
              ap (filter store_stays) (append-nil b.stores)))) c.may;
        }
    stores_ask m n a bytes es c fit fresh false d =
        let b = c.both in
        let added = store_bytes n a bytes.now es w.moment in
        let os = map store_of b.stores in
        let new = undone (whole b) n a bytes.now es (subst AreFits (sym c.is) fit) fresh in
        record {
          both = b;
          is = c.is;
          holds = record {
            wide = c.holds.wide;
            lanes = λ j l. lanes_requested os os w.stores added j _ _ (λ i x z. z) (λ i x z. z) (new j) (c.holds.lanes j l);
            bytes = bytes_more w.stores added b.stores c.holds.bytes;
            loads = loads_past n a bytes.now es b.loads c.holds.loads;
          };
          may = keeps_on start past (StoreRequest n a bytes es) (kept b) (kept b) (stays w.moment) (λ e. rw d refl) (λ e. refl) c.may;
        }

    -- A store is answered. ----

    store_marks : (n : ℕ) (ss : List CutStore) → list_all (response_test n w.moment) w.stores ≡ true → Each (HasBytes w.stores) ss
        → Each (λ s. (s.store.number == n) ≡ true → stays s.began ≡ stays w.moment) ss
    store_marks n ss h each =
        let test = response_test n w.moment in
        each_weaker (HasBytes w.stores) _ (λ s q e.
        let r = some_lane s.store.bytes q.0 in
        let there = (q.1 r.0 r.1.0 r.1.1).1 in
        one_elim _ _ w.stores (one_each (HasByteAt w.stores s r.0 r.1.0) (λ x. test x ≡ true) w.stores there
        (all_each test w.stores h)) (λ x
        p. its_byte w.stores n w.moment s r.0 r.1.0 e x p.0 p.1)) ss each

    answers_store : (m p : UnitMemory) (n : ℕ) → Here m → AreFits m → All (IsTimely w.moment) w.stores
        → has_mark_of_request stays w (StoreResponse n) ≡ true → seen unit m (StoreResponse n) ≡ Some p → After (StoreResponse n) p
    answers_store m p n c fit timely marks e =
        let b = c.both in
        let t = w.moment in
        let after = map (after_response n t) w.stores in
        let r = cond_some _ _ p e in
        let next : Both = record { word = b.word; kept = b.kept; stores = filter (other_store n) b.stores; loads = b.loads } in
        let left : List OpenStore → UnitMemory = λ os. record {
          word = b.kept;
          stores = os;
          loads = map kept_load (filter load_stays b.loads);
        } in
        let may = subst (λ x. may_answer_store n x.stores ≡ true) (sym c.is) r.0 in
        let fewer = filter-map store_of (λ o. not (is_store n o)) b.stores in
        let has : (j : ℕ) → IsLane unit j → Each (HasStore image rest unit j (map store_of b.stores)) w.stores = λ j l.
        let here = subst (Fits image rest unit j w.stores t ks) (sym c.is) (fit j l) in here.has_stores in
        record {
          both = next;
          is = ap (λ x. record { word = b.word; stores = x; loads = map whole_load b.loads }) (sym fewer)
              ∙ (ap (without_store n) c.is ∙ r.1);
          holds = record {
            wide = c.holds.wide;
            lanes = λ j l. subst (λ x. Alike x after j (lane b.word j) (lane b.kept j)) fewer (lanes_answered _ w.stores n t j _ _ may
                (has j) (each_from_all (IsTimely t) w.stores timely) (c.holds.lanes j l));
            bytes = each_passing _ (other_store n) b.stores (each_weaker (HasBytes w.stores) (λ s. other_store n s ≡ true
                → HasBytes after s) (λ s q h. bytes_answered w.stores n t s q h) b.stores c.holds.bytes);
            loads = loads_on w.stores after t ks (λ began l j x.
                source_answered unit stays w.stores n t timely began l j x) b.loads c.holds.loads;
          };
          may = keeps_on start past (StoreResponse n) (kept b) (kept next) (stays t)
              (λ z. let k = kept_stores_answer n b.stores may in
              rw k (ap (λ x. Some (left x)) (filter-map store_of (λ o. not (is_store n o)) (filter store_stays b.stores) ∙
              ap (map store_of) (filter_swap store_stays (other_store n) b.stores))))
              (λ z. ap (λ x. left (map store_of x)) (kept_same store_stays (other_store n) b.stores
              (each_weaker _ _ (λ s q h. q (untrue _ h) ∙ z) b.stores (store_marks n b.stores marks c.holds.bytes)))) c.may;
        }

    sees_event : (o : Opened) (m p : UnitMemory) (event : HistoryEvent) → Here m → AreFits m → Agrees o w ks → form_fault o event ≡ None
        → All (IsTimely w.moment) w.stores → IsClosedAt unit stays w event → seen unit m event ≡ Some p → After event p
    sees_event o m p (LoadRequest n a len en) c fit g f timely closed e =
        subst (After (LoadRequest n a len en)) (same_Some (if is_at unit a len then with_load n (reads_from a en) m else m) p e)
        (asks m n a len en c (is_at unit a len) refl)
    sees_event o m p (LoadResponse n bytes) c fit g f timely closed e = answers_load o m p n bytes c g f closed.0 closed.1 e
    sees_event o m p (StoreRequest n a bytes es) c fit g f timely closed e =
        let word = at_unit unit (stored_byte a bytes.now es) in
        let allowed = is_allowed _ _ _ f in
        subst (After (StoreRequest n a bytes es)) (same_Some (if list_any is_some word then with_store n word m else m) p e)
        (stores_ask m n a bytes es c fit (g.stores n ∙ allowed.1.1) (list_any is_some word) refl)
    sees_event o m p (StoreResponse n) c fit g f timely closed e = answers_store m p n c fit timely closed.0 e

  -- Whole histories. ----

  state_after : (history : List HistoryEvent) (m : UnitMemory) → MayBe unit (untouched image rest unit) history m
      → is_formed none_opened history ≡ true → is_closed_from unit stays (opening image rest) history ≡ true
      → State (untouched image rest unit) (what_stays stays history) (windows_by image rest history).stores
      (windows_by image rest history).moment (marks_by image rest history) m
  state_after history m starts f z = record {
    both = record { word = m.word; kept = m.word; stores = []; loads = [] };
    is = refl;
    holds = record { wide = refl; lanes = λ j l. inl refl; bytes = tt; loads = tt };
    may = starts;
  }
  state_after history m (steps hs k n r step) f z =
      hides _ _ (windows_by image rest hs) (marks_by image rest hs) k n (state_after hs k r f z) step
  state_after history m (sees hs event k n r e) f z =
      let p = formed_parts none_opened hs event f in
      let q = closed_parts unit stays (opening image rest) hs event z in
      let w = windows_by image rest hs in
      let start = untouched image rest unit in
      let next = sees_event start (what_stays stays hs) w (marks_by image rest hs) (opened_by hs) k n event (state_after hs k r p.0 q.0)
      (λ j l. fits image rest unit j l.0 l.1 hs k r p.0) (agrees_by image rest hs p.0) p.1 (timely_by image rest hs) q.1 e in
      subst (λ x. State start x (windows_by image rest (hs ++ event ∷ [])).stores (windows_by image rest (hs ++ event ∷ [])).moment
      (marks_by image rest (hs ++ event ∷ [])) n) (sym (stays_more unit stays (opening image rest) hs event))
      (subst (λ v. State start (what_stays stays hs ++ cons_if (stays w.moment) event []) v.stores v.moment (marks_by image rest (hs
      ++ event ∷ [])) n) (sym (windows_more (opening image rest) hs event))
      (rw (sym (marks_more (opening image rest) [] hs event)) at next))

-- The law. ----

pub cut_is_atomic : (image : List ℕ) (rest : Rest) (unit : UnitPlace) (stays : Cut) (history : List HistoryEvent)
    → CutIsAtomicAt image rest unit stays history
cut_is_atomic image rest unit stays history = λ formed closed h.
    let s = state_after image rest unit stays history h.0 h.1 formed (closed_over image rest unit stays (opening [] Zeros) history ∙ closed)
    in
    (kept image rest unit stays s.both, s.may)

pub cut_refutes : (image : List ℕ) (rest : Rest) (size k : ℕ) (stays : Cut) (history : List HistoryEvent)
    → CutRefutes image rest size k stays history
cut_refutes image rest size k stays history = λ closed refused h.
    refused (cut_is_atomic image rest (unit_at size k) stays history h.formed closed (h.moments k))
