-- All units together: what is kept after an event is of the history with it, and an event is refused exactly if it is none of the law.
use Rattle.atomic_histories.proofs.Lists.{all_weaker}
use Rattle.memory_histories.proofs.Lists.{list_any-map}
use Rattle.std.proofs.Common.{◌≡◌, ℕ, zero, suc, ◌+◌, ◌/◌, ◌<◌, ◌≤◌, Bool, true, false, ◌||◌, not, List, [], ◌∷◌, ◌++◌, map, fold, Option}
use Rattle.std.proofs.Common.{Some, None, Result, OnOk, inl, inr, refl, sym, ◌∙◌, subst, append_assoc, append-nil, arith}
use Rattle.std.specs.List.{list_all, find}
use Rattle.std.proofs.lemmas.Bool.{cases_Bool, cases_lt, and_parts, and_from, or_right, cond_both}
use Rattle.std.proofs.lemmas.List.Folds.{list_all-append}
use Rattle.memory_histories.specs.declared.events.HistoryEvent.{HistoryEvent}
use Rattle.memory_histories.specs.declared.events.HistoryEvent.TheVariants.{LoadRequest, LoadResponse, StoreRequest, StoreResponse}
use Rattle.memory_histories.specs.declared.events.Rest.{Rest}
use Rattle.atomic_histories.specs.declared.unit.OpenStore.{OpenStore}
use Rattle.atomic_histories.specs.declared.unit.Operation.{Operation}
use Rattle.atomic_histories.specs.declared.unit.UnitPlace.{UnitPlace}
use Rattle.atomic_histories.specs.Words.{written}
use Rattle.atomic_histories.specs.Operations.{Opened, none_opened, opened_after, opened_by, has_number, form_fault}
use Rattle.atomic_histories.specs.Law.{is_load, OpenLoad, UnitMemory, HiddenStep, MayBe, steps, sees, untouched, done_store, without_store}
use Rattle.atomic_histories.specs.Law.{unit_at, is_formed, IsAtomicAt}
use Rattle.atomic_histories.specs.declared.unit.WatchedLoad.{WatchedLoad}
use Rattle.atomic_histories.specs.Followed.{Pair, Ways, has_pair, has_way, watched, is_under, ways_after}
use Rattle.atomic_histories.specs.Pasts.{Stood}
use Rattle.atomic_histories.specs.Stands.{One, OneWay, AreWatched, Leads, StandsFor}
use Rattle.atomic_histories.specs.Held.{Held, nothing_held, covered, units_of, is_among, changed, unit_after, is_without, is_stuck}
use Rattle.atomic_histories.specs.Held.{is_over_at, halt_from, first_halt, Stands, is_lost, StandsBut}
use Rattle.atomic_histories.specs.Lost.{IsAtomicBut}
use Rattle.atomic_histories.specs.Judge.{IsTaken, IsForgotten}
use Rattle.atomic_histories.proofs.Links.{alone, or_first, watched_any, fit_by, linked, open_load, opened_more, passes, then_some, IsAlone}
use Rattle.atomic_histories.proofs.Exact.{IsAloneFor, stands_first, stands_after, stands_passed, some_state}

-- Ways that are left. ----

pair_from_one : (P : Pair → Type 0) (es : List Pair) → One P es → has_pair es ≡ true
pair_from_one x0 x1 h = grind arith

has_map : (f : Pair → Pair) (es : List Pair) → has_pair (map f es) ≡ has_pair es
has_map f x1 = grind arith

some_pair : (es : List Pair) → has_pair es ≡ true → (e : Pair) × (rest : List Pair) × (es ≡ e ∷ rest)
some_pair x0 h = grind arith

module _ (start : UnitMemory) (unit : UnitPlace) (history : List HistoryEvent) (u : Ways) where
  pub state_from : StandsFor start unit u history
      → has_way u ≡ true → (m : UnitMemory) × MayBe unit start history m
  state_from s h =
      let p = some_pair u.pairs h in
      let r = some_state start unit u p.0 p.1 p.2 history s in
      (r.1, r.3)

  pub none_from : StandsFor start unit u history
      → has_way u ≡ false → ¬ ((m : UnitMemory) × MayBe unit start history m)
  none_from s h = grind arith

-- The load that is answered. ----

-- the loads of a state on a way are under the same numbers as those that are watched
alone_watched : (number : ℕ) (w : List (Option ℕ)) (path : List Stood) (ls : List WatchedLoad) (ms : List OpenLoad)
    → AreWatched w (map (watched path) ls) ms → IsAlone (is_load number) ms → IsAlone (is_under number) ls
alone_watched number w path [] ms h a = tt
alone_watched number w path (l ∷ ls) [] h a = absurd h
alone_watched number w path (l ∷ ls) (m ∷ ms) h a = (
  λ t. sym (list_any-map _ _ ls) ∙ (sym (watched_any number w _ ms h.1) ∙ a.0 (cc (h.0.0, t))),
  alone_watched number w path ls ms h.1 a.1,
)

module _ (image : List ℕ) (rest : Rest) (unit : UnitPlace) (history : List HistoryEvent) where
  -- no other load that is open at the unit has the number of one that is open in the history
  pub alone_under : (u : Ways)
      → is_formed none_opened history ≡ true → StandsFor (untouched image rest unit) unit u history → has_way u ≡ true → (number : ℕ)
      → (o : Operation) → find (has_number number) (opened_by history).loads ≡ Some o → IsAlone (is_under number) u.loads
  alone_under u formed s way number o open_ =
      let p = some_pair u.pairs way in
      let r = some_state _ unit u p.0 p.1 p.2 history s in
      let one =
      alone unit number r.1 _ (linked image rest unit r.3) (fit_by history formed).loads.0 o open_ in
      alone_watched number p.0.word r.0 u.loads r.1.loads r.2.loads one

  pub alone_for : (event : HistoryEvent) (u : Ways)
      → is_formed none_opened history ≡ true → form_fault (opened_by history) event ≡ None
      → StandsFor (untouched image rest unit) unit u history → has_way u ≡ true → IsAloneFor u event
  alone_for (LoadResponse number bytes) u formed f s way =
      let o = open_load _ _ f in
      alone_under u formed s way number o.0 o.1
  alone_for _ u formed f s way = tt

-- A store may always be answered. ----

abbrev all_done : List OpenStore → Bool
all_done ss = list_all (λ s. s.is_done) ss

done_more : (before : List OpenStore) (s : OpenStore) → all_done before ≡ true → s.is_done ≡ true → all_done (before ++ s ∷ []) ≡ true
done_more before s h d = grind (arith, list_all-append, and_from, s.is_done)

finish : (P : UnitMemory → Type 0) → ((m n : UnitMemory) → P m → HiddenStep m n → P n)
    → (loads : List OpenLoad) (before after : List OpenStore) (w : List (Option ℕ)) → all_done before ≡ true
    → P (record { word = w; stores = before ++ after; loads = loads })
    → (v : List (Option ℕ)) × (ss : List OpenStore) × P (record { word = v; stores = ss; loads = loads }) × (all_done ss ≡ true)
finish P closed loads before [] w d p = grind (arith, append-nil)
finish P closed loads before (s ∷ after) w d p = elim (cases_Bool s.is_done) [
  | inl t ↦ finish P closed loads (before ++ s ∷ []) after w (done_more before s d t)
      (rw (sym (append_assoc before (s ∷ []) after)) at p)
  | inr f ↦
      let q : P (record { word = written s.bytes w; stores = before ++ done_store s ∷ after; loads = loads }) =
      closed (record { word = w; stores = before ++ s ∷ after; loads = loads }) _ p (inl (before, s, after, refl, f, refl)) in
      finish P closed loads _ after _ (done_more before (done_store s) d refl)
      (rw (sym (append_assoc before (done_store s ∷ []) after)) at q)
]

store_answered : (start : UnitMemory) (unit : UnitPlace) (history : List HistoryEvent) (number : ℕ)
    → (m : UnitMemory) × MayBe unit start history m → (n : UnitMemory) × MayBe unit start (history ++ StoreResponse number ∷ []) n
store_answered start unit history number h =
    let r = finish _ (λ m n x step. steps history m n x step) h.0.loads [] h.0.stores h.0.word refl h.1 in
    let m : UnitMemory = record { word = r.0; stores = r.1; loads = h.0.loads } in (
      without_store number m,
      sees history _ m _ r.2
          (then_some _ _
          (all_weaker (λ s. s.is_done) (λ s. not _ || s.is_done) (λ s d. or_right _ _ d) r.1 r.3)),
    )

abbrev pub IsNoAnswer : HistoryEvent → Type 0
IsNoAnswer (LoadResponse number bytes) = ⊥
IsNoAnswer event = Unit {0}

-- what is no load's answer leaves a way
pub way_left : (start : UnitMemory) (unit : UnitPlace) (history : List HistoryEvent) (event : HistoryEvent) → IsNoAnswer event
    → (u : Ways) → StandsFor start unit u history → has_way u ≡ true
    → has_way (ways_after unit u event) ≡ true
way_left start unit history (LoadRequest number address n enables) a u s h = grind arith
way_left start unit history (LoadResponse number bytes) a u s h = absurd a
way_left start unit history (StoreRequest number address bytes enables) a u s h =
    cond_both _ _ _ (λ v. has_way v ≡ true)
    (λ t. has_map _ u.pairs ∙ h) (λ f. h)
way_left start unit history (StoreResponse number) a u s h =
    let n = store_answered start unit history number (state_from start unit history u s h) in
    let after = stands_after start unit u history (StoreResponse number) tt s in
    pair_from_one (OneWay u.loads (λ b. Leads b n.0)) (ways_after unit u (StoreResponse number)).pairs (after.complete n.0 n.1)

-- The first unit at which an event halts. ----

pub stuck_none : (limit : ℕ) (h : Held) (event : HistoryEvent) (k n : ℕ) → halt_from limit h event k n ≡ None → (j : ℕ) → k ≤ j
    → j < k + n → is_stuck h event j ≡ false
stuck_none limit h event k zero e j l m = absurd (omega arith)
stuck_none limit h event k (suc n) e j l m = elim (cases_Bool (is_stuck h event k || is_over_at limit h event k)) [
  | inl t ↦ let x : Some k ≡ None = rw t at e in cc
  | inr f ↦ elim (cases_lt k j) [
    | inl more ↦ stuck_none limit h event (k + 1) n (rw f at e) j (omega arith) (omega arith)
    | inr same ↦ grind arith
  ]
]

pub stuck_some : (limit : ℕ) (h : Held) (event : HistoryEvent) (k n i : ℕ) → halt_from limit h event k n ≡ Some i
    → is_over_at limit h event i ≡ false
    → (is_stuck h event i ≡ true) × ((j : ℕ) → k ≤ j → j < i → is_stuck h event j ≡ false)
stuck_some limit h event k zero i e few = cc
stuck_some limit h event k (suc n) i e few = elim (cases_Bool _) [
  | inl t ↦
      let x : Some k ≡ Some i = rw t at e in
      let same : k ≡ i = cc in
      (or_first _ _ (subst (λ y. (is_stuck h event y || is_over_at limit h event y) ≡ true) same t) few, λ j l m. absurd (omega arith))
  | inr f ↦
      let r = stuck_some limit h event (k + 1) n i (rw f at e) few in (
        r.0,
        λ j l m. elim (cases_lt k j) [
          | inl more ↦ r.1 j (omega arith) m
          | inr same ↦ grind arith
        ],
      )
]

way_stays : (before after : Ways) → is_without before after ≡ false → has_way before ≡ true → has_way after ≡ true
way_stays before after h w = grind arith

way_lost : (before after : Ways) → is_without before after ≡ true → (has_way before ≡ true) × (has_way after ≡ false)
way_lost before after h = grind arith

-- No way leads on where there is none. ----

none_after : (unit : UnitPlace) (u : Ways) (event : HistoryEvent) → has_way u ≡ false → has_way (ways_after unit u event) ≡ false
none_after unit u (LoadRequest number address n enables) h = grind arith
none_after unit u (LoadResponse number bytes) h = grind arith
none_after unit u (StoreRequest number address bytes enables) h =
    cond_both _ _ _ (λ v. has_way v ≡ false)
    (λ t. has_map _ u.pairs ∙ h) (λ f. h)
none_after unit u (StoreResponse number) h = grind arith

-- Events. ----

pub formed_more : (o : Opened) (history : List HistoryEvent) (event : HistoryEvent) → is_formed o history ≡ true
    → form_fault (fold opened_after o history) event ≡ None
    → is_formed o (history ++ event ∷ []) ≡ true
formed_more o [] event h f = rw f refl
formed_more o (x ∷ xs) event h f =
    let p = and_parts _ _ h in
    and_from _ _ p.0
    (formed_more (opened_after o x) xs event p.1 f)

pub stands_all_first : (image : List ℕ) (rest : Rest) (size : ℕ) → 1 ≤ size → StandsBut (nothing_held image rest size) [] []
stands_all_first image rest size l =
    record { sized = l; formed = refl; opened = refl; units = λ k. inr (refl, (stands_first image rest _, refl)) }

module _ (h : Held) (lost : List ℕ) (history : List HistoryEvent) (event : HistoryEvent) (s : StandsBut h lost history)
    (formed : form_fault h.opened event ≡ None) where
  abbrev Now : ℕ → Ways → Type 0
  Now k u = Stands h.image h.rest (history ++ event ∷ []) (unit_at h.size k) u

  abbrev first : ℕ
  first = (covered h.opened event).0 / h.size

  abbrev count : ℕ
  count = units_of h.size (covered h.opened event).0 (covered h.opened event).1

  formless : form_fault (opened_by history) event ≡ None
  formless = grind arith

  -- what is kept of a unit that the event passes
  passed : (k : ℕ) → is_among h.size (covered h.opened event) k ≡ false → Stands h.image h.rest history (unit_at h.size k) (h.units k)
      → Now k (h.units k)
  passed k out a =
      stands_passed _ _ _ history event
      (λ m r. passes h.size k m _ event s.sized (fit_by history s.formed)
      (linked h.image h.rest (unit_at h.size k) r) formless
      (rw s.opened at out)) a

  touched : (k : ℕ) → Stands h.image h.rest history (unit_at h.size k) (h.units k) → has_way (h.units k) ≡ true → Now k (changed h event k)
  touched k a way =
      stands_after _ _ _ history event
      (alone_for h.image h.rest (unit_at h.size k) history event (h.units k) s.formed formless a way) a

  range : (k : ℕ) → is_among h.size (covered h.opened event) k ≡ true → (first ≤ k) × (k < first + count)
  range k t = grind arith

  -- the ways of a unit after an event that leaves it some
  after_at : (k : ℕ) → (is_among h.size (covered h.opened event) k ≡ true → is_stuck h event k ≡ false)
      → Stands h.image h.rest history (unit_at h.size k) (h.units k) × (has_way (h.units k) ≡ true)
      → Now k (unit_after h event k) × (has_way (unit_after h event k) ≡ true)
  after_at k free a = elim (cases_Bool (is_among h.size (covered h.opened event) k)) [
    | inl t ↦ grind (arith, touched, way_stays)
    | inr f ↦ rw f (passed k f a.0, a.1)
  ]

  free_at : (limit : ℕ) → first_halt limit h event ≡ None → (k : ℕ) → is_among h.size (covered h.opened event) k ≡ true
      → is_stuck h event k ≡ false
  free_at limit none k t = grind (arith, range, stuck_none)

  lost_after : (k : ℕ) → has_way (h.units k) ≡ false → has_way (unit_after h event k) ≡ false
  lost_after k e = grind (arith, none_after)

  pub formed_after : is_formed none_opened (history ++ event ∷ []) ≡ true
  formed_after = grind (arith, formed_more, formless)

  -- an event that leaves each unit a way
  pub stands_all_after : (limit : ℕ) → first_halt limit h event ≡ None → (next : Held) → IsTaken h event next
      → StandsBut next lost (history ++ event ∷ [])
  stands_all_after limit none next t = grind (arith, formed_after, opened_more, lost_after, after_at, free_at)

  pub atomic_after : (limit : ℕ) → first_halt limit h event ≡ None → IsAtomicBut lost h.image h.rest h.size (history ++ event ∷ [])
  atomic_after limit none = record {
    formed = formed_after;
    moments = λ k there. elim (s.units k) [
      | inl a ↦ cc (a.0)
      | inr a ↦ let r = after_at k (free_at limit none k) a.1 in state_from _ _
          _ _ r.0 r.1
    ];
  }

  -- an event that leaves a unit no way
  pub refused_at : (limit k : ℕ) → first_halt limit h event ≡ Some k → is_over_at limit h event k ≡ false
      → (is_lost k lost ≡ false) × (¬ (IsAtomicAt h.image h.rest (unit_at h.size k) (history ++ event ∷ [])))
      × ((j : ℕ) → j < k → is_lost j lost ≡ false → IsAtomicAt h.image h.rest (unit_at h.size j) (history ++ event ∷ []))
  refused_at limit k e few =
      let r = stuck_some limit h event first count k e few in
      let w = way_lost (h.units k) (changed h event k) r.0 in
      let here : (is_lost k lost ≡ false) × (Stands h.image h.rest history (unit_at h.size k) (h.units k) × (has_way (h.units k) ≡ true)) =
      grind arith in (
        here.0,
        none_from (untouched h.image h.rest (unit_at h.size k)) (unit_at h.size k) (history ++ event ∷ []) (changed h event k)
            (touched k here.1.0 here.1.1) w.1,
        λ j l there. elim (s.units j) [
          | inl a ↦ grind arith
          | inr a ↦ let after = after_at j (λ t. r.1 j (range j t).0 l) a.1 in state_from _ _ _ _ after.0 after.1
        ],
      )

  -- only a load's answer does
  pub only_answers : IsNoAnswer event → (limit k : ℕ) → first_halt limit h event ≡ Some k → is_over_at limit h event k ≡ false → ⊥
  only_answers other limit k e few =
      let r = stuck_some limit h event first count k e few in
      let w = way_lost (h.units k) (changed h event k) r.0 in
      elim (s.units k) [
        | inl a ↦ cc (w.0, a.1)
        | inr a ↦
            cc (w.1, way_left _ _ history event other _ a.1.0 a.1.1)
      ]

-- A unit is forgotten. ----

pub forgotten_law : {E : Type 0} (r : Result (Unit {0}) E) (h next : Held) (number : ℕ) → OnOk r (IsForgotten h number next)
    → (lost : List ℕ) (history : List HistoryEvent) → StandsBut h lost history
    → OnOk r (StandsBut next (number ∷ lost) history)
forgotten_law x0 h next number t lost history s = grind arith
