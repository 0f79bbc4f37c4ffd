-- What an open load may return: the bytes of the ways to a pair.
use Rattle.atomic_histories.proofs.Links.{watched_any, none_got, fit_by, found_fit, inside_end, IsAlone, found_each}
use Rattle.atomic_histories.proofs.Links.{alone}
use Rattle.memory_histories.proofs.Lists.{list_any-map}
use Rattle.std.proofs.Common.{[], ◌≡◌, ℕ, zero, suc, ◌+◌, ◌/◌, ◌<◌, ◌≤◌, ◌⊎◌, ◌↔◌, Bool, true, false, ◌&&◌, ◌||◌, ◌==◌, nat_le, List}
use Rattle.std.proofs.Common.{is_some, ap₂, ◌∷◌, ◌++◌, map, filter, length, Option, Some, None, Result, Ok, Err, IfOk, slice_get, inl, inr}
use Rattle.std.proofs.Common.{refl, sym, ap, ◌∙◌, subst, arith}
use Rattle.std.specs.List.{list_any, find}
use Rattle.std.proofs.Math.Bool.{or-true}
use Rattle.std.proofs.lemmas.Bool.{cases_Bool, and_parts, and_from, or_cases, or_right, or_left}
use Rattle.std.proofs.lemmas.List.Folds.{list_any-append}
use Rattle.memory_histories.specs.declared.events.HistoryEvent.{HistoryEvent}
use Rattle.memory_histories.specs.declared.events.Rest.{Rest}
use Rattle.memory_histories.specs.declared.sets.ByteSet.{ByteSet}
use Rattle.memory_histories.specs.Sets.{has}
use Rattle.atomic_histories.specs.declared.unit.Operation.{Operation}
use Rattle.atomic_histories.specs.declared.unit.UnitPlace.{UnitPlace}
use Rattle.atomic_histories.specs.declared.unit.WatchedLoad.{WatchedLoad}
use Rattle.atomic_histories.specs.Operations.{opened_by, has_number}
use Rattle.atomic_histories.specs.Law.{OpenLoad, UnitMemory, HiddenStep, MayBe, steps, untouched, unit_at, is_load}
use Rattle.atomic_histories.specs.Pasts.{Past, begins, after, either, Stood, Has, shows, seen_since, got, after_any, merged_any}
use Rattle.atomic_histories.specs.Branches.{Watched, Branch, is_watched}
use Rattle.atomic_histories.specs.Followed.{Pair, Ways, never, watched, way_on, effects, is_under, next_after, rounds}
use Rattle.atomic_histories.specs.Stands.{Each, One, EachWay, OneWay, IsAsked, IsPairBy, MayHaveGot, IsWatched, AreWatched, IsOn, Leads}
use Rattle.atomic_histories.specs.Stands.{now, later, StandsFor}
use Rattle.atomic_histories.specs.Held.{Held, StandsBut}
use Rattle.atomic_histories.specs.May.{lane_of, may_show, has_got, got_byte, MayGet, MayReturnAsked, MayReturn, skips, may_return_at}
use Rattle.atomic_histories.specs.May.{AreSetsOf, IsSetOf, asks, reached_in}
use Rattle.atomic_histories.specs.May.{reached, shows_byte, is_shown, IsSet, may_get_at, address_of, AreSetsFrom, IsByteOf, HasSets}
use Rattle.atomic_histories.proofs.Lists.{one_weaker, one_none, one_or, one_elim, each_both, find_one, one_any, one_each, one_filter}
use Rattle.atomic_histories.proofs.Lists.{find_none}
use Rattle.atomic_histories.proofs.Answered.{find_watched, seen_test, any_found, any_true}
use Rattle.atomic_histories.proofs.Exact.{SoundOn, not_yet, watched_not_yet}
use Rattle.atomic_histories.proofs.Found.{leads_split, sound_joint, sound_kept, next_sound, next_finds, one_taken, undone, one_rounds}
use Rattle.atomic_histories.proofs.Found.{LeadsWithin}
use Rattle.atomic_histories.proofs.Whole.{alone_under}
use Rattle.atomic_histories.proofs.Paths.{some_path, part_has, has_part, HasAny}

abbrev pub Word : Type 0
Word = List (Option ℕ)

-- One way. ----

-- whether a load shows this byte
abbrev shows_load : ℕ → ℕ → ℕ → Branch → Watched → Bool
shows_load number k b e l =
    is_watched number l && (may_show (lane_of k e.word) b || list_any (λ w. may_show (lane_of k w) b) l.words)

-- What is shown may be got. ----

word_shown : (k b : ℕ) (e : Branch) (l : Watched)
    → (may_show (lane_of k e.word) b || list_any (λ w. may_show (lane_of k w) b) l.words) ≡ true
    → (v : Word) × (may_show (lane_of k v) b ≡ true) × MayHaveGot e.word l.words (Some v)
word_shown k b e l h = grind (arith, any_found)

with_got : (number k b : ℕ) (e : Branch) (ls : List Watched) → list_any (shows_load number k b e) ls ≡ true
    → (ms : List OpenLoad) × AreWatched e.word ls ms × (list_any (got_byte number k b) ms ≡ true)
with_got number k b e [] h = cc
with_got number k b e (l ∷ ls) h = elim (cases_Bool _) [
  | inl t ↦
      let p = and_parts _
      (may_show _ b || list_any (λ w. may_show _ b) l.words) t in
      let v = word_shown k b e l p.1 in
      let m : OpenLoad = record { number = l.number; address = l.address; got = Some v.0 } in
      let got : got_byte number k b m ≡ true = and_from _ _ p.0 v.1 in (
        m ∷ map not_yet ls,
        ((refl, refl, v.2), watched_not_yet e.word ls),
        or_left _
            _ got,
      )
  | inr f ↦
      let r = with_got number k b e ls (rw f at h) in
      (not_yet l ∷ r.0, (first, r.1), or_right _ _ r.2)
]
  where
    first : IsWatched e.word l (not_yet l)
    first = (refl, refl, tt)

shown_got : (number k b : ℕ) (P : UnitMemory → Type 0) (e : Branch) → SoundOn P e → list_any (shows_load number k b e) e.loads ≡ true
    → (m : UnitMemory) × P m × (list_any (got_byte number k b) m.loads ≡ true)
shown_got number k b P e s h =
    let r = with_got number k b e e.loads h in
    let m : UnitMemory = record { word = e.word; stores = e.stores; loads = r.0 } in
    (m, s m (record { word = refl; stores = refl; loads = r.1 }), r.2)

got_shown : (k b : ℕ) (e : Branch) (l : Watched) (g : Option Word) → has_got k b g ≡ true → MayHaveGot e.word l.words g
    → (may_show (lane_of k e.word) b || list_any (λ w. may_show (lane_of k w) b) l.words) ≡ true
got_shown k b e l None t h = cc
got_shown k b e l (Some v) t (inl same) = grind arith
got_shown k b e l (Some v) t (inr past) =
    or_right _ (list_any (λ w. may_show _ b) l.words)
    (any_true (λ w. may_show _ b) v l.words t past)

loads_show : (number k b : ℕ) (e : Branch) (ls : List Watched) (ms : List OpenLoad) → AreWatched e.word ls ms
    → list_any (got_byte number k b) ms ≡ true
    → list_any (shows_load number k b e) ls ≡ true
loads_show number k b e [] [] a h = cc
loads_show number k b e (l ∷ ls) (m ∷ ms) a h = elim (cases_Bool _) [
  | inl t ↦
      let p = and_parts _ _ t in
      or_left _ _
      (and_from _
      (may_show _ b || list_any (λ w. may_show _ b) l.words) (ap (λ i. i == number) a.0.0 ∙ p.0)
      (got_shown k b e l m.got p.1 a.0.2))
  | inr f ↦ or_right _ _
      (loads_show number k b e ls ms a.1 (rw f at h))
]
loads_show number k b e _ _ a h = absurd a

-- The ways to a pair. ----

-- whether a word that stood there since a moment passes a test
abbrev since_then : (Word → Bool) → ℕ → Stood → Bool
since_then is since s = nat_le since s.moment && is s.word

module _ (is : Word → Bool) (since : ℕ) where
  shows_got : (p : Past) → shows is since p ≡ is_some (got (since_then is since) p)
  shows_got begins = refl
  shows_got (after w t p) = elim (cases_Bool (nat_le since t && is w)) [
    | inl y ↦ rw y refl
    | inr f ↦ rw f (shows_got p ∙ more _)
  ]
    where
      more : (o : Option Past) → is_some o ≡ is_some (after_any w t o)
      more None = refl
      more _ = refl
  shows_got (either p q) = ap₂ ◌||◌ (shows_got p) (shows_got q) ∙ both _ _
    where
      both : (a b : Option Past) → (is_some a || is_some b) ≡ is_some (merged_any a b)
      both None b = refl
      both _ None = refl
      both _ _ = refl

  past_shows : (p : Past) → shows is since p ≡ true
      → (path : List Stood) × Has p path × (list_any is (seen_since since path) ≡ true)
  past_shows p h =
      let r = some _ (sym (shows_got p) ∙ h) in
      let g = has_part true _ p r.0 r.1 in
      (r.0, g.0, sym (seen_test is since r.0) ∙ g.1)
    where
      some : (o : Option Past) → is_some o ≡ true → (path : List Stood) × HasAny o path
      some None h = cc
      some (Some q) h = some_path q

  shows_past : (p : Past) (path : List Stood) → Has p path → list_any is (seen_since since path) ≡ true
      → shows is since p ≡ true
  shows_past p path has h =
      shows_got p ∙ some _ (part_has true _ p path has (seen_test is since path ∙ h))
    where
      some : (o : Option Past) → HasAny o path → is_some o ≡ true
      some None h = absurd h
      some _ h = refl

module _ (loads : List WatchedLoad) (moment : ℕ) (asked : Each (IsAsked moment) loads) (number k b : ℕ) (l : WatchedLoad)
    (open_ : find (is_under number) loads ≡ Some l) where
  abbrev is : Word → Bool
  is = λ w. may_show (lane_of k w) b

  abbrev shown : Pair → Bool
  shown e = shows_byte l.since k b e

  -- a way that shows what a pair does
  way_shows : (e : Pair) → shown e ≡ true
      → (path : List Stood) × Has e.past path × (list_any (shows_load number k b (way_on loads e path)) (map (watched path) loads) ≡ true)
  way_shows e h =
      let r : (path : List Stood) × Has e.past path × ((is e.word || list_any is (seen_since l.since path)) ≡ true) =
      elim (or_cases _ _ h) [
        | inl y ↦ let r = some_path e.past in (r.0, r.1, or_left _ _ y)
        | inr y ↦ let r = past_shows is l.since e.past y in (r.0, r.1, or_right _ _ r.2)
      ] in
      let there =
      find_one (is_watched number) _ _ (find_watched number r.0 loads l open_) in (
        r.0,
        r.1,
        one_any _ _ (one_weaker _ (λ x. shows_load number k b (way_on loads e r.0) x ≡ true)
            (λ x q. and_from _ _ q.1 (ap (λ y. is e.word || list_any is y.words) q.0 ∙ r.2)) _ there),
      )

  module _ (P : UnitMemory → Type 0) (closed : (m n : UnitMemory) → P m → HiddenStep m n → P n) where
    abbrev Sound : Pair → Type 0
    Sound e = EachWay loads (SoundOn P) e × IsPairBy moment e

    got_by_pair : (e : Pair) → Sound e → shown e ≡ true → (m : UnitMemory) × P m × (list_any (got_byte number k b) m.loads ≡ true)
    got_by_pair e s h = let r = way_shows e h in shown_got number k b P _ (s.0 r.0 r.1) r.2

    any_got : (es : List Pair) → Each Sound es → list_any shown es ≡ true
        → (m : UnitMemory) × P m × (list_any (got_byte number k b) m.loads ≡ true)
    any_got es a h =
        let r = any_found shown es h in
        one_elim _ _ es (one_each _ Sound es r.2 a) (λ e q. got_by_pair e q.1 (ap shown (sym q.0) ∙ r.1))

    reached_got : (n : ℕ) (es : List Pair) → Each Sound es → list_any shown (reached_in loads moment n es) ≡ true
        → (m : UnitMemory) × P m × (list_any (got_byte number k b) m.loads ≡ true)
    reached_got zero es a h = cc
    reached_got (suc n) es a h =
        let next = next_after loads moment never es in
        let each =
        next_sound loads moment asked Sound (sound_joint loads moment asked P) (sound_kept loads moment asked P closed) never [] es tt a in
        elim (or_cases (list_any shown next) (list_any shown (reached_in loads moment n next))
        (sym (list_any-append shown next (reached_in loads moment n next)) ∙ h)) [
          | inl t ↦ any_got next each t
          | inr f ↦ reached_got n next each f
        ]

  -- What may be got is shown. ----

  module _ (alone : IsAlone (is_under number) loads) where
    one_shows : (e : Pair) (path : List Stood) → Has e.past path → (ls : List WatchedLoad)
        → Each (λ x. is_under number x ≡ true → x ≡ l) ls
        → list_any (shows_load number k b (way_on loads e path)) (map (watched path) ls) ≡ true → shown e ≡ true
    one_shows e path has [] a h = cc
    one_shows e path has (x ∷ xs) a h =
        elim (or_cases _ _ h) [
          | inr r ↦ one_shows e path has xs a.1 r
          | inl t ↦
              let p = and_parts _ _ t in
              let same = a.0 p.0 in
              let there =
              ap (λ y. is e.word || list_any is (seen_since y.since path)) (sym same) ∙ p.1 in
              elim (or_cases _ _ there) [
                | inl y ↦ or_left _ (shows is l.since e.past) y
                | inr y ↦ grind (arith, or_right, shows_past)
              ]
        ]

    module _ (m : UnitMemory) (got : list_any (got_byte number k b) m.loads ≡ true) where
      here_shows : (e : Pair) (path : List Stood) → Has e.past path → IsOn (way_on loads e path) m → shown e ≡ true
      here_shows e path has o =
          one_shows e path has loads (found_each (is_under number) loads l alone open_)
          (loads_show number k b (way_on loads e path) (map (watched path) loads) m.loads o.loads got)

      -- a way is not late for anything
      abbrev Never : Branch → Type 0
      Never x = Unit {0}

      abbrev There : ℕ → Pair → Type 0
      There n e = OneWay loads (λ x. LeadsWithin loads moment asked m n x) e

      none_there : (e : Pair) → There zero e → ⊥
      none_there e w = grind arith

      keep_there : (n : ℕ) (e : Pair) → There (suc n) e → (shown e ≡ true) ⊎ One (There n) (effects loads moment e)
      keep_there n e w =
          elim (leads_split loads moment asked m _ n e w.0 w.1 w.2
          (λ before s after more has same r. (more, has, subst (LeadsWithin loads moment asked m n) (sym same) r))) [
            | inl o ↦ inl (here_shows e w.0 w.1 o)
            | inr o ↦ inr o
          ]

      -- a way that leads to the state comes to a pair that shows it
      comes_there : (n : ℕ) (es : List Pair) → One (There (suc n)) es
          → (list_any shown es || list_any shown (reached_in loads moment n es)) ≡ true
      comes_there zero es h =
          or_left _ false
          (one_any shown es (one_weaker _ (λ e. shown e ≡ true)
          (λ e w. elim (keep_there zero e w) [
            | inl t ↦ t
            | inr o ↦ absurd (one_none _ (one_weaker _ (λ x. ⊥) none_there _ o))
          ]) es h))
      comes_there (suc n) es h =
          let next = next_after loads moment never es in
          let More : Pair → Type 0 = λ e. (never.goal e ≡ false) × One (There (suc n)) (filter never.hope (effects loads moment e)) in
          let either =
          one_weaker _ (λ e. (shown e ≡ true) ⊎ More e)
          (λ e w. elim (keep_there _ e w) [
            | inl t ↦ inl t
            | inr o ↦ inr (refl, one_filter _ never.hope _ (one_weaker _ _ (λ x w. (w, refl)) _ o))
          ]) es h in
          elim (one_or (λ e. shown e ≡ true) More es either) [
            | inl a ↦ or_left _ _ (one_any shown es a)
            | inr a ↦
                let rest = comes_there n next (next_finds loads moment asked _
                (one_taken loads (LeadsWithin loads moment asked m _)) never [] es (inr a)) in
                or_right _ _
                (list_any-append shown next _ ∙ rest)
          ]

      pub is_reached : (es : List Pair) → One (OneWay loads (λ x. Leads x m)) es
          → list_any shown (es ++ reached_in loads moment (rounds es) es) ≡ true
      is_reached es h =
          let Q = OneWay loads (λ x. Leads x m) in
          let n = rounds es in
          let ways =
          one_weaker (λ e. Q e × (undone e.stores ≤ n)) _ (λ e p. (p.0.0, p.0.1, (p.0.2, omega (arith, p.1)))) es
          (one_rounds Q 0 es h) in
          list_any-append shown es _ ∙ comes_there n es ways

-- One unit. ----

-- where a way leads those loads are open that are on it
leads_any : (number : ℕ) {e : Branch} {m : UnitMemory} → Leads e m
    → list_any (is_load number) m.loads ≡ list_any (is_watched number) e.loads
leads_any number {e} {m} (now o) = watched_any number e.word e.loads _ o.loads
leads_any number {e} {m} (later before s rest split open_ r) = leads_any number r ∙ list_any-map _ _ e.loads

unit_law : (image : List ℕ) (rest : Rest) (history : List HistoryEvent) (unit : UnitPlace) (u : Ways)
    → StandsFor (untouched image rest unit) unit u history → (number : ℕ) → IsAlone (is_under number) u.loads → (k b : ℕ)
    → (is_shown (find (is_under number) u.loads) k b (reached u) ≡ true) ↔ MayGet image rest history unit number k b
unit_law image rest history unit u s number alone k b = go _ refl
  where
    P : UnitMemory → Type 0
    P = MayBe unit (untouched image rest unit) history

    closed : (m n : UnitMemory) → P m → HiddenStep m n → P n
    closed m n r step = steps history m n r step

    go : (load : Option WatchedLoad) → find (is_under number) u.loads ≡ load
        → (is_shown load k b (reached u) ≡ true) ↔ MayGet image rest history unit number k b
    go None f = (
      λ h. cc,
      λ g. absurd (one_elim (OneWay u.loads (λ x. Leads x g.0)) ⊥ u.pairs (s.complete g.0 g.1)
          (λ e w. cc (sym g.2 ∙ none_got number k b g.0.loads
          (leads_any number w.2 ∙ (list_any-map _ _ u.loads ∙ find_none _ u.loads f))))),
    )
    go (Some l) f =
        let sound =
        each_both _ _ u.pairs s.sound s.timely in (
          λ h. elim (or_cases _
              _
              (sym (list_any-append _ u.pairs _) ∙ h)) [
                | inl t ↦ any_got u.loads u.moment s.asked number k b l f P closed u.pairs sound t
                | inr t ↦ reached_got u.loads u.moment s.asked number k b l f P closed _ u.pairs sound t
              ],
          λ g. is_reached u.loads u.moment s.asked number k b l f alone g.0 g.2 u.pairs (s.complete g.0 g.1),
        )

-- All bytes of a load. ----

shown_law : (h : Held) (lost : List ℕ) (history : List HistoryEvent) → StandsBut h lost history → (number a b : ℕ) (o : Operation)
    → find (has_number number) (opened_by history).loads ≡ Some o
    → (may_get_at h number a b ≡ true) ↔ MayReturnAsked lost h.image h.rest h.size history number a b
shown_law h lost history s number a b o open_ = elim (s.units (a / h.size)) [
  | inl p ↦ (λ t. inl p.0, λ r. rw p.1 refl)
  | inr p ↦
      let unit = unit_at h.size _ in
      let alone =
      alone_under h.image h.rest unit history _ s.formed p.1.0 p.1.1 number o open_ in
      let u = unit_law h.image h.rest history unit _ p.1.0 number alone _ b in (
        λ t. inr (p.0, u.0 (rw p.1.1 at t)),
        λ r. elim r [ inl y ↦ cc (p.0) | inr g ↦ rw p.1.1 (u.1 g.1) ],
      )
]

returned_law : (h : Held) (lost : List ℕ) (history : List HistoryEvent) → StandsBut h lost history → (number a b : ℕ) (o : Operation)
    → find (has_number number) (opened_by history).loads ≡ Some o
    → (may_return_at h (Some o) number a b ≡ true) ↔ MayReturn lost h.image h.rest h.size history number a b
returned_law h lost history s number a b o open_ =
    let law = shown_law h lost history s number a b o open_ in (
      λ t. elim (or_cases (skips (Some o) a) _ t) [ inl k ↦ inl (rw open_ k) | inr g ↦ inr (law.0 g) ],
      λ r. elim r [ inl k ↦ rw (rw open_ at k) refl | inr g ↦ rw (law.1 g) (or-true (skips (Some o) a)) ],
    )

asks_some : (load : Option Operation) (a : ℕ) → asks load a ≡ true → (o : Operation) × (load ≡ Some o)
asks_some x0 a h = grind arith

-- the answer of a call for one byte, over what is kept and over the history
pub byte_law : {E : Type 0} (r : Result (Option ByteSet) E) (h : Held) (number a : ℕ) → IfOk r (IsByteOf h number a)
    → (lost : List ℕ) (history : List HistoryEvent) → StandsBut h lost history
    → IfOk r (IsSetOf lost h.image h.rest h.size history number a)
byte_law (Err e) h number a p lost history s = tt
byte_law (Ok None) h number a p lost history s = cc (s.opened, p)
byte_law (Ok (Some set)) h number a p lost history s =
    let found = asks_some _ a p.0 in
    let open_ : find _ (opened_by history).loads ≡ Some found.0 = ap (λ o. find (has_number number) o.loads) (sym s.opened) ∙ found.1 in (
      ap (λ o. asks (find (has_number number) o.loads) a) (sym s.opened) ∙ p.0,
      λ b l.
          let same : has set b ≡ may_return_at h (Some found.0) number a b = p.1 b l ∙ ap (λ x. may_return_at h x number a b) found.1 in
          let law = returned_law h lost history s number a b found.0 open_ in (λ t. law.0 (sym same ∙ t), λ m. same ∙ law.1 m),
    )

module _ (h : Held) (load : Option Operation) (number a : ℕ) where
  sets_at : (n from : ℕ) (sets : List ByteSet) → AreSetsFrom h load number a from n sets
      → (i : ℕ) (set : ByteSet) → slice_get sets i ≡ Some set
      → (i < n) × IsSet (may_return_at h load number (address_of a (from + i))) set
  sets_at zero from [] r i set e = let x = e in cc
  sets_at (suc n) from (x ∷ xs) r zero set e = grind arith
  sets_at (suc n) from (x ∷ xs) r (suc i) set e = grind (arith, sets_at n _ xs r.1 i set e)
  sets_at _ from _ r i set e = absurd r

  sets_length : (n from : ℕ) (sets : List ByteSet) → AreSetsFrom h load number a from n sets → length sets ≡ n
  sets_length zero from [] r = refl
  sets_length (suc n) from (x ∷ xs) r = ap suc (sets_length n _ xs r.1)
  sets_length _ from _ r = absurd r

shown_sets : (h : Held) (lost : List ℕ) (history : List HistoryEvent) → StandsBut h lost history → (number : ℕ) (o : Operation)
    → find (has_number number) h.opened.loads ≡ Some o → (sets : List ByteSet) → AreSetsFrom h (Some o) number o.address 0 o.length sets
    → AreSetsOf lost h.image h.rest h.size history number sets
shown_sets h lost history s number o e sets r =
    let found : find _ (opened_by history).loads ≡ Some o = grind arith in
    let end : o.address + o.length ≤ 18446744073709551616 =
    inside_end o.address o.length (found_fit number (opened_by history).loads o (fit_by history s.formed).loads.1 found) in
    record {
      load = o;
      open_ = found;
      length_ = grind (arith, sets_length);
      exact = λ i set get b l.
          let q = sets_at h (Some o) number o.address o.length 0 sets r i set get in
          let inside : i < o.length = q.0 in
          let there : address_of o.address _ ≡ o.address + i = omega arith in
          let same : has set b ≡ may_return_at h (Some o) number _ b = q.1 b l ∙ ap (λ x. may_return_at h (Some o) number x b) there in
          let law = returned_law h lost history s number _ b o found in
          (λ t. law.0 (sym same ∙ t), λ m. same ∙ law.1 m);
    }

-- the answer of a call, over what is kept and over the history
pub may_law : {X E : Type 0} (r : Result X E) (items : X → List ByteSet) (h : Held) (number : ℕ) → IfOk r (λ x. HasSets h number (items x))
    → (lost : List ℕ) (history : List HistoryEvent) → StandsBut h lost history
    → IfOk r (λ x. AreSetsOf lost h.image h.rest h.size history number (items x))
may_law x0 items h number p lost history s = grind (arith, shown_sets)
