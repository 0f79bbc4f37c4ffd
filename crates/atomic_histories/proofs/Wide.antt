-- Where a search would follow more pairs than the limit, the unit may be in as many states that differ.
use Rattle.std.proofs.Common.{◌≡◌, ℕ, zero, suc, ltb-true, ◌/◌, ◌<◌, ◌⊎◌, true, false, nat_lt, List, [], ◌∷◌, map, length, Option, Some}
use Rattle.std.proofs.Common.{None, inl, inr, arith}
use Rattle.std.specs.List.{find}
use Rattle.std.proofs.Math.Nat.{mul-div_cancel}
use Rattle.std.proofs.lemmas.List.{length-map}
use Rattle.std.proofs.lemmas.Bool.{or_cases}
use Rattle.memory_histories.specs.declared.events.HistoryEvent.{HistoryEvent}
use Rattle.memory_histories.specs.declared.events.Rest.{Rest}
use Rattle.atomic_histories.specs.declared.unit.UnitPlace.{UnitPlace}
use Rattle.atomic_histories.specs.declared.unit.WatchedLoad.{WatchedLoad}
use Rattle.atomic_histories.specs.declared.search.TheConstants.{MOST_WORDS}
use Rattle.atomic_histories.specs.Law.{UnitMemory, HiddenStep, MayBe, steps, untouched, unit_at}
use Rattle.atomic_histories.specs.Followed.{Pair, Ways, Aim, never, way_on, next_after, rounds, is_under, is_over, are_too_many, out_after}
use Rattle.atomic_histories.specs.Followed.{needs_more, effect_aim, word_aim, load_needs_more, has_way, needs_too_many, is_too_wide}
use Rattle.atomic_histories.specs.Stands.{Each, IsAsked, AreApart, StandsFor}
use Rattle.atomic_histories.specs.Held.{Held, IsWide, is_over_at, is_lost, StandsBut}
use Rattle.atomic_histories.specs.May.{address_of, is_reach_over, is_reach_wide}
use Rattle.atomic_histories.specs.Wide.{AllDiffer, MayBeMany, UndecidedIsMuch, NoSetsAreMuch}
use Rattle.atomic_histories.proofs.Lists.{each_weaker, each_map, each_filter, each_both}
use Rattle.atomic_histories.proofs.Paths.{some_path}
use Rattle.atomic_histories.proofs.Found.{IsSound, sound_joint, sound_kept, out_sound, next_sound}
use Rattle.atomic_histories.proofs.Answered.{part_sound}
use Rattle.atomic_histories.proofs.Apart.{apart_out, apart_next, gathered_apart, part_keeps}
use Rattle.atomic_histories.proofs.Exact.{SoundOn, state_on}
use Rattle.atomic_histories.proofs.Ranges.{wide_cases}

-- Pairs and states. ----

-- more pairs than the limit, which are apart, and to each of which ways lead whose states have a property
abbrev AreMany : ℕ → (Pair → Type 0) → Type 0
AreMany limit S = (es : List Pair) × (are_too_many limit es ≡ true) × AreApart es × Each S es

module _ (loads : List WatchedLoad) (moment : ℕ) (asked : Each (IsAsked moment) loads) (P : UnitMemory → Type 0)
    (closed : (m n : UnitMemory) → P m → HiddenStep m n → P n) where
  abbrev S : Pair → Type 0
  S = IsSound loads moment asked P

  next_all : (aim : Aim) (es : List Pair) → Each S es → Each S (next_after loads moment aim es)
  next_all aim es a =
      next_sound loads moment asked S (sound_joint loads moment asked P) (sound_kept loads moment asked P closed) aim [] es tt a

  out_all : (aim : Aim) (out es : List Pair) → Each S out → Each S es → Each S (out_after aim.goal out es)
  out_all aim out es a b = out_sound loads moment asked S S (sound_joint loads moment asked P) aim.goal (λ e r y. r) out es a b

  over_many : (limit n : ℕ) (aim : Aim) (out es : List Pair) → AreApart out → AreApart es → Each S out → Each S es
      → is_over limit loads moment n aim out es ≡ true → AreMany limit S
  over_many limit zero aim out es a b s t h = cc
  over_many limit (suc n) aim out es a b s t h =
      elim (or_cases _ _ h) [
        | inl now ↦ elim (or_cases _ _ now) [
          | inl y ↦ (es, y, b, t)
          | inr y ↦ (out, y, a, s)
        ]
        | inr later ↦ over_many limit n aim _ _ (apart_out aim.goal out es a)
            (apart_next loads moment aim [] es tt)
            (out_all aim out es s t)
            (next_all aim es t)
            later
      ]

  pub more_many : (limit : ℕ) (aim : Aim) (out es : List Pair) → AreApart out → Each S out → Each S es
      → needs_more limit loads moment aim out es ≡ true → AreMany limit S
  more_many limit aim out es a s t h = grind (arith, over_many, apart_out, apart_next, out_all, next_all)

  pub reach_many : (limit n : ℕ) (es : List Pair) → Each S es → is_reach_over limit loads moment n es ≡ true → AreMany limit S
  reach_many limit zero es s h = cc
  reach_many limit (suc n) es s h =
      let next = next_after loads moment never es in
      let t = next_all never es s in
      elim (or_cases _ _ h) [
        | inl y ↦ (next, y, apart_next loads moment never [] es tt, t)
        | inr y ↦ reach_many limit n next t y
      ]

  -- a state on a way to a pair
  state_of : Pair → UnitMemory
  state_of e = record {
    word = e.word;
    stores = e.stores;
    loads = (state_on (way_on loads e (some_path e.past).0)).0.loads;
  }

  state_is : (e : Pair) → S e → P (state_of e)
  unfolding state_of
  state_is e s = grind arith

  states_differ : (es : List Pair) → AreApart es → AllDiffer (map state_of es)
  unfolding state_of
  states_differ [] a = tt
  states_differ (e ∷ es) a = (each_map state_of _ es a.0, states_differ es a.1)

  pub many_states : (limit : ℕ) → AreMany limit S
      → (ms : List UnitMemory) × (limit < length ms) × Each P ms × AllDiffer ms
  many_states limit m = grind (arith, length-map, ltb-true, each_map, each_weaker, state_is, states_differ)

-- Units. ----

module _ (image : List ℕ) (rest : Rest) (unit : UnitPlace) (history : List HistoryEvent) (u : Ways)
    (s : StandsFor (untouched image rest unit) unit u history) where
  abbrev Here : UnitMemory → Type 0
  Here = MayBe unit (untouched image rest unit) history

  abbrev Follows : Pair → Type 0
  Follows = IsSound u.loads u.moment s.asked Here

  here_closed : (m n : UnitMemory) → Here m → HiddenStep m n → Here n
  here_closed m n r step = steps history m n r step

  all_sound : Each Follows u.pairs
  all_sound = grind (arith, each_both)

  store_much : (limit number : ℕ) → needs_more limit u.loads u.moment (effect_aim number) [] u.pairs ≡ true
      → MayBeMany limit image rest unit history
  store_much limit number h =
      many_states u.loads u.moment s.asked Here here_closed limit
      (more_many u.loads u.moment s.asked Here here_closed limit (effect_aim number) [] u.pairs tt tt all_sound h)

  load_much : (limit number : ℕ) (bytes : List ℕ) (load : Option WatchedLoad) → find (is_under number) u.loads ≡ load
      → load_needs_more limit unit bytes load u ≡ true → MayBeMany limit image rest unit history
  load_much limit number bytes None open_ h = cc
  load_much limit number bytes (Some l) open_ h =
      let aim = word_aim unit l.address bytes in
      many_states u.loads u.moment s.asked Here here_closed limit
      (more_many u.loads u.moment s.asked Here here_closed limit aim _ _
      (gathered_apart _ (part_keeps true unit bytes l) u.pairs s.apart)
      (part_sound u.loads u.moment s.asked unit number bytes l open_ true (SoundOn Here) (SoundOn Here) (λ e path y k. k) u.pairs all_sound)
      (each_filter Follows aim.hope _
      (part_sound u.loads u.moment s.asked unit number bytes l open_ false (SoundOn Here) (SoundOn Here) (λ e path y k. k) u.pairs
      all_sound)) h)

  pub much_at : (limit : ℕ) (event : HistoryEvent) → needs_too_many limit unit u event ≡ true → MayBeMany limit image rest unit history
  much_at limit x1 t = grind (arith, load_much, store_much)

  pub reach_much : (limit : ℕ) → is_reach_over limit u.loads u.moment (rounds u.pairs) u.pairs ≡ true
      → MayBeMany limit image rest unit history
  reach_much limit h =
      many_states u.loads u.moment s.asked Here here_closed limit
      (reach_many u.loads u.moment s.asked Here here_closed limit (rounds u.pairs) u.pairs all_sound h)

few : (limit : ℕ) → nat_lt limit 0 ≡ false
few limit = grind arith

no_load : (limit : ℕ) (unit : UnitPlace) (bytes : List ℕ) (load : Option WatchedLoad) (loads : List WatchedLoad) (moment : ℕ)
    (es : List Pair)
    → es ≡ [] → load_needs_more limit unit bytes load (record { loads = loads; moment = moment; pairs = es }) ≡ false
no_load limit unit bytes x3 loads moment es h = grind arith

no_store : (limit number : ℕ) (loads : List WatchedLoad) (moment : ℕ) (es : List Pair) → es ≡ []
    → needs_more limit loads moment (effect_aim number) [] es ≡ false
no_store limit number loads moment es h = grind arith

-- a forgotten unit has no way, so it needs too much for no event
no_way_wide : (limit : ℕ) (unit : UnitPlace) (words : ℕ) (u : Ways) (event : HistoryEvent) → has_way u ≡ false
    → is_too_wide limit unit words u event ≡ false
no_way_wide limit unit words u x4 h = grind arith

-- All units. ----

module _ (limit : ℕ) (h : Held) (lost : List ℕ) (history : List HistoryEvent) (s : StandsBut h lost history) where
  abbrev Much : ℕ → Type 0
  Much k = (MOST_WORDS < h.words k) ⊎ MayBeMany limit h.image h.rest (unit_at h.size k) history

  by_event : (k : ℕ) (event : HistoryEvent) → is_over_at limit h event k ≡ true → MayBeMany limit h.image h.rest (unit_at h.size k) history
  by_event k event t = elim (s.units k) [
    | inl a ↦ grind arith
    | inr a ↦ much_at h.image h.rest _ history _ a.1.0 limit event t
  ]

  by_reach : (k : ℕ) → is_reach_wide limit (h.units k) ≡ true → MayBeMany limit h.image h.rest (unit_at h.size k) history
  by_reach k t = elim (s.units k) [
    | inl a ↦ grind arith
    | inr a ↦ reach_much h.image h.rest _ history _ a.1.0 limit t
  ]

  wide_much : (k : ℕ) (event : HistoryEvent) → is_too_wide limit (unit_at h.size k) (h.words k) (h.units k) event ≡ true → Much k
  wide_much k event t = grind (arith, wide_cases, by_event)

module _ (limit : ℕ) (h : Held) (lost : List ℕ) (history : List HistoryEvent) where
  -- the unit for whose sake an event is undecided was not forgotten
  pub wide_kept : (event : HistoryEvent) (address : ℕ)
      → StandsBut h lost history → IsWide limit h event address → is_lost (address / h.size) lost ≡ false
  wide_kept event address s w = grind (arith, h.size, mul-div_cancel, s.sized, s.units, no_way_wide, h.words, h.units)

  pub undecided_much : (event : HistoryEvent) (address : ℕ)
      → UndecidedIsMuch limit h lost history event address
  undecided_much event address s formed w =
      (w.0, w.3, wide_much limit h lost history s w.0 event w.4)

  pub no_sets_much : (a n address : ℕ)
      → NoSetsAreMuch limit h lost history a n address
  no_sets_much a n address s w =
      (address_of a w.0 / h.size, w.2.0, by_reach limit h lost history s _ w.2.1)
