-- The ways that are followed are exact: after each event they lead to what the unit may be, and to nothing else.
use Rattle.std.proofs.lemmas.Option.{same_Some}
use Rattle.std.proofs.Common.{◌≡◌, ℕ, suc, ◌+◌, ◌≤◌, true, false, List, [], ◌∷◌, ◌++◌, map, Option, Some, None, ◌∙◌, fold, append_assoc}
use Rattle.std.proofs.Common.{append-nil, inl, inr, refl, sym, subst, arith}
use Rattle.std.specs.List.{find}
use Rattle.std.proofs.lemmas.Bool.{or_left, cond_both}
use Rattle.std.proofs.lemmas.List.{map-append, same_from_push}
use Rattle.memory_histories.specs.declared.events.HistoryEvent.{HistoryEvent}
use Rattle.memory_histories.specs.declared.events.HistoryEvent.TheVariants.{LoadRequest, LoadResponse, StoreRequest, StoreResponse}
use Rattle.memory_histories.specs.declared.events.Rest.{Rest}
use Rattle.atomic_histories.specs.declared.unit.UnitPlace.{UnitPlace}
use Rattle.atomic_histories.specs.declared.unit.LoadAddress.{LoadAddress}
use Rattle.atomic_histories.specs.declared.unit.WatchedLoad.{WatchedLoad}
use Rattle.atomic_histories.specs.Words.{at_unit, stored_byte, reads_from}
use Rattle.atomic_histories.specs.Law.{OpenLoad, UnitMemory, HiddenStep, MayBe, starts, steps, sees, untouched, seen, with_load, with_store}
use Rattle.atomic_histories.specs.Law.{without_load, without_store, may_answer_load, may_answer_store}
use Rattle.atomic_histories.specs.Pasts.{Stood}
use Rattle.atomic_histories.specs.Branches.{Watched, Branch, has_answer, branch_with_load}
use Rattle.atomic_histories.specs.Followed.{Pair, Ways, first_ways, way_on, rounds, effect_aim, word_aim, is_under, is_first, pair_got}
use Rattle.atomic_histories.specs.Followed.{pair_missed, gathered, with_hope, answered_load, answered_store, ways_with_load}
use Rattle.atomic_histories.specs.Followed.{ways_with_store, ways_without_load, ways_without_store, ways_after, loads_without}
use Rattle.atomic_histories.specs.Stands.{Each, One, EachWay, OneWay, IsAsked, IsPairBy, AreWatched, IsOn, Leads, now, StandsFor}
use Rattle.atomic_histories.proofs.Lists.{one_weaker, one_map, each_weaker, each_map, each_both, each_append, each_filter, one_two, no_snoc}
use Rattle.atomic_histories.proofs.Links.{some_if, then_some, IsAlone}
use Rattle.atomic_histories.proofs.Apart.{event_shaped}
use Rattle.atomic_histories.proofs.Events.{leads_on, leads_with_load, sound_with_load, leads_with_store, sound_with_store}
use Rattle.atomic_histories.proofs.Events.{leads_without_store, sound_without_store}
use Rattle.atomic_histories.proofs.Paths.{some_path, by_weaker, path_by, seen_none}
use Rattle.atomic_histories.proofs.Found.{IsJoint, IsSound, IsFor, sound_joint, sound_kept, each_joint, by_joint, met_sound, found_complete}
use Rattle.atomic_histories.proofs.Answered.{sound_without_load, leads_without_load, answers_none, answers, part_sound, is_for}
use Rattle.atomic_histories.proofs.Answered.{split_complete, way_without, each_cut, one_cut, left_asked, moment_asked}

-- the states on a way have a property
abbrev pub SoundOn : (UnitMemory → Type 0) → Branch → Type 0
SoundOn P b = (m : UnitMemory) → IsOn b m → P m

abbrev IsClosed : (UnitMemory → Type 0) → Type 0
IsClosed P = (m n : UnitMemory) → P m → HiddenStep m n → P n

-- what holds of each of the ways to a pair, on which nothing was overwritten behind now
abbrev Sounds : (Branch → Type 0) → Ways → Pair → Type 0
Sounds S u e = EachWay u.loads S e × IsPairBy u.moment e

-- the states that the ways lead to have a property
pub record Fits (P : UnitMemory → Type 0) (u : Ways) : Type 0 where
  pub asked : Each (IsAsked u.moment) u.loads
  pub sound : Each (Sounds (SoundOn P) u) u.pairs

-- one of the ways leads to a state
abbrev pub LeadsTo : Ways → UnitMemory → Type 0
LeadsTo u m = One (OneWay u.loads (λ b. Leads b m)) u.pairs

-- A load is requested. ----

new_load : ℕ → LoadAddress → ℕ → WatchedLoad
new_load number address n = record { number = number; address = address; since = n + 1 }

way_requested : (number : ℕ) (address : LoadAddress) (n : ℕ) (ls : List WatchedLoad) (e : Pair) (path : List Stood)
    → Each (λ s. s.moment ≤ n) path
    → way_on (ls ++ new_load number address n ∷ []) e path ≡ branch_with_load number address (way_on ls e path)
unfolding new_load
way_requested number address n ls e path by = grind (arith, seen_none, map-append)

requested_load_fits : (number : ℕ) (address : LoadAddress) (P Q : UnitMemory → Type 0) → IsClosed Q
    → ((m : UnitMemory) → P m → Q (with_load number address m))
    → (u : Ways) → Fits P u → Fits Q (ways_with_load number address u)
unfolding new_load
requested_load_fits number address P Q closed f u s =
    record {
      asked = grind (arith, each_append, each_weaker);
      sound = each_weaker _ _ (λ e h. (
        λ path has.
            subst (SoundOn Q) (sym (way_requested number address u.moment u.loads e path (path_by u.moment e.past path h.1 has)))
            (λ m o. sound_with_load number address P Q closed f _ (h.0 path has) m o),
        by_weaker u.moment _ (omega arith) e.past h.1,
      )) u.pairs s.sound;
    }

requested_load_leads : (number : ℕ) (address : LoadAddress) (m : UnitMemory) (u : Ways) → Each (IsPairBy u.moment) u.pairs → LeadsTo u m
    → LeadsTo (ways_with_load number address u) (with_load number address m)
unfolding new_load
requested_load_leads number address m u by o =
    one_two (OneWay u.loads (λ b. Leads b m)) _ (OneWay _ (λ b. Leads b (with_load number address m)))
    (λ e p a. (
      p.0,
      p.1,
      subst (λ b. Leads b (with_load number address m)) (sym (way_requested number address u.moment u.loads e p.0
          (path_by u.moment e.past p.0 a p.1))) (leads_with_load number address _ m p.2),
    )) u.pairs o by

-- A store is requested. ----

requested_store_fits : (number : ℕ) (bytes : List (Option ℕ)) (P Q : UnitMemory → Type 0)
    → ((m : UnitMemory) → P m → Q (with_store number bytes m)) → (u : Ways) → Fits P u → Fits Q (ways_with_store number bytes u)
requested_store_fits number bytes P Q f u s = record {
  asked = s.asked;
  sound = each_map _ _ u.pairs (each_weaker _ (λ e. EachWay u.loads (SoundOn Q) _ × IsPairBy u.moment e)
      (λ e h. (λ path has m o. sound_with_store number bytes P Q f _ (h.0 path has) m o, h.1)) u.pairs s.sound);
}

requested_store_leads : (number : ℕ) (bytes : List (Option ℕ)) (m : UnitMemory) (u : Ways) → LeadsTo u m
    → LeadsTo (ways_with_store number bytes u) (with_store number bytes m)
requested_store_leads number bytes m u o = grind (arith, one_map, one_weaker, leads_with_store)

-- A store is answered. ----

-- it has taken effect at a pair
abbrev HasTaken : ℕ → Pair → Type 0
HasTaken number e = may_answer_store number e.stores ≡ true

taken_joint : (number : ℕ) → IsJoint (HasTaken number)
taken_joint number f e h a b = a

answered_store_fits : (number : ℕ) (P Q : UnitMemory → Type 0) → IsClosed P
    → ((m : UnitMemory) → P m → may_answer_store number m.stores ≡ true → Q (without_store number m))
    → (u : Ways) → Fits P u → Fits Q (ways_without_store number u (answered_store number u))
answered_store_fits number P Q closed f u s =
    let S : Pair → Type 0 = IsSound u.loads u.moment s.asked P in
    let R : Pair → Type 0 = λ e. S e × HasTaken number e in
    let joint = sound_joint u.loads u.moment s.asked P in
    let both : IsJoint R = grind arith in
    let there =
    met_sound u.loads u.moment s.asked S R joint both (sound_kept u.loads u.moment s.asked P closed) (suc (rounds u.pairs))
    _ (λ e a t. (a, t)) [] u.pairs tt
    s.sound in
    record {
      asked = s.asked;
      sound = each_map _ _ _ (each_weaker R (λ e. EachWay u.loads (SoundOn Q) _ × IsPairBy u.moment e)
          (λ e r. (λ path has m o. sound_without_store number P Q f _ r.1 (r.0.0 path has) m o, r.0.1)) _ there);
    }

-- it says nothing of a way
abbrev Anything : Branch → Type 0
Anything b = Unit {0}

effect_is_for : (loads : List WatchedLoad) (moment : ℕ) (asked : Each (IsAsked moment) loads) (number : ℕ) (m : UnitMemory)
    → may_answer_store number m.stores ≡ true → IsFor loads moment asked m Anything (effect_aim number)
effect_is_for loads moment asked number m may = grind arith

-- of those that are found each has what the goal says
answered_store_leads : (number : ℕ) (m : UnitMemory) → may_answer_store number m.stores ≡ true → (u : Ways)
    → Each (IsAsked u.moment) u.loads → Each (IsPairBy u.moment) u.pairs → LeadsTo u m
    → LeadsTo (ways_without_store number u (answered_store number u)) (without_store number m)
answered_store_leads number m may u asked by o =
    let Any : Pair → Type 0 = λ e. Unit {0} in
    let all =
    met_sound u.loads u.moment asked Any _ (λ f e h a b. tt) (taken_joint number) (λ e before s after a split open_. tt)
    (suc (rounds u.pairs)) _ (λ e a t. t) [] u.pairs tt (each_weaker _ Any (λ e a. tt) u.pairs by) in
    let late =
    one_weaker (OneWay u.loads (λ b. Leads b m)) (OneWay u.loads (λ b. Leads b m × Anything b)) (λ e p. (p.0, p.1, (p.2, tt))) u.pairs o in
    let there =
    found_complete u.loads u.moment asked m Anything _ (effect_is_for u.loads u.moment asked number m may) [] u.pairs
    (inr late) in
    one_map _ (OneWay u.loads (λ b. Leads b (without_store number m))) _
    (one_two (OneWay u.loads (λ b. Leads b m)) _ (λ e. OneWay u.loads (λ b. Leads b (without_store number m)) _)
    (λ e p t. (p.0, p.1, leads_without_store number _ m t p.2)) _ there all)

-- A load is answered. ----

-- the states on the ways on which it may have got its answer
abbrev Right : UnitPlace → ℕ → List ℕ → (UnitMemory → Type 0) → Branch → Type 0
Right unit number bytes P b = SoundOn P b × (has_answer unit number bytes b ≡ true)

answered_load_right : (unit : UnitPlace) (number : ℕ) (bytes : List ℕ) (P : UnitMemory → Type 0) → IsClosed P → (u : Ways) → Fits P u
    → IsAlone (is_under number) u.loads → (load : Option WatchedLoad) → find (is_under number) u.loads ≡ load
    → Each (Sounds (Right unit number bytes P) u) (answered_load unit bytes load u)
answered_load_right unit number bytes P closed u s alone None h = grind (arith, each_weaker, answers_none)
answered_load_right unit number bytes P closed u s alone (Some l) h =
    let S = IsSound u.loads u.moment s.asked P in
    let R = Sounds (Right unit number bytes P) u in
    let aim = word_aim unit l.address bytes in
    let joint : IsJoint R = λ g e i a b. (each_joint u.loads (Right unit number bytes P) g e i a.0 b.0, by_joint u.moment g e i a.1 b.1) in
    let missed = gathered _ u.pairs in
    let answer = answers u.loads u.moment s.asked unit number bytes l h alone in
    met_sound u.loads u.moment s.asked S R (sound_joint u.loads u.moment s.asked P) joint (sound_kept u.loads u.moment s.asked P closed)
    (suc (rounds (with_hope aim missed)))
    aim (λ e a t. (λ path has. (a.0 path has, answer e path (or_left _ _ t)), a.1)) _
    _ (part_sound u.loads u.moment s.asked unit number bytes l h true (SoundOn P) (Right unit number bytes P)
    (λ e path y k. (k, answer e path y)) u.pairs s.sound)
    (each_filter S aim.hope missed
    (part_sound u.loads u.moment s.asked unit number bytes l h false (SoundOn P) (SoundOn P) (λ e path y k. k) u.pairs s.sound))

answered_load_fits : (unit : UnitPlace) (number : ℕ) (bytes : List ℕ) (P Q : UnitMemory → Type 0) → IsClosed P
    → ((m : UnitMemory) → P m → may_answer_load unit number bytes m.loads ≡ true → Q (without_load number m))
    → (u : Ways) → Fits P u → IsAlone (is_under number) u.loads
    → Fits Q (ways_without_load number u (answered_load unit bytes (find (is_under number) u.loads) u))
answered_load_fits unit number bytes P Q closed f u s alone =
    let out = answered_load unit bytes _ u in
    let left = loads_without number u.loads in
    let R = Sounds (Right unit number bytes P) u in
    let there = answered_load_right unit number bytes P closed u s alone _ refl in
    record {
      asked = grind (arith, moment_asked, left_asked);
      sound = each_cut _ u.moment left (SoundOn Q) out (each_weaker R (λ e. EachWay left (SoundOn Q) e × IsPairBy u.moment e)
          (λ e r. (
            λ path has. subst (SoundOn Q) (sym (way_without number u.loads e path))
                (λ m o. let g = r.0 path has in sound_without_load unit number bytes P Q f _ g.1 g.0 m o),
            r.1,
          )) out there);
    }

answered_load_leads : (unit : UnitPlace) (number : ℕ) (bytes : List ℕ) (m : UnitMemory) → may_answer_load unit number bytes m.loads ≡ true
    → (u : Ways) → Each (IsAsked u.moment) u.loads → LeadsTo u m
    → LeadsTo (ways_without_load number u (answered_load unit bytes (find (is_under number) u.loads) u)) (without_load number m)
answered_load_leads unit number bytes m may u asked o =
    let out = answered_load unit bytes _ u in
    let left = loads_without number u.loads in
    one_cut left (λ b. Leads b (without_load number m)) (is_first number u.loads) out
    (one_weaker (OneWay u.loads (λ b. Leads b m)) (OneWay left (λ b. Leads b (without_load number m)))
    (λ e p. (
      p.0,
      p.1,
      subst (λ b. Leads b (without_load number m)) (sym (way_without number u.loads e p.0))
          (leads_without_load number p.2),
    )) out (finds (find (is_under number) u.loads) refl))
  where
    finds : (load : Option WatchedLoad) → find (is_under number) u.loads ≡ load
        → One (OneWay u.loads (λ b. Leads b m)) (answered_load unit bytes load u)
    finds None h = o
    finds (Some l) h =
        let aim = word_aim unit l.address bytes in
        found_complete u.loads u.moment asked m _ aim (is_for u.loads u.moment asked unit number bytes l h m may)
        (gathered (pair_got unit bytes l) u.pairs) (with_hope aim (gathered (pair_missed unit bytes l) u.pairs))
        (split_complete u.loads u.moment asked unit number bytes l h m may u.pairs o)

-- Events. ----

-- a load that is answered is the only one under its number
abbrev pub IsAloneFor : Ways → HistoryEvent → Type 0
IsAloneFor u (LoadResponse number bytes) = IsAlone (is_under number) u.loads
IsAloneFor u event = Unit {0}

-- where nothing changes
fits_still : (P Q : UnitMemory → Type 0) → ((m : UnitMemory) → P m → Q m) → (u : Ways) → Fits P u → Fits Q u
fits_still P Q f u s = record {
  asked = s.asked;
  sound = grind (arith, each_weaker);
}

pub event_fits : (unit : UnitPlace) (P Q : UnitMemory → Type 0) → IsClosed P → IsClosed Q → (event : HistoryEvent)
    → ((m n : UnitMemory) → P m → seen unit m event ≡ Some n → Q n)
    → (u : Ways) → IsAloneFor u event → Fits P u → Fits Q (ways_after unit u event)
event_fits unit P Q closed_p closed_q (LoadRequest number address n enables) f u alone s =
    cond_both _ _ _ (Fits Q) (λ t. requested_load_fits number (reads_from address enables) P Q closed_q (λ m p. f m _ p (rw t refl)) u s)
    (λ e. fits_still P Q (λ m p. f m m p (rw e refl)) u s)
event_fits unit P Q closed_p closed_q (LoadResponse number bytes) f u alone s =
    answered_load_fits unit number bytes.now P Q closed_p (λ m p g. f m _ p (then_some _ _ g)) u s alone
event_fits unit P Q closed_p closed_q (StoreRequest number address bytes enables) f u alone s =
    cond_both _ _ _ (Fits Q) (λ t. requested_store_fits number (at_unit unit (stored_byte address bytes.now enables)) P Q
    (λ m p. f m _ p (rw t refl)) u s)
    (λ e. fits_still P Q (λ m p. f m m p (rw e refl)) u s)
event_fits unit P Q closed_p closed_q (StoreResponse number) f u alone s =
    answered_store_fits number P Q closed_p (λ m p g. f m _ p (then_some _ _ g)) u s

pub event_leads : (unit : UnitPlace) (event : HistoryEvent) (m n : UnitMemory) → seen unit m event ≡ Some n → (u : Ways)
    → Each (IsAsked u.moment) u.loads → Each (IsPairBy u.moment) u.pairs → LeadsTo u m → LeadsTo (ways_after unit u event) n
event_leads unit (LoadRequest number address k enables) m n h u asked by o =
    cond_both _ _ _ (λ v. LeadsTo v n)
    (λ t. subst (LeadsTo (ways_with_load number (reads_from address enables) u)) (same_Some _ n (rw t at h))
    (requested_load_leads number (reads_from address enables) m u by o))
    (λ e. subst (LeadsTo u) (same_Some m n (rw e at h)) o)
event_leads unit (LoadResponse number bytes) m n h u asked by o = grind (arith, some_if, answered_load_leads, asked)
event_leads unit (StoreRequest number address bytes enables) m n h u asked by o =
    let stored = at_unit unit (stored_byte address bytes.now enables) in
    cond_both _ _ _ (λ v. LeadsTo v n)
    (λ t. subst (LeadsTo (ways_with_store number stored u)) (same_Some _ n (rw t at h)) (requested_store_leads number stored m u o))
    (λ e. subst (LeadsTo u) (same_Some m n (rw e at h)) o)
event_leads unit (StoreResponse number) m n h u asked by o = grind (arith, some_if, answered_store_leads, asked)

-- Histories. ----

-- a step on one of the ways
one_step : (u : Ways) (m n : UnitMemory) → HiddenStep m n → LeadsTo u m → LeadsTo u n
one_step u m n step o = grind (arith, one_weaker, leads_on)

first_complete : (image : List ℕ) (rest : Rest) (unit : UnitPlace) (xs : List HistoryEvent) (m : UnitMemory)
    → MayBe unit (untouched image rest unit) xs m → xs ≡ [] → LeadsTo (first_ways image rest unit) m
first_complete image rest unit xs m starts h = inl ([], refl, now (record { word = refl; stores = refl; loads = tt }))
first_complete image rest unit xs m (steps hs k n r step) h =
    one_step (first_ways image rest unit) k n step (first_complete image rest unit hs k r h)
first_complete image rest unit xs m (sees hs event k n r e) h = absurd (no_snoc hs event h)

-- what holds behind the last event, and stays when there are hidden steps
pub last_seen : (start : UnitMemory) (unit : UnitPlace) (history : List HistoryEvent) (event : HistoryEvent) (Q : UnitMemory → Type 0)
    → IsClosed Q → ((m n : UnitMemory) → MayBe unit start history m → seen unit m event ≡ Some n → Q n)
    → (xs : List HistoryEvent) (m : UnitMemory) → MayBe unit start xs m → xs ≡ history ++ event ∷ [] → Q m
last_seen start unit history event Q closed next xs m starts h = absurd (no_snoc history event (sym h))
last_seen start unit history event Q closed next xs m (steps hs k n r step) h =
    closed k n (last_seen start unit history event Q closed next hs k r h) step
last_seen start unit history event Q closed next xs m (sees hs last k n r e) h = grind (arith, same_from_push)

pub stands_first : (image : List ℕ) (rest : Rest) (unit : UnitPlace)
    → StandsFor (untouched image rest unit) unit (first_ways image rest unit) []
stands_first image rest unit =
    let start : UnitMemory = untouched image rest unit in
    record {
      asked = tt;
      timely = (tt, tt);
      apart = (tt, tt);
      alike = ([], (refl, tt));
      sound = (
        λ path has m o. (let same : start ≡ m = grind arith in subst
            (λ x. MayBe unit start [] x) same starts),
        tt,
      );
      complete = λ m r. first_complete image rest unit [] m r refl;
    }

module _ (start : UnitMemory) (unit : UnitPlace) (u : Ways) (history : List HistoryEvent) (event : HistoryEvent) where
  pub stands_after : IsAloneFor u event → StandsFor start unit u history
      → StandsFor start unit (ways_after unit u event) (history ++ event ∷ [])
  stands_after alone s =
      let P : UnitMemory → Type 0 = MayBe unit start history in
      let Q = MayBe unit start _ in
      let fits : Fits P u = record { asked = s.asked; sound = each_both _ _ u.pairs s.sound s.timely } in
      let next =
      event_fits unit P Q (λ m n r step. steps history m n r step) (λ m n r step. steps _ m n r step) event
      (λ m n r e. sees history event m n r e) u alone fits in
      let shape = event_shaped unit event u s.asked (record { apart = s.apart; alike = s.alike }) in
      record {
        asked = next.asked;
        timely = grind (arith, each_weaker);
        apart = shape.apart;
        alike = shape.alike;
        sound = grind (arith, each_weaker);
        complete = λ m r. last_seen start unit history event _ (λ k n o step. one_step (ways_after unit u event) k n step o)
            (λ k n there e. event_leads unit event k n e u s.asked s.timely (s.complete k there)) _ m r refl;
      }

  -- an event that changes nothing at the unit
  pub stands_passed : ((m : UnitMemory) → MayBe unit start history m → seen unit m event ≡ Some m) → StandsFor start unit u history
      → StandsFor start unit u (history ++ event ∷ [])
  stands_passed pass s = record {
    asked = s.asked;
    timely = s.timely;
    apart = s.apart;
    alike = s.alike;
    sound = each_weaker _
        _
        (λ e f path has m o. sees history event m m (f path has m o) (pass m (f path has m o))) u.pairs s.sound;
    complete = λ m r. last_seen start unit history event (LeadsTo u) (λ k n o step. one_step u k n step o)
        (λ k n there e. subst (LeadsTo u) (same_Some k n (sym (pass k there) ∙ e)) (s.complete k there)) _ m r refl;
  }

-- The verdict. ----

abbrev pub not_yet : Watched → OpenLoad
not_yet l = record { number = l.number; address = l.address; got = None }

pub watched_not_yet : (w : List (Option ℕ)) (ls : List Watched) → AreWatched w ls (map not_yet ls)
watched_not_yet w [] = tt
watched_not_yet w (l ∷ ls) = ((refl, refl, tt), watched_not_yet w ls)

-- a state on a way
pub state_on : (b : Branch) → (m : UnitMemory) × IsOn b m
state_on b =
    let m : UnitMemory = record { word = b.word; stores = b.stores; loads = map not_yet b.loads } in
    (m, record { word = refl; stores = refl; loads = watched_not_yet b.word b.loads })

-- there is one where ways are left, on a way to the first pair
pub some_state : (start : UnitMemory) (unit : UnitPlace) (u : Ways) (e : Pair) (es : List Pair) → u.pairs ≡ e ∷ es
    → (history : List HistoryEvent) → StandsFor start unit u history
    → (path : List Stood) × (m : UnitMemory) × IsOn (way_on u.loads e path) m × MayBe unit start history m
some_state start unit u e es is history s =
    let sound =
    subst (Each (EachWay u.loads (SoundOn (MayBe unit start history)))) is s.sound in
    let p = some_path e.past in
    let r = state_on _ in
    (p.0, r.0, r.1, sound.0 p.0 p.1 r.0 r.1)

-- Whole histories. ----

abbrev pub AlwaysAlone : UnitPlace → Ways → List HistoryEvent → Type 0
AlwaysAlone unit u [] = Unit {0}
AlwaysAlone unit u (event ∷ events) = IsAloneFor u event × AlwaysAlone unit (ways_after unit u event) events

stands_from : (start : UnitMemory) (unit : UnitPlace) (u : Ways) (past future : List HistoryEvent) → AlwaysAlone unit u future
    → StandsFor start unit u past
    → StandsFor start unit (fold (ways_after unit) u future) (past ++ future)
stands_from start unit u past [] a s = grind (arith, append-nil)
stands_from start unit u past (event ∷ events) a s =
    grind (
      arith,
      stands_from start unit (ways_after unit u event) _ events a.1 (stands_after start unit u past event a.0 s),
      append_assoc,
      stands_after,
    )

pub stands_by : (image : List ℕ) (rest : Rest) (unit : UnitPlace) (history : List HistoryEvent)
    → AlwaysAlone unit (first_ways image rest unit) history
    → StandsFor (untouched image rest unit) unit (fold (ways_after unit) (first_ways image rest unit) history) history
stands_by image rest unit history a =
    stands_from _ unit _ [] history a (stands_first image rest unit)
