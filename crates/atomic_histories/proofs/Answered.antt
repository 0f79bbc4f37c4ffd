-- A load is answered: the ways on which it may have got its answer, and those on which that may still come.
use Rattle.memory_histories.proofs.Lists.{filter-map, find-map, list_any-map}
use Rattle.std.proofs.Common.{◌≡◌, ℕ, Bool, true, false, ◌||◌, not, ◌==◌, List, [], ◌∷◌, map, filter, Option, Some, None, inl, inr, refl}
use Rattle.std.proofs.Common.{sym, ap, ◌∙◌, subst, zero, suc, ◌+◌, ◌⊎◌, ◌&&◌, ◌++◌, get_or, arith, nat_le, if◌then◌else◌}
use Rattle.std.specs.List.{list_all, list_any, find, range_with_len}
use Rattle.std.proofs.lemmas.Bool.{cases_Bool, and_parts, and_from, or_right, or_left, or_cases, or_parts}
use Rattle.atomic_histories.specs.declared.unit.UnitPlace.{UnitPlace}
use Rattle.atomic_histories.specs.declared.unit.LoadAddress.{LoadAddress}
use Rattle.atomic_histories.specs.Words.{is_word_of, read_byte, written, is_as_it_stood}
use Rattle.atomic_histories.specs.Law.{OpenLoad, UnitMemory, is_load, is_got, may_answer_load, without_load, done_store}
use Rattle.atomic_histories.specs.Branches.{Watched, Branch, with_word, is_watched, may_have, has_answer, branch_without_load, effect_of}
use Rattle.atomic_histories.specs.Branches.{gives, may_come_in, may_come}
use Rattle.atomic_histories.specs.Stands.{One, MayHaveGot, AreWatched, IsOn, Leads, now, later, Each, EachWay, OneWay, IsAsked, IsPairBy}
use Rattle.std.proofs.lemmas.List.Folds.{list_any-append, list_all-map}
use Rattle.atomic_histories.specs.declared.unit.OpenStore.{OpenStore}
use Rattle.atomic_histories.proofs.Lanes.{word_lane, none_asked}
use Rattle.atomic_histories.proofs.Lists.{always_all, find_each, all_each, one_weaker, one_map, one_or, one_filter, each_weaker, each_map}
use Rattle.atomic_histories.proofs.Lists.{all_weaker, each_filter, find_none}
use Rattle.std.specs.Option.{option_map}
use Rattle.atomic_histories.proofs.Links.{IsAlone, found_each, pass}
use Rattle.std.proofs.lemmas.Option.{same_Some}
use Rattle.atomic_histories.specs.declared.unit.WatchedLoad.{WatchedLoad}
use Rattle.atomic_histories.specs.Pasts.{Past, Stood, Has, IsBy, oldest, cut_for, seen_since}
use Rattle.atomic_histories.specs.Followed.{Pair, Aim, watched, way_on, word_aim, is_under, is_answer, pair_on, pair_got, pair_missed}
use Rattle.atomic_histories.specs.Followed.{gathered, with_hope, pair_cut, moment_with, loads_without}
use Rattle.atomic_histories.proofs.Paths.{HasAny, part, part_has, has_part, cut_path, cut_has, has_cut, path_by, by_paths, by_cut}
use Rattle.atomic_histories.proofs.Paths.{watched_cut, oldest_none, oldest_first, some_path}
use Rattle.atomic_histories.proofs.Apart.{gathered_each, gathered_one, pair_part}
use Rattle.atomic_histories.proofs.Found.{IsFor}

abbrev Word : Type 0
Word = List (Option ℕ)

abbrev pub stays : ℕ → Watched → Bool
stays number l = not (is_watched number l)

abbrev pub keeps : ℕ → OpenLoad → Bool
keeps number m = not (is_load number m)

watched_filter : (number : ℕ) (w : Word) (ls : List Watched) (ms : List OpenLoad) → AreWatched w ls ms
    → AreWatched w (filter (stays number) ls) (filter (keeps number) ms)
watched_filter number w [] [] h = tt
watched_filter number w (l ∷ ls) (m ∷ ms) h = grind (arith, watched_filter number w ls ms h.1)
watched_filter number w _ _ h = absurd h

pub leads_without_load : (number : ℕ) {e : Branch} {m : UnitMemory} → Leads e m
    → Leads (branch_without_load number e) (without_load number m)
leads_without_load number {e} {m} (now o) = grind (arith, now, watched_filter)
leads_without_load number {e} {m} (later before s after split open_ r) =
    later before s after split open_
    (rw (filter-map _ _ e.loads) at (leads_without_load number r))

-- What the load may have got. ----

pub any_found : {X : Type 0} (p : X → Bool) (xs : List X) → list_any p xs ≡ true → (v : X) × (p v ≡ true) × One (λ y. v ≡ y) xs
any_found p [] h = cc
any_found p (x ∷ xs) h = elim (cases_Bool (p x)) [
  | inl t ↦ (x, t, inl refl)
  | inr f ↦ let r = any_found p xs (rw f at h) in (r.0, r.1, inr r.2)
]

pub any_true : (p : Word → Bool) (v : Word) (xs : List Word) → p v ≡ true → One (λ y. v ≡ y) xs → list_any p xs ≡ true
any_true p v [] t h = absurd h
any_true p v (x ∷ xs) t (inl e) = or_left (p x) _ (ap p (sym e) ∙ t)
any_true p v (x ∷ xs) t (inr h) = or_right (p x) _ (any_true p v xs t h)

module _ (unit : UnitPlace) (bytes : List ℕ) (e : Branch) (l : Watched) where
  -- a word that a load may have got, with the bytes of its answer
  have_word : may_have unit bytes e l ≡ true
      → (v : Word) × (is_word_of unit.first v l.address bytes ≡ true) × MayHaveGot e.word l.words (Some v)
  have_word h = grind (arith, any_found)

  got_have : (g : Option Word) → is_got unit l.address bytes g ≡ true
      → MayHaveGot e.word l.words g → may_have unit bytes e l ≡ true
  got_have None t h = cc
  got_have (Some v) t (inl same) = grind arith
  got_have (Some v) t (inr past) =
      or_right _ _
      (any_true (λ w. is_word_of unit.first w l.address bytes) v l.words t past)

-- whether one load stands in the way of an answer
abbrev law : UnitPlace → ℕ → List ℕ → OpenLoad → Bool
law unit number bytes m = not (is_load number m) || is_got unit m.address bytes m.got

abbrev judge : UnitPlace → ℕ → List ℕ → Branch → Watched → Bool
judge unit number bytes e l = not (is_watched number l) || may_have unit bytes e l

module _ (unit : UnitPlace) (number : ℕ) (bytes : List ℕ) where
  from_law : (e : Branch) (ls : List Watched) (ms : List OpenLoad)
      → AreWatched e.word ls ms
      → list_all (law unit number bytes) ms ≡ true → list_all (judge unit number bytes e) ls ≡ true
  from_law e [] [] h t = refl
  from_law e (l ∷ ls) (m ∷ ms) h t =
      let p = and_parts _ (list_all _ ms) t in
      let rest = from_law e ls ms h.1 p.1 in
      elim (cases_Bool _) [
        | inr f ↦ rw f rest
        | inl u ↦
            and_from _ _
            (or_right _ _ (got_have unit bytes e l m.got (cc (h.0.1, rw (ap (λ n. n == number) (sym h.0.0) ∙ u) at p.0)) h.0.2)) rest
      ]
  from_law e _ _ h t = absurd h

  pub answer_on : (m : UnitMemory) → may_answer_load unit number bytes m.loads ≡ true
      → (e : Branch) → IsOn e m → has_answer unit number bytes e ≡ true
  answer_on m t e o = from_law e e.loads _ o.loads t

filter_drops : (number : ℕ) (m : OpenLoad) (ms ns : List OpenLoad) → is_load number m ≡ true → filter (keeps number) ms ≡ ns
    → filter (keeps number) (m ∷ ms) ≡ ns
filter_drops number m ms ns u h = rw u h

module _ (unit : UnitPlace) (number : ℕ) (bytes : List ℕ) where
  -- the loads of a state on a way, with those that are answered
  with_answers : (e : Branch) (ls : List Watched) (ns : List OpenLoad)
      → list_all (judge unit number bytes e) ls ≡ true
      → AreWatched e.word (filter (stays number) ls) ns
      → (ms : List OpenLoad) × AreWatched e.word ls ms × (list_all (law unit number bytes) ms ≡ true) × (filter (keeps number) ms ≡ ns)
  with_answers e [] [] t h = ([], tt, refl, refl)
  with_answers e [] (n ∷ ns) t h = absurd h
  with_answers e (l ∷ ls) ns t h =
      let p = and_parts _ (list_all (judge unit number bytes e) ls) t in
      elim (cases_Bool (is_watched number l)) [
        | inl u ↦
            let have = rw u at p.0 in
            let v = have_word unit bytes e l have in
            let r = with_answers e ls ns p.1 (rw u at h) in
            let m : OpenLoad = record { number = l.number; address = l.address; got = Some v.0 } in (
              m ∷ r.0,
              ((refl, refl, v.2), r.1),
              and_from _ _
                  (or_right (not (is_load number m)) (is_word_of unit.first v.0 l.address bytes) v.1) r.2,
              filter_drops number m r.0 ns u r.3,
            )
        | inr f ↦ other unit number bytes e l ls ns f (rw f at h) (λ ks k. with_answers e ls ks p.1 k)
      ]
    where
      other : (unit : UnitPlace) (number : ℕ) (bytes : List ℕ) (e : Branch) (l : Watched) (ls : List Watched) (ns : List OpenLoad)
          → is_watched number l ≡ false
          → AreWatched e.word (l ∷ filter (stays number) ls) ns
          → ((ks : List OpenLoad) → AreWatched e.word (filter (stays number) ls) ks
          → (ms : List OpenLoad) × AreWatched e.word ls ms × (list_all (law unit number bytes) ms ≡ true)
          × (filter (keeps number) ms ≡ ks))
          → (ms : List OpenLoad) × AreWatched e.word (l ∷ ls) ms × (list_all (law unit number bytes) ms ≡ true)
          × (filter (keeps number) ms ≡ ns)
      other unit number bytes e l ls [] f h rest = absurd h
      other unit number bytes e l ls (n ∷ ns) f h rest =
          let r = rest ns h.1 in
          let g = ap (λ k. k == number) (sym h.0.0) ∙ f in
          (n ∷ r.0, (h.0, r.1), rw g r.2, rw (g, r.3) refl)

  pub sound_without_load : (P Q : UnitMemory → Type 0)
      → ((m : UnitMemory) → P m → may_answer_load unit number bytes m.loads ≡ true → Q (without_load number m)) → (e : Branch)
      → has_answer unit number bytes e ≡ true → ((m : UnitMemory) → IsOn e m → P m) → (n : UnitMemory)
      → IsOn (branch_without_load number e) n
      → Q n
  sound_without_load P Q seen e g sound n o =
      let r = with_answers e e.loads n.loads g o.loads in
      let m0 : UnitMemory = record { word = n.word; stores = n.stores; loads = r.0 } in
      let q = seen m0 (sound m0 (record { word = o.word; stores = o.stores; loads = r.1 })) r.2 in
      subst (λ ls. Q (record { word = n.word; stores = n.stores; loads = ls })) r.3 q

-- What may come. ----

-- One lane. ----

-- whether an open store may still write this byte in a lane
abbrev writes : ℕ → Option ℕ → OpenStore → Bool
writes k answer s = not s.is_done && gives (get_or s.bytes k None) answer

lane_written : (bs ws : Word) (k : ℕ) → (get_or (written bs ws) k None ≡ get_or ws k None)
    ⊎ ((b : ℕ) × (get_or (written bs ws) k None ≡ Some b) × (get_or bs k None ≡ Some b))
unfolding written
lane_written (Some b ∷ bs) (w ∷ ws) zero = inr (b, refl, refl)
lane_written (x ∷ bs) (w ∷ ws) (suc k) = lane_written bs ws k
lane_written _ _ _ = inl refl

any_between : (p : OpenStore → Bool) (before : List OpenStore) (s : OpenStore) (after : List OpenStore)
    → (list_any p before || (p s || list_any p after)) ≡ true → list_any p (before ++ s ∷ after) ≡ true
any_between p before s after h = list_any-append p before _ ∙ h

-- a store that has taken effect writes no more
any_undone : (k : ℕ) (answer : Option ℕ) (before : List OpenStore) (s : OpenStore) (after : List OpenStore)
    → list_any (writes k answer) (before ++ done_store s ∷ after) ≡ true
    → list_any (writes k answer) (before ++ s ∷ after) ≡ true
any_undone k answer before s after h = grind (arith, or_cases, list_any-append, any_between, or_left, or_right)

-- what an effect writes in a lane, the store may still write before it
new_before : (k b : ℕ) (word : Word) (before : List OpenStore) (s : OpenStore) (after : List OpenStore) (answer : Option ℕ)
    → s.is_done ≡ false → get_or s.bytes k None ≡ Some b → is_as_it_stood (Some b) answer ≡ true
    → may_come_in k word (before ++ s ∷ after) answer ≡ true
new_before k b word before s after x6 open_ w t = grind (arith, or_left, none_asked, or_right, any_between)

come_before : (k : ℕ) (word : Word) (before : List OpenStore) (s : OpenStore) (after : List OpenStore) (answer : Option ℕ)
    → s.is_done ≡ false → may_come_in k (written s.bytes word) (before ++ done_store s ∷ after) answer ≡ true
    → may_come_in k word (before ++ s ∷ after) answer ≡ true
come_before k word before s after answer open_ h =
    let p = writes k answer in
    elim (or_cases _ _ h) [
      | inr t ↦ or_right _ _
          (any_undone k answer before s after t)
      | inl t ↦ elim (lane_written s.bytes word k) [
        | inl same ↦ or_left _ _
            (ap (λ x. is_as_it_stood x answer) (sym same) ∙ t)
        | inr new ↦ grind (arith, new_before)
      ]
    ]

-- a word of which a store makes an answer's may come to it
pub effect_comes : (unit : UnitPlace) (address : LoadAddress) (bytes : List ℕ) (word : Word) (before : List OpenStore) (s : OpenStore)
    (after : List OpenStore) → s.is_done ≡ false → is_word_of unit.first (written s.bytes word) address bytes ≡ true
    → may_come unit address bytes word (before ++ s ∷ after) ≡ true
effect_comes unit address bytes word before s after open_ h =
    grind (arith, always_all, come_before, or_left, word_lane, unit.first, s.bytes)

-- One load. ----

-- whether the word may come to be one of an answer
abbrev comes : UnitPlace → List ℕ → Branch → Watched → Bool
comes unit bytes e l = may_come unit l.address bytes e.word e.stores

-- whether nothing stands in the way of an answer, or may still be put out of it
abbrev hopes : UnitPlace → ℕ → List ℕ → Branch → Watched → Bool
hopes unit number bytes e l = not (is_watched number l) || (may_have unit bytes e l || comes unit bytes e l)

abbrev has_hope : UnitPlace → ℕ → List ℕ → Branch → Bool
has_hope unit number bytes e = list_all (hopes unit number bytes e) e.loads

module _ (unit : UnitPlace) (number : ℕ) (bytes : List ℕ) (e : Branch) (before : List OpenStore) (s : OpenStore) (after : List OpenStore)
    (split : e.stores ≡ before ++ s ∷ after) (open_ : s.is_done ≡ false) where
  on : Branch
  on = effect_of e before s after

  come : (l : Watched) (k : ℕ) → may_come_in k on.word on.stores (read_byte l.address bytes (unit.first + k)) ≡ true
      → may_come_in k e.word e.stores (read_byte l.address bytes (unit.first + k)) ≡ true
  unfolding on
  come l k h = grind (arith, l.address, come_before)

  all_come : (l : Watched) → comes unit bytes on (with_word e.word l) ≡ true → comes unit bytes e l ≡ true
  all_come l h =
      all_weaker (λ k. may_come_in k on.word on.stores _)
      (λ k. may_come_in k e.word e.stores _) (come l) (range_with_len 0 8) h

  -- the word of an answer that an effect makes may come before it
  word_comes : (l : Watched) → is_word_of unit.first on.word l.address bytes ≡ true → comes unit bytes e l ≡ true
  unfolding on
  word_comes l h = grind (arith, l.address, effect_comes)

  hopes_before : (l : Watched) → hopes unit number bytes on (with_word e.word l) ≡ true → hopes unit number bytes e l ≡ true
  hopes_before l h = grind (arith, l.address, or_right, or_cases, or_left, all_come, word_comes)

  pub hope_before : has_hope unit number bytes (effect_of e before s after) ≡ true → has_hope unit number bytes e ≡ true
  unfolding on
  hope_before h = grind (arith, all_weaker, hopes_before, list_all-map)

-- All loads. ----

module _ (unit : UnitPlace) (number : ℕ) (bytes : List ℕ) where
  pub answer_hopes : (e : Branch) → has_answer unit number bytes e ≡ true
      → has_hope unit number bytes e ≡ true
  answer_hopes e h = grind (arith, all_weaker, or_cases, or_left)

  -- a way that leads to a state with the answer hopes for it
  pub hope_leads : {e : Branch} {m : UnitMemory}
      → may_answer_load unit number bytes m.loads ≡ true → Leads e m → has_hope unit number bytes e ≡ true
  hope_leads {e} {m} g (now o) = grind (arith, answer_hopes, answer_on)
  hope_leads {e} {m} g (later before s after split open_ r) = grind (arith, hope_leads g r, hope_before)

-- The load that is found under a number. ----

-- the word that stands there may come to be one of an answer if it is one
pub word_may_come : (unit : UnitPlace) (address : LoadAddress) (bytes : List ℕ) (word : Word) (stores : List OpenStore)
    → is_word_of unit.first word address bytes ≡ true → may_come unit address bytes word stores ≡ true
word_may_come unit address bytes word stores h = grind (arith, always_all, or_left, word_lane)

-- the load under a number, on a way on which no word before the one of now was one of its answer
abbrev pub IsLate : UnitPlace → ℕ → List ℕ → Branch → Type 0
IsLate unit number bytes e = (l : Watched) → find (is_watched number) e.loads ≡ Some l
    → list_any (λ w. is_word_of unit.first w l.address bytes) l.words ≡ false

module _ (unit : UnitPlace) (number : ℕ) (bytes : List ℕ) (e : Branch) (l : Watched) (m : UnitMemory) where
  -- its answer may still come where the way leads to it
  pub late_hope : find (is_watched number) e.loads ≡ Some l
      → IsLate unit number bytes e → may_answer_load unit number bytes m.loads ≡ true → Leads e m
      → may_come unit l.address bytes e.word e.stores ≡ true
  late_hope f late g r =
      let p = find_each _ _ e.loads l (all_each _ e.loads (hope_leads unit number bytes g r)) f in
      let have = rw p.1 at p.0 in
      elim (or_cases _ _ have) [
        | inr c ↦ c
        | inl b ↦ grind (arith, or_cases, word_may_come)
      ]

  -- it has come where a state with the answer is on the way
  pub late_answer : find (is_watched number) e.loads ≡ Some l
      → IsLate unit number bytes e → may_answer_load unit number bytes m.loads ≡ true → IsOn e m
      → is_word_of unit.first e.word l.address bytes ≡ true
  late_answer f late g o =
      let p = find_each _ _ e.loads l (all_each (λ k. not _ || may_have unit bytes e k) e.loads (answer_on unit number bytes m g e o)) f in
      elim (or_cases _ _ (rw p.1 at p.0)) [
        | inl c ↦ c
        | inr c ↦ cc (late l f)
      ]

-- The pairs of a load that is answered. ----

-- The load under a number. ----

find_mapped : {X Y : Type 0} (f : X → Y) (p : Y → Bool) (xs : List X) (x : X) → find (λ y. p (f y)) xs ≡ Some x
    → find p (map f xs) ≡ Some (f x)
find_mapped f p xs x h = find-map f p xs ∙ ap (option_map f) h

pub find_watched : (number : ℕ) (path : List Stood) (ls : List WatchedLoad) (l : WatchedLoad) → find (is_under number) ls ≡ Some l
    → find (is_watched number) (map (watched path) ls) ≡ Some (watched path l)
find_watched number path ls l h = find_mapped _ _ ls l h

-- what it may have got of what stood there
pub seen_test : (is : Word → Bool) (since : ℕ) (path : List Stood)
    → list_any (λ s. nat_le since s.moment && is s.word) path ≡ list_any is (seen_since since path)
seen_test is since [] = refl
seen_test is since (s ∷ path) = grind (arith, seen_test is since path)

module _ (unit : UnitPlace) (number : ℕ) (bytes : List ℕ) (b : Branch) (path : List Stood) where
  -- no load is in the way of an answer if the one under its number isn't
  all_answer : (l : WatchedLoad) (ls : List WatchedLoad)
      → Each (λ x. is_under number x ≡ true → x ≡ l) ls → may_have unit bytes b (watched path l) ≡ true
      → list_all (λ k. not (is_watched number k) || may_have unit bytes b k) (map (watched path) ls) ≡ true
  all_answer l [] a h = refl
  all_answer l (x ∷ xs) a h = grind (arith, all_answer l xs a.1 h, and_from, or_right)

  no_answer : (ls : List WatchedLoad)
      → find (is_under number) ls ≡ None
      → list_all (λ k. not (is_watched number k) || may_have unit bytes b k) (map (watched path) ls) ≡ true
  no_answer ls h =
      (pass (is_watched number) _ _ (list_any-map _ _ ls ∙ find_none _ ls h)).0

pub answers_none : (loads : List WatchedLoad) (unit : UnitPlace) (number : ℕ) (bytes : List ℕ) → find (is_under number) loads ≡ None
    → (e : Pair) (path : List Stood) → has_answer unit number bytes (way_on loads e path) ≡ true
answers_none loads unit number bytes h e path = grind (arith, no_answer)

module _ (loads : List WatchedLoad) (moment : ℕ) (asked : Each (IsAsked moment) loads) (unit : UnitPlace) (number : ℕ) (bytes : List ℕ)
    (l : WatchedLoad) (open_ : find (is_under number) loads ≡ Some l) where
  abbrev is : Stood → Bool
  is = is_answer unit l.address l.since bytes

  abbrev aim : Aim
  aim = word_aim unit l.address bytes

  abbrev Late : Branch → Type 0
  Late = IsLate unit number bytes

  -- whether it may have got its answer on a way
  abbrev has_it : Pair → List Stood → Bool
  has_it e path = may_have unit bytes (way_on loads e path) (watched path l)

  pub answers : IsAlone (is_under number) loads → (e : Pair) (path : List Stood) → has_it e path ≡ true
      → has_answer unit number bytes (way_on loads e path) ≡ true
  answers alone e path h =
      all_answer unit number bytes (way_on loads e path) path l loads (found_each _ loads l alone open_) h

  -- Each way is on one side. ----

  behind : (t : Bool) (e : Pair) → is_word_of unit.first e.word l.address bytes ≡ false
      → pair_part t unit bytes l e ≡ pair_on e (part t is e.past)
  behind x0 e f = grind arith

  part_on : (t : Bool) (e : Pair) (path : List Stood) → Has e.past path → has_it e path ≡ t
      → (g : Pair) × (pair_part t unit bytes l e ≡ Some g) × Has g.past path
  part_on t e path h y = elim (cases_Bool _) [
    | inl c ↦ now t c (rw c at y)
    | inr f ↦
        let r = put _ (part_has t is e.past path h (seen_test (λ w. is_word_of unit.first w l.address bytes) l.since path ∙ (rw f at y))) in
        (r.0, behind t e f ∙ r.1, r.2)
  ]
    where
      now : (t : Bool) → is_word_of unit.first e.word l.address bytes ≡ true → true ≡ t
          → (g : Pair) × (pair_part t unit bytes l e ≡ Some g) × Has g.past path
      now true c x = (e, rw c refl, h)
      now false c x = cc

      put : (p : Option Past) → HasAny p path → (g : Pair) × (pair_on e p ≡ Some g) × Has g.past path
      put None a = absurd a
      put (Some p) a = (_, refl, a)

  on_part : (t : Bool) (e g : Pair) (path : List Stood) → pair_part t unit bytes l e ≡ Some g → Has g.past path
      → Has e.past path × (has_it e path ≡ t)
  on_part t e g path s h = elim (cases_Bool _) [
    | inl c ↦ now t c s
    | inr f ↦
        let r = has_part t is e.past path (from _ (sym (behind t e f) ∙ s)) in
        (r.0, rw f (sym (seen_test (λ w. is_word_of unit.first w l.address bytes) l.since path) ∙ r.1))
  ]
    where
      now : (t : Bool) → is_word_of unit.first e.word l.address bytes ≡ true → pair_part t unit bytes l e ≡ Some g
          → Has e.past path × (has_it e path ≡ t)
      now true c s = (subst (λ x. Has x.past path) (sym (same_Some e g (rw c at s))) h, rw c refl)
      now false c s = let x = rw c at s in cc

      from : (p : Option Past) → pair_on e p ≡ Some g → HasAny p path
      from None x = cc
      from (Some p) x = subst (λ y. Has y.past path) (sym (same_Some (record { word = e.word; stores = e.stores; past = p }) g x)) h

  same_on : (t : Bool) (e g : Pair) (path : List Stood) → pair_part t unit bytes l e ≡ Some g → way_on loads e path ≡ way_on loads g path
  same_on t e g path s = grind arith

  abbrev Sound : (Branch → Type 0) → Pair → Type 0
  Sound S e = EachWay loads S e × IsPairBy moment e

  pub part_sound : (t : Bool) (S R : Branch → Type 0)
      → ((e : Pair) (path : List Stood) → has_it e path ≡ t → S (way_on loads e path) → R (way_on loads e path))
      → (es : List Pair) → Each (Sound S) es → Each (Sound R) (gathered (pair_part t unit bytes l) es)
  part_sound t S R k es a =
      gathered_each _ _ _ (λ e g s h. (
        λ path has. let r = on_part t e g path s has in subst R (same_on t e g path s) (k e path r.1 (h.0 path r.0)),
        by_paths moment g.past (λ path has. path_by moment e.past path h.1 (on_part t e g path s has).0),
      )) es a

  here : (path : List Stood) → find (is_watched number) (map (watched path) loads) ≡ Some (watched path l)
  here path = find_watched number path loads l open_

  late_at : (b : Branch) (k : Watched) → find (is_watched number) b.loads ≡ Some k
      → list_any (λ w. is_word_of unit.first w k.address bytes) k.words ≡ false → Late b
  late_at b k f h x g = grind arith

  late_more : (e : Pair) (path : List Stood) (before : List OpenStore) (s : OpenStore) (after : List OpenStore) → aim.goal e ≡ false
      → Late (way_on loads e path)
      → Late (effect_of (way_on loads e path) before s after)
  late_more e path before s after off late =
      late_at (effect_of (way_on loads e path) before s after) _
      (find_mapped _ (is_watched number) _ (watched path l) (here path))
      (rw off (late _ (here path)))

  module _ (m : UnitMemory) (may : may_answer_load unit number bytes m.loads ≡ true) where
    pub is_for : IsFor loads moment asked m Late aim
    is_for = record {
      here = λ e path late o. late_answer unit number bytes _ _ m (here path) late may o;
      stays = late_more;
      hopes = λ e path late r. late_hope unit number bytes _ _ m (here path) late may r;
    }

    abbrev Leading : Pair → Type 0
    Leading e = OneWay loads (λ b. Leads b m) e

    abbrev Later : Pair → Type 0
    Later e = OneWay loads (λ b. Leads b m × Late b) e

    abbrev Hopeful : Pair → Type 0
    Hopeful e = Later e × (aim.hope e ≡ true)

    -- what holds of a pair to which the ways on one side go on
    abbrev Goes : Bool → (Pair → Type 0) → Pair → Type 0
    Goes t Q e = (g : Pair) × (pair_part t unit bytes l e ≡ Some g) × Q g

    side : (e : Pair) → Leading e → Goes true Leading e ⊎ Goes false Hopeful e
    side e (path, h, r) = elim (cases_Bool _) [
      | inl y ↦
          let p = part_on true e path h y in
          inl (p.0, p.1, (path, p.2, subst (λ b. Leads b m) (same_on true e p.0 path p.1) r))
      | inr y ↦
          let p = part_on false e path h y in
          let same = same_on false e p.0 path p.1 in
          let leads = subst (λ b. Leads b m) same r in
          let late = subst Late same (late_at (way_on loads e path) _ (here path) (or_parts _ _ y).1) in
          inr (p.0, p.1, ((path, p.2, (leads, late)), is_for.hopes p.0 path late leads))
    ]

    pub split_complete : (es : List Pair) → One Leading es
        → One Leading (gathered (pair_got unit bytes l) es) ⊎ One Later (with_hope aim (gathered (pair_missed unit bytes l) es))
    split_complete es h = elim (one_or _ _ es (one_weaker Leading _ side es h)) [
      | inl a ↦ inl (gathered_one Leading _ es a)
      | inr a ↦ inr (one_filter Later aim.hope _ (gathered_one Hopeful _ es a))
    ]

-- The load is gone. ----

pub way_without : (number : ℕ) (ls : List WatchedLoad) (e : Pair) (path : List Stood)
    → way_on (loads_without number ls) e path ≡ branch_without_load number (way_on ls e path)
way_without number ls e path = grind (arith, filter-map)

-- what stood there before the oldest load is gone too
pub path_cut : (left : List WatchedLoad) (since : Option ℕ) → oldest left ≡ since → (e : Pair) (more : List Stood)
    → Has (cut_for since e.past) more
    → (path : List Stood) × Has e.past path × (way_on left (pair_cut since e) more ≡ way_on left e path)
path_cut left None h e more has =
    let r = some_path e.past in
    let none = oldest_none left h in
    (r.0, r.1, subst (λ ls. way_on ls (pair_cut None e) more ≡ way_on ls e r.0) (sym none) refl)
path_cut left (Some from) h e more has =
    let r = has_cut from e.past more has in
    let same =
    ap (λ p. map (watched p) left) r.2 ∙ watched_cut from r.0 left (oldest_first left from h) in
    (r.0, r.1, λ i. record { word = e.word; stores = e.stores; loads = same i })

pub cut_on : (left : List WatchedLoad) (since : Option ℕ) → oldest left ≡ since → (e : Pair) (path : List Stood) → Has e.past path
    → (more : List Stood) × Has (cut_for since e.past) more × (way_on left (pair_cut since e) more ≡ way_on left e path)
cut_on left None h e path has = grind (arith, oldest_none)
cut_on left (Some from) h e path has = (
  cut_path from path,
  cut_has from e.past path has,
  λ i. record { word = e.word; stores = e.stores; loads = (watched_cut from path left (oldest_first left from h)) i },
)

pub one_cut : (left : List WatchedLoad) (P : Branch → Type 0) (b : Bool) (es : List Pair) → One (OneWay left P) es
    → One (OneWay left P) (if b then map (pair_cut (oldest left)) es else es)
one_cut left P true es o =
    one_map _ _ es (one_weaker _ _
    (λ e q. let r = cut_on left _ refl e q.0 q.1 in (r.0, r.1, subst P (sym r.2) q.2)) es o)
one_cut left P false es o = o

-- Moments. ----

pub left_asked : (number : ℕ) (n : ℕ) (ls : List WatchedLoad) → Each (IsAsked n) ls → Each (IsAsked n) (loads_without number ls)
left_asked number n ls a = each_filter _ _ ls a

pub moment_asked : (b : Bool) (n : ℕ) (left : List WatchedLoad) → Each (IsAsked n) left
    → Each (IsAsked (if b then moment_with n left else n)) left
moment_asked x0 n x2 a = grind arith

by_cut_for : (n : ℕ) (since : Option ℕ) (p : Past) → IsBy n p → IsBy n (cut_for since p)
by_cut_for n None p h = tt
by_cut_for n (Some from) p h = by_cut n from p h

pub each_cut : (b : Bool) (n : ℕ) (left : List WatchedLoad) (P : Branch → Type 0) (es : List Pair)
    → Each (λ e. EachWay left P e × IsPairBy n e) es
    → Each (λ e. EachWay left P e × IsPairBy (if b then moment_with n left else n) e) (if b then map (pair_cut (oldest left)) es else es)
each_cut true n left P es a = grind (arith, each_map, each_weaker, path_cut, by_cut_for)
each_cut false n left P es a = a
