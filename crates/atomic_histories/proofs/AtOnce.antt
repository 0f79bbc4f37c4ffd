-- Events that a unit takes where it stands: what the search would find, and what is kept of the units.
use Rattle.std.proofs.Common.{◌≡◌, ◌≢◌, ℕ, zero, suc, ◌*◌, ◌/◌, ◌<◌, ◌≤◌, Bool, true, false, List, [], ◌∷◌, length, take, get_or, Option}
use Rattle.std.proofs.Common.{Some, None, Result, Ok, Err, IfOk, inl, inr, refl, sym, ap, ap₂, ◌∙◌, subst, arith}
use Rattle.std.specs.List.{find}
use Rattle.std.proofs.lemmas.List.{length-take-le, take-take, get_or-take}
use Rattle.std.proofs.lemmas.Bool.{cases_Bool}
use Rattle.memory_histories.specs.declared.events.HistoryEvent.{HistoryEvent}
use Rattle.memory_histories.specs.declared.events.Rest.{Rest}
use Rattle.atomic_histories.specs.declared.unit.OpenStore.{OpenStore}
use Rattle.atomic_histories.specs.declared.unit.UnitPlace.{UnitPlace}
use Rattle.atomic_histories.specs.declared.unit.WatchedLoad.{WatchedLoad}
use Rattle.atomic_histories.specs.declared.stretches.Before.{Before}
use Rattle.atomic_histories.specs.declared.stretches.Before.TheVariants.{Behind}
use Rattle.atomic_histories.specs.declared.stretches.Stretch.{Stretch}
use Rattle.atomic_histories.specs.declared.stretches.Stretch.TheVariants.{Overwritten}
use Rattle.atomic_histories.specs.declared.pairs.FollowedPair.{FollowedPair}
use Rattle.atomic_histories.specs.declared.kept.KeptUnit.{KeptUnit}
use Rattle.atomic_histories.specs.declared.memory.UnitSize.{UnitSize}
use Rattle.atomic_histories.specs.Operations.{Opened, opened_after}
use Rattle.atomic_histories.specs.Words.{written, is_word_of}
use Rattle.atomic_histories.specs.Law.{unit_at, may_answer_store, done_store}
use Rattle.atomic_histories.specs.Pasts.{Past, Stood, stood, begins, after, got, missed, oldest, earlier, cut_for, overwritten}
use Rattle.atomic_histories.specs.Branches.{may_come}
use Rattle.atomic_histories.specs.Followed.{Pair, Ways, Aim, first_ways, has_way, effect_aim, word_aim, pair_after, out_after, met, found}
use Rattle.atomic_histories.specs.Followed.{is_over, needs_more, load_needs_more, needs_too_many, ways_after, is_under, loads_without}
use Rattle.atomic_histories.specs.Followed.{moment_with, pair_missed, gathered, with_hope, answered_load, answered_store, ways_without_load}
use Rattle.atomic_histories.specs.Held.{Held, covered, units_of, is_without, is_stuck, is_over_at}
use Rattle.atomic_histories.specs.Few.{IsFewFor}
use Rattle.atomic_histories.specs.Told.{GoOn}
use Rattle.atomic_histories.specs.Judge.{bytes_of, kept_or, kept_at, words_of, IsTaken}
use Rattle.atomic_histories.specs.Shown.{past_at, past_of, pasts, shown, shown_all}
use Rattle.atomic_histories.proofs.Shares.{stands}
use Rattle.atomic_histories.proofs.Answered.{word_may_come, effect_comes}
use Rattle.atomic_histories.proofs.Loops.{same_default, some_oldest}
use Rattle.atomic_histories.specs.AtOnce.{IsUnitTaken, AreTaken, AreTakenOrSame}

abbrev Word : Type 0
Word = List (Option ℕ)

-- The search from one pair. ----

met_alone : (loads : List WatchedLoad) (moment n : ℕ) (aim : Aim) (e : Pair) → met loads moment n aim (e ∷ []) [] ≡ e ∷ []
met_alone loads moment zero aim e = refl
met_alone loads moment (suc n) aim e = met_alone loads moment n aim e

out_here : (goal : Pair → Bool) (e : Pair) → goal e ≡ true → out_after goal [] (e ∷ []) ≡ e ∷ []
out_here goal e t = grind arith

module _ (loads : List WatchedLoad) (moment : ℕ) (aim : Aim) (e : Pair) where
  -- a pair that meets what is wanted is the one that is found
  found_here : aim.goal e ≡ true
      → found loads moment aim [] (e ∷ []) ≡ e ∷ []
  found_here t = grind (arith, out_here, met_alone)

  -- so is what its one store makes of a pair that doesn't
  found_next : (s : OpenStore) → e.stores ≡ s ∷ [] → s.is_done ≡ false
      → aim.goal e ≡ false → aim.goal (pair_after (overwritten loads moment e.word e.past) e [] s []) ≡ true
      → aim.hope (pair_after (overwritten loads moment e.word e.past) e [] s []) ≡ true
      → found loads moment aim [] (e ∷ []) ≡ pair_after (overwritten loads moment e.word e.past) e [] s [] ∷ []
  found_next s one open_ f t hope = grind arith

-- No search follows more than one pair at a time. ----

module _ (limit : ℕ) (loads : List WatchedLoad) (moment : ℕ) where
  over_alone : (n : ℕ) (aim : Aim) (e : Pair) → 0 < limit
      → is_over limit loads moment n aim (e ∷ []) [] ≡ false
  over_alone zero aim e l = refl
  over_alone (suc n) aim e l = grind (arith, over_alone n aim e l)

  few_here : (aim : Aim) (e : Pair) → 0 < limit → aim.goal e ≡ true
      → needs_more limit loads moment aim [] (e ∷ []) ≡ false
  few_here aim e l t = grind (arith, out_here, over_alone)

  few_next : (aim : Aim) (e : Pair) (s : OpenStore) → 0 < limit → e.stores ≡ s ∷ []
      → aim.goal e ≡ false → needs_more limit loads moment aim [] (e ∷ []) ≡ false
  few_next aim e s l one f = grind arith

-- a store that has taken effect, or the one of a pair that takes effect
pub few_effects : (limit number : ℕ) (u : Ways) (e : Pair) → 0 < limit → u.pairs ≡ e ∷ [] → may_answer_store number e.stores ≡ true
    → needs_more limit u.loads u.moment (effect_aim number) [] u.pairs ≡ false
few_effects limit number u e l one t =
    ap (needs_more limit u.loads u.moment (effect_aim number) []) one ∙ few_here limit u.loads u.moment _ e l t

pub few_last : (limit number : ℕ) (loads : List WatchedLoad) (moment : ℕ) (ss : List Stretch) (ps : List FollowedPair) → length ps ≡ 1
    → ((d : FollowedPair) → length (get_or ps 0 d).stores.items ≡ 1)
    → ((d : FollowedPair) → may_answer_store number (get_or ps 0 d).stores.items ≡ false)
    → 0 < limit → needs_more limit loads moment (effect_aim number) [] (shown_all ss ps) ≡ false
few_last limit number loads moment ss [] h one waits l = grind arith
few_last limit number loads moment ss (p ∷ []) h one waits l = go p.stores.items refl (one p)
  where
    go : (xs : List OpenStore) → p.stores.items ≡ xs → length p.stores.items ≡ 1
        → needs_more limit loads moment (effect_aim number) [] (shown ss p ∷ []) ≡ false
    go [] e n = grind arith
    go (x ∷ []) e n = grind arith
    go _ e n = grind arith
few_last limit number loads moment ss (p ∷ q ∷ ps) h one waits l = grind arith

-- Loads. ----

-- it is the word of a stretch, or one before that
stands_in : (ss : List Stretch) (end i : ℕ) (s : Stretch) → i < end → end ≤ length ss → s ≡ get_or ss i s
    → past_at (pasts (take end ss)) (Behind i) ≡ past_of (pasts (take i ss)) s
stands_in ss end i s l le e = cc (
  stands _ i s (omega (arith, length-take-le end ss le)) (e ∙ sym (get_or-take end ss i s l)),
  take-take i end ss (omega (arith, l)),
)

-- the word of a stretch, on the past of those before it
pub stood_at : (ss : List Stretch) (end i : ℕ) (d : Stretch) (b earlier : Before) (word : Word) (moment : ℕ) → i < end → end ≤ length ss
    → get_or ss i d ≡ Overwritten word moment earlier → b ≡ Behind i
    → past_at (pasts (take end ss)) b ≡ after word moment (past_at (pasts (take i ss)) earlier)
stood_at ss end i d b earlier word moment l le is at_ =
    let s = Overwritten word moment earlier in
    ap (past_at (pasts (take end ss))) at_
    ∙ stands_in ss end i s l le (sym is ∙ same_default ss i d s (omega (arith, l, le)))

module _ (is : Stood → Bool) (p q : Past) (word : Word) (moment : ℕ) where
  pub got_here : p ≡ after word moment q → is (stood word moment) ≡ true
      → got is p ≡ Some p
  got_here e t = grind arith

  pub missed_here : p ≡ after word moment q → is (stood word moment) ≡ true
      → missed is p ≡ None
  missed_here e t = grind arith

  pub missed_later : p ≡ after word moment q → is (stood word moment) ≡ false
      → missed is q ≡ None → missed is p ≡ None
  missed_later e f m = grind arith

-- one that may have got the word that the one store makes, where nothing stood before
load_next : (unit : UnitPlace) (bytes : List ℕ) (l : WatchedLoad) (u : Ways) (e : Pair) (s : OpenStore) → u.pairs ≡ e ∷ []
    → e.stores ≡ s ∷ [] → s.is_done ≡ false → e.past ≡ begins → is_word_of unit.first e.word l.address bytes ≡ false
    → is_word_of unit.first (written s.bytes e.word) l.address bytes ≡ true
    → answered_load unit bytes (Some l) u ≡ pair_after (overwritten u.loads u.moment e.word e.past) e [] s [] ∷ []
load_next unit bytes l u e s one store open_ past f t =
    let aim = word_aim unit l.address bytes in
    let on = pair_after (overwritten u.loads u.moment e.word e.past) e [] s [] in
    let hope =
    subst (λ ss. may_come unit l.address bytes e.word ss ≡ true) (sym store) (effect_comes unit l.address bytes e.word [] s [] open_ t) in
    let got_ : gathered _ u.pairs ≡ [] = rw (one, f, past) refl in
    let missed_ : with_hope aim (gathered (pair_missed unit bytes l) u.pairs) ≡ e ∷ [] = rw (one, f, past, hope) refl in
    ap₂ (found u.loads u.moment aim) got_ missed_
    ∙ found_next u.loads u.moment aim e s store open_ f t (word_may_come unit l.address bytes on.word on.stores t)

pub few_load : (limit : ℕ) (unit : UnitPlace) (bytes : List ℕ) (l : WatchedLoad) (u : Ways) (e : Pair) (s : OpenStore) → 0 < limit
    → u.pairs ≡ e ∷ [] → e.stores ≡ s ∷ [] → e.past ≡ begins → is_word_of unit.first e.word l.address bytes ≡ false
    → load_needs_more limit unit bytes (Some l) u ≡ false
few_load limit unit bytes l u e s some one store past f =
    let aim = word_aim unit l.address bytes in
    let got_ : gathered _ u.pairs ≡ [] = rw (one, f, past) refl in
    let missed_ : gathered (pair_missed unit bytes l) u.pairs ≡ e ∷ [] = rw (one, f, past) refl in
    elim (cases_Bool (aim.hope e)) [
      | inl hope ↦
          let left : with_hope aim (gathered (pair_missed unit bytes l) u.pairs) ≡ e ∷ [] = rw (missed_, hope) refl in
          ap₂ (needs_more limit u.loads u.moment aim) got_ left ∙ few_next limit u.loads u.moment aim e s some store f
      | inr none ↦ grind arith
    ]

-- What an open load may ask for, once another is answered. ----

pub behind_none : (ls : List WatchedLoad) (moment : ℕ) (word : Word) → oldest ls ≡ None → overwritten ls moment word begins ≡ begins
behind_none x0 moment word h = grind (arith, some_oldest)

pub cut_none : (ls : List WatchedLoad) (moment : ℕ) (word : Word) → oldest ls ≡ None
    → cut_for (oldest ls) (overwritten ls moment word begins) ≡ overwritten ls moment word begins
cut_none x0 moment word h = grind (arith, some_oldest)

-- a pair over whose word another stands, of which no load is asked for but those that are left
behind : (number moment : ℕ) (ls : List WatchedLoad) (l : WatchedLoad) (es : List Pair) (word new : Word) (stores : List OpenStore)
    → find (is_under number) ls ≡ Some l
    → cut_for (oldest (loads_without number ls)) (overwritten (loads_without number ls) moment word begins)
    ≡ overwritten (loads_without number ls) moment word begins
    → record {
      loads = loads_without number ls;
      moment = moment_with moment (loads_without number ls);
      pairs = record { word = new; stores = stores; past = overwritten (loads_without number ls) moment word begins } ∷ [];
    } ≡ ways_without_load number (record { loads = ls; moment = moment; pairs = es })
    (record { word = new; stores = stores; past = overwritten ls moment word begins } ∷ [])
behind number moment x2 l es word new stores is cut_ = grind arith

pub later_taken : (unit : UnitPlace) (bytes : List ℕ) (number : ℕ) (l : WatchedLoad) (u : Ways) (e : Pair) (s : OpenStore)
    → u.pairs ≡ e ∷ []
    → e.stores ≡ s ∷ [] → s.is_done ≡ false → e.past ≡ begins → find (is_under number) u.loads ≡ Some l
    → is_word_of unit.first e.word l.address bytes ≡ false → is_word_of unit.first (written s.bytes e.word) l.address bytes ≡ true
    → cut_for (oldest (loads_without number u.loads)) (overwritten (loads_without number u.loads) u.moment e.word begins)
    ≡ overwritten (loads_without number u.loads) u.moment e.word begins
    → record {
      loads = loads_without number u.loads;
      moment = moment_with u.moment (loads_without number u.loads);
      pairs = record {
        word = written s.bytes e.word;
        stores = done_store s ∷ [];
        past = overwritten (loads_without number u.loads) u.moment e.word begins;
      } ∷ [];
    } ≡ ways_without_load number u (answered_load unit bytes (Some l) u)
later_taken unit bytes number l u e s one store open_ past is f t cut_ = grind (arith, behind, load_next)

pub load_left : (number : ℕ) (u : Ways) (e : Pair) → has_way (ways_without_load number u (e ∷ [])) ≡ true
load_left number u e = grind arith

-- Stores. ----

pub store_here : (number : ℕ) (u : Ways) (e : Pair) → u.pairs ≡ e ∷ [] → may_answer_store number e.stores ≡ true
    → answered_store number u ≡ e ∷ []
store_here number u e one t =
    ap (found u.loads u.moment (effect_aim number) []) one ∙ found_here u.loads u.moment _ e t

-- One pair. ----

pub one_pair : (ps : List FollowedPair) (d : FollowedPair) → length ps ≡ 1 → ps ≡ get_or ps 0 d ∷ []
one_pair (p ∷ []) d h = refl
one_pair _ d h = grind arith

-- Units. ----

-- the first byte of a unit has an address
pub number_fits : (size : UnitSize) (a : ℕ) → a < 18446744073709551616 → a / bytes_of size * bytes_of size < 18446744073709551616
number_fits x0 a h = grind arith

-- the one unit that an event touches took it
one_taken : (h next : Held) (event : HistoryEvent) (number : ℕ) → number ≡ (covered h.opened event).0 / h.size
    → units_of h.size (covered h.opened event).0 (covered h.opened event).1 ≡ 1
    → IsUnitTaken (unit_at h.size number) event (h.units number) (next.units number) true
    → ((k : ℕ) → k ≢ number → next.units k ≡ h.units k)
    → next.image ≡ h.image → next.rest ≡ h.rest → next.size ≡ h.size → next.opened ≡ h.opened → AreTaken h event next
one_taken h next event number here one taken others image rest size opened = grind arith

-- what is kept, with these units
abbrev kept : List ℕ → Rest → ℕ → Opened → (ℕ → Option KeptUnit) → Held
kept image rest size opened f =
    record { image = image; rest = rest; size = size; opened = opened; units = kept_at image rest size f; words = λ k. words_of (f k) }

-- a unit that shows the same
same_kept : (image : List ℕ) (rest : Rest) (size : ℕ) (opened : Opened) (f g : ℕ → Option KeptUnit) (number : ℕ)
    → ((first : Ways) → kept_or (g number) first ≡ kept_or (f number) first) → words_of (g number) ≡ words_of (f number)
    → ((k : ℕ) → k ≢ number → g k ≡ f k) → kept image rest size opened g ≡ kept image rest size opened f
same_kept image rest size opened f g number same words others = grind arith

pub taken_at : {E : Type 0} (r : Result Bool E) (image : List ℕ) (rest : Rest) (size : ℕ) (opened : Opened) (event : HistoryEvent)
    (f g : ℕ → Option KeptUnit) (number : ℕ)
    → number ≡ (covered opened event).0 / size
    → units_of size (covered opened event).0 (covered opened event).1 ≡ 1
    → IfOk r (λ taken. (first : Ways) →
    IsUnitTaken (unit_at size number) event (kept_or (f number) first) (kept_or (g number) first) taken)
    → IfOk r (λ taken. taken ≡ false → words_of (g number) ≡ words_of (f number))
    → ((k : ℕ) → k ≢ number → g k ≡ f k)
    → IfOk r (AreTakenOrSame (kept image rest size opened f) event (kept image rest size opened g))
taken_at (Err e) image rest size opened event f g number here one taken words others = tt
taken_at (Ok false) image rest size opened event f g number here one taken words others = grind arith
taken_at (Ok true) image rest size opened event f g number here one taken words others =
    one_taken _ _ event number here one
    (taken _)
    (λ k n. ap (λ x. kept_or x (first_ways image rest (unit_at size k))) (others k n)) refl refl refl refl

-- and it halted nowhere
one_goes_on : (limit : ℕ) (h : Held) (event : HistoryEvent) (number : ℕ) → number ≡ (covered h.opened event).0 / h.size
    → units_of h.size (covered h.opened event).0 (covered h.opened event).1 ≡ 1 → IsFewFor (h.units number) event
    → is_stuck h event number ≡ false → is_over_at limit h event number ≡ false → GoOn limit h event
one_goes_on limit h event number here one few stuck over = grind arith

pub not_halted_at : {E : Type 0} (r : Result Bool E) (limit : ℕ) (image : List ℕ) (rest : Rest) (size : ℕ) (opened : Opened)
    (event : HistoryEvent) (f g : ℕ → Option KeptUnit) (number : ℕ) (place : UnitPlace) → place ≡ unit_at size number
    → number ≡ (covered opened event).0 / size
    → units_of size (covered opened event).0 (covered opened event).1 ≡ 1
    → IfOk r (λ taken. (first : Ways) → IsUnitTaken place event (kept_or (f number) first) (kept_or (g number) first) taken)
    → IfOk r (λ taken. taken ≡ true → (first : Ways) → needs_too_many limit place (kept_or (f number) first) event ≡ false)
    → IfOk r (λ taken. taken ≡ true → (first : Ways) → IsFewFor (kept_or (f number) first) event)
    → IfOk r (λ taken. taken ≡ true → GoOn limit (kept image rest size opened f) event)
not_halted_at (Err e) limit image rest size opened event f g number place at_ here one taken few words = tt
not_halted_at (Ok false) limit image rest size opened event f g number place at_ here one taken few words = λ t. cc
not_halted_at (Ok true) limit image rest size opened event f g number place at_ here one taken few words = λ t.
    let u = kept_or _ (first_ways image rest (unit_at size number)) in
    one_goes_on limit (kept image rest size opened f) event number here one (words refl (first_ways image rest (unit_at size number)))
    (subst (λ p. is_without u (ways_after p u event) ≡ false) at_ (taken (first_ways image rest (unit_at size number))).1)
    (subst (λ p. needs_too_many limit p u event ≡ false) at_ (few refl (first_ways image rest (unit_at size number))))

-- the operations that are open change behind the units
pub taken_open : (h room mid next : Held) (event : HistoryEvent) → room ≡ h → AreTaken room event mid
    → next ≡ record {
      image = mid.image;
      rest = mid.rest;
      size = mid.size;
      opened = opened_after mid.opened event;
      units = mid.units;
      words = mid.words;
    }
    → IsTaken h event next
taken_open h room mid next event same taken_there e = grind arith
