-- What an open load may return is what the answers have that would be taken now.
use Rattle.atomic_histories.proofs.Links.{fit_by, IsAlone, AreDistinct, is_of, reads}
use Rattle.atomic_histories.proofs.Links.{linked, then_some, each_none, alone, has_address, is_there, HaveGot, shown_word, the_load}
use Rattle.atomic_histories.proofs.Links.{got_between}
use Rattle.std.proofs.Common.{[], ◌≡◌, ℕ, ◌+◌, ◌/◌, ◌<◌, ◌≤◌, ◌↔◌, Bool, true, false, ◌||◌, ◌==◌, List}
use Rattle.std.proofs.Common.{◌∷◌, ◌++◌, map, length, Option, Some, None, slice_get, inl, inr}
use Rattle.std.proofs.Common.{refl, sym, ap, ◌∙◌, subst, arith, ◌-◌, ◌*◌, ◌%◌, not, if◌then◌else◌, eqb-true, eq-eqb}
use Rattle.std.specs.List.{list_any, find, All, range_with_len}
use Rattle.std.proofs.lemmas.Bool.{cases_Bool, and_from, or_right, lt-ltb, lt-leb, le-leb, cases_eq}
use Rattle.memory_histories.specs.declared.events.HistoryEvent.{HistoryEvent}
use Rattle.memory_histories.specs.declared.events.Rest.{Rest}
use Rattle.atomic_histories.specs.declared.unit.Operation.{Operation}
use Rattle.atomic_histories.specs.declared.unit.UnitPlace.{UnitPlace}
use Rattle.atomic_histories.specs.declared.unit.LoadAddress.{LoadAddress}
use Rattle.atomic_histories.specs.Operations.{opened_by, has_number, none_opened, answer_fault}
use Rattle.atomic_histories.specs.Law.{OpenLoad, UnitMemory, MayBe, steps, untouched, unit_at, is_load, sees, done_load, is_got}
use Rattle.atomic_histories.specs.Law.{may_answer_load, without_load, seen, is_formed, IsAtomicAt}
use Rattle.atomic_histories.specs.Pasts.{got}
use Rattle.atomic_histories.specs.Stands.{Each}
use Rattle.atomic_histories.specs.Held.{is_lost}
use Rattle.atomic_histories.specs.May.{lane_of, may_show, has_got, got_byte, MayGet, MayReturn, asks, skips}
use Rattle.atomic_histories.proofs.Lists.{one_elim, each_both, one_any, one_each}
use Rattle.atomic_histories.proofs.Lists.{each_two, one_two, each_weaker, each_at, all_each, each_all, each_from_all}
use Rattle.atomic_histories.proofs.Exact.{last_seen}
use Rattle.atomic_histories.proofs.Whole.{formed_more}
use Rattle.std.specs.Borrow.{Bor}
use Rattle.std.proofs.lemmas.Nat.{div-mul-add, mod-mul-add, div-add-mod'}
use Rattle.std.proofs.lemmas.List.Elements.{All-map}
use Rattle.std.proofs.lemmas.List.FromFn.{get_or-map-range_with_len, length-map-range_with_len}
use Rattle.std.proofs.lemmas.Option.{slice_get_within, slice_get_past, slice_get_read, get_or_from_slice_get}
use Rattle.memory_histories.specs.declared.events.HistoryEvent.TheVariants.{LoadResponse, StoreRequest}
use Rattle.atomic_histories.specs.Words.{first_byte, initial_byte, byte_for, read_byte, stored_byte, is_as_it_stood, is_word_of}
use Rattle.atomic_histories.specs.MayLaws.{IsByte, StoresBytes, IsOfLaw, MayAnswer, HasAnswer, HasAnswerFor, SetsAreOfAnswers}
use Rattle.atomic_histories.specs.MayLaws.{SetIsOfAnswers, AreSameIn, HasAnswerIn, UnitsChooseAlone}
use Rattle.atomic_histories.proofs.Verdict.{formed_last}
use Rattle.atomic_histories.proofs.Lanes.{AreLanes, HasGot, Holds, Writes, holds, word_lane, lane_word, unit_lane, none_asked}
use Rattle.std.proofs.Math.Bool.{or-true}
use Rattle.atomic_histories.proofs.Returns.{Word}

-- As the answers that would be taken. ----

-- Bytes. ----

byte_of_all : (P : ℕ → Type 0) (xs : List ℕ) (i b : ℕ) → All P xs → slice_get xs i ≡ Some b → P b
byte_of_all P xs i b h e = grind (arith, P, get_or_from_slice_get, slice_get_within)

pub then_it : {X : Type 0} (c : Bool) (o : Option X) (x : X) → (if c then o else None) ≡ Some x → (c ≡ true) × (o ≡ Some x)
then_it x0 o x h = grind arith

-- a byte that a unit has lies in it, and is a byte
abbrev IsOf : UnitPlace → ℕ → ℕ → Type 0
IsOf unit j b = (j < unit.size) × IsByte b

stored_is : (address : ℕ) (bytes : List ℕ) (enables a b : ℕ) → All IsByte bytes → stored_byte address bytes enables a ≡ Some b → IsByte b
stored_is address bytes enables a b h e =
    let p = then_it _ _ b e in
    let q = then_it _ _ b p.1 in
    byte_of_all IsByte bytes _ b h q.1

writes_bytes : (unit : UnitPlace) (event : HistoryEvent) → StoresBytes event → Writes (IsOf unit) unit event
writes_bytes unit (StoreRequest number address bytes enables) h = λ j b e.
    let p = unit_lane unit (stored_byte address bytes.now enables) j b e in
    (p.0, stored_is address bytes.now enables _ b h p.1)
writes_bytes unit _ h = tt

first_is : (image : Option ℕ) (rest : Rest) (b : ℕ) → ((c : ℕ) → image ≡ Some c → IsByte c) → first_byte image rest ≡ Some b → IsByte b
first_is x0 rest b h e = grind arith

holds_first : (image : List ℕ) (rest : Rest) (unit : UnitPlace) → All IsByte image → Holds (IsOf unit) (untouched image rest unit)
holds_first image rest unit h = record {
  word = λ j b e.
      let p = unit_lane unit (initial_byte image rest) j b e in
      (p.0, first_is _ rest b (λ c s. byte_of_all IsByte image _ c h s) p.1);
  stores = tt;
  loads = tt;
}

-- Answers at a unit. ----

-- the unit before the last event
pub seen_last : (start : UnitMemory) (unit : UnitPlace) (history : List HistoryEvent) (event : HistoryEvent) (xs : List HistoryEvent)
    (m : UnitMemory) → MayBe unit start xs m → xs ≡ history ++ event ∷ []
    → (k : UnitMemory) × ((n : UnitMemory) × (MayBe unit start history k × (seen unit k event ≡ Some n)))
seen_last start unit history event xs m r h =
    last_seen start unit history event
    (λ m. (k : UnitMemory) × ((n : UnitMemory) × (MayBe unit start history k × (seen unit k event ≡ Some n)))) (λ m n q step. q)
    (λ k n there e. (k, (n, (there, e)))) xs m r h

-- whether a load doesn't stand in the way of an answer
abbrev lets : UnitPlace → ℕ → List ℕ → OpenLoad → Bool
lets unit number bytes l = not (is_load number l) || is_got unit l.address bytes l.got

-- a state in which no load stands in the way of an answer
abbrev Lets : List ℕ → Rest → List HistoryEvent → UnitPlace → ℕ → List ℕ → Type 0
Lets image rest history unit number bytes =
    (m : UnitMemory) × MayBe unit (untouched image rest unit) history m × Each (λ l. lets unit number bytes l ≡ true) m.loads

module _ (image : List ℕ) (rest : Rest) (history : List HistoryEvent) (unit : UnitPlace) (number : ℕ) (answer : Bor (List ℕ)) where
  lets_from : IsAtomicAt image rest unit (history ++ LoadResponse number answer ∷ []) → Lets image rest history unit number answer.now
  lets_from h =
      let event = LoadResponse number answer in
      let r = seen_last _ unit history event _ h.0 h.1 refl in
      let p = then_it _ _ r.1.0 r.1.1.1 in
      (r.0, r.1.1.0, all_each _ r.0.loads p.0)

  from_lets : Lets image rest history unit number answer.now → IsAtomicAt image rest unit (history ++ LoadResponse number answer ∷ [])
  from_lets h =
      let may = each_all _ h.0.loads h.2 in (
        without_load number h.0,
        sees history _ h.0 _ h.1
            (then_some (may_answer_load unit number answer.now h.0.loads) (without_load number h.0) may),
      )

got_some : (unit : UnitPlace) (address : LoadAddress) (bytes : List ℕ) (g : Option Word) → is_got unit address bytes g ≡ true
    → (w : Word) × (g ≡ Some w) × (is_word_of unit.first w address bytes ≡ true)
got_some unit address bytes x3 h = grind arith

-- a word that is an answer's in a unit is another's that has the same bytes there
same_word : (unit : UnitPlace) (w : Word) (a : LoadAddress) (bs cs : List ℕ) → AreLanes (IsOf unit) w
    → ((j : ℕ) → j < unit.size → read_byte a bs (unit.first + j) ≡ read_byte a cs (unit.first + j))
    → is_word_of unit.first w a bs ≡ true → is_word_of unit.first w a cs ≡ true
same_word unit w a bs cs lanes same h = grind (arith, lane_word, word_lane)

-- a load that may be answered so may be answered with the same bytes in the unit
same_lets : (unit : UnitPlace) (number : ℕ) (a : LoadAddress) (bs cs : List ℕ)
    → ((j : ℕ) → j < unit.size → read_byte a bs (unit.first + j) ≡ read_byte a cs (unit.first + j))
    → (l : OpenLoad) → (is_load number l ≡ true → l.address ≡ a) → HasGot (IsOf unit) l.got → lets unit number bs l ≡ true
    → lets unit number cs l ≡ true
same_lets unit number a bs cs same l at lanes h = grind (arith, or_right, HasGot, same_word)

-- Places. ----

-- a byte that isn't enabled isn't read, and one that is is the answer's
read_skipped : (o : Operation) (bs : List ℕ) (a : ℕ) → skips (Some o) a ≡ true → read_byte (reads o) bs a ≡ None
read_skipped o bs a h = grind arith

read_asked : (o : Operation) (bs : List ℕ) (a : ℕ) → skips (Some o) a ≡ false → read_byte (reads o) bs a ≡ byte_for o.address bs a
read_asked o bs a h = grind arith

same_bytes : (size k address : ℕ) (bs cs : List ℕ) → AreSameIn size k address bs cs → (j : ℕ) → j < size
    → byte_for address bs (k * size + j) ≡ byte_for address cs (k * size + j)
same_bytes size k address bs cs same j l = grind (arith, lt-leb, div-mul-add, le-leb)

same_for : (size k : ℕ) (o : Operation) (bs cs : List ℕ) → AreSameIn size k o.address bs cs → (j : ℕ) → j < size
    → read_byte (reads o) bs (k * size + j) ≡ read_byte (reads o) cs (k * size + j)
same_for size k o bs cs same j l =
    let at = k * size + j in
    elim (cases_Bool (skips (Some o) at)) [
      | inl t ↦ read_skipped o bs at t ∙ sym (read_skipped o cs at t)
      | inr f ↦ read_asked o bs at f ∙ (same_bytes size k o.address bs cs same j l ∙ sym (read_asked o cs at f))
    ]

pub byte_inside : (a : ℕ) (bs : List ℕ) (i : ℕ) → byte_for a bs (a + i) ≡ slice_get bs i
byte_inside a bs i = grind arith

-- a byte that answers for an address is one of the answer's
byte_place : (a at b : ℕ) (bs : List ℕ) → byte_for a bs at ≡ Some b → (a ≤ at) × (slice_get bs (at - a) ≡ Some b)
byte_place a at b bs e = grind arith

-- the unit of one of an operation's bytes is one that it touches
touches : (size : ℕ) (o : Operation) (i : ℕ) → 1 ≤ size → i < o.length → is_of (unit_at size ((o.address + i) / size)) o ≡ true
touches size o i pos l = grind arith

shows_stood : (x : Option ℕ) (b : ℕ) → is_as_it_stood x (Some b) ≡ true → may_show x b ≡ true
shows_stood x0 b h = grind arith

abbrev or_zero : Option ℕ → ℕ
or_zero None = 0
or_zero (Some b) = b

-- nothing is known of a word that has no lanes
no_lane : (j : ℕ) → lane_of j [] ≡ None
no_lane j = grind arith

no_lanes : (P : ℕ → ℕ → Type 0) → AreLanes P []
no_lanes P j b e = grind arith

module _ (lost : List ℕ) (image : List ℕ) (rest : Rest) (size : ℕ) (history : List HistoryEvent) (number : ℕ)
    (law : IsOfLaw lost image rest size history) (o : Operation) (found : find (has_number number) (opened_by history).loads ≡ Some o) where
  abbrev unit : ℕ → UnitPlace
  unit k = unit_at size k

  abbrev Comes : ℕ → UnitMemory → Type 0
  Comes k m = MayBe (unit k) (untouched image rest (unit k)) history m

  distinct : AreDistinct (opened_by history).loads
  distinct = grind (arith, fit_by)

  holds_at : (k : ℕ) (m : UnitMemory) → Comes k m → Holds (IsOf (unit k)) m
  holds_at k m r =
      holds _ _ _ (holds_first image rest (unit k) law.first_bytes) r
      (each_weaker StoresBytes (Writes (IsOf (unit k)) (unit k)) (writes_bytes (unit k)) history
      (each_from_all StoresBytes history law.stored_bytes))

  addresses : (k : ℕ) (m : UnitMemory) → Comes k m → Each (λ l. is_load number l ≡ true → l.address ≡ reads o) m.loads
  addresses k m r = has_address _ number m _ (linked image rest (unit k) r) distinct o found

  is_alone : (k : ℕ) (m : UnitMemory) → Comes k m → IsAlone (is_load number) m.loads
  is_alone k m r = alone _ number m _ (linked image rest (unit k) r) distinct o found

  -- Answers that are formed. ----

  abbrev more : Bor (List ℕ) → List HistoryEvent
  more answer = history ++ LoadResponse number answer ∷ []

  answer_formed : (answer : Bor (List ℕ)) → length answer.now ≡ o.length → is_formed none_opened (more answer) ≡ true
  answer_formed answer e = grind (arith, eq-eqb, formed_more)

  answer_length : (answer : Bor (List ℕ)) → MayAnswer lost image rest size history number answer → length answer.now ≡ o.length
  answer_length answer a =
      let f =
      formed_last none_opened history _ a.formed in
      let g = ap (λ x. answer_fault x (length answer.now)) (sym found) ∙ f in
      elim (cases_Bool _) [
        | inl t ↦ sym (eqb-true o.length (length answer.now) t)
        | inr n ↦ let x = (rw n at g) in cc
      ]

  -- Each unit's bytes are chosen for themselves. ----

  moments_same : (k : ℕ) (answer other : Bor (List ℕ)) → AreSameIn size k o.address answer.now other.now
      → IsAtomicAt image rest (unit k) (more other) → IsAtomicAt image rest (unit k) (more answer)
  moments_same k answer other same h =
      let r = lets_from image rest history _ number other h in
      let m : UnitMemory = r.0 in
      let Known : OpenLoad → Type 0 = λ l. (is_load number l ≡ true → l.address ≡ reads o) × HasGot _ l.got in
      let known : Each Known _ = grind (arith, each_both, HasGot, addresses, holds_at) in
      from_lets image rest history _ number answer (
        m,
        r.1,
        each_two Known (λ l. lets (unit k) number other.now l ≡ true) (λ l. lets (unit k) number answer.now l ≡ true)
            (λ l q p. same_lets _ number (reads o) other.now answer.now
            (λ j w. sym (same_for size k o answer.now other.now same j w)) l q.0 q.1 p) _ known r.2,
      )

  pub units_alone : (answer : Bor (List ℕ)) → MayAnswer lost image rest size history number answer
      ↔ ((length answer.now ≡ o.length)
      × ((k : ℕ) → is_lost k lost ≡ false → HasAnswerIn lost image rest size history number o.address k answer.now))
  units_alone answer = grind (arith, answer_length, answer_formed, moments_same)

  -- What an answer has may be returned. ----

  load_gets : (k j b : ℕ) (answer : List ℕ) → read_byte (reads o) answer (k * size + j) ≡ Some b → (l : OpenLoad)
      → is_load number l ≡ true → lets (unit k) number answer l ≡ true → l.address ≡ reads o → got_byte number j b l ≡ true
  load_gets k j b answer e l t h at =
      let got_one = got_some (unit k) l.address answer l.got (rw t at h) in
      let here : is_as_it_stood (lane_of j got_one.0) (read_byte l.address answer (k * size + j)) ≡ true =
      word_lane (k * size) got_one.0 l.address answer j got_one.2 in
      let read : is_as_it_stood (lane_of j got_one.0) (read_byte (reads o) answer (k * size + j)) ≡ true =
      subst (λ a. is_as_it_stood (lane_of j got_one.0) (read_byte a answer (k * size + j)) ≡ true) at here in
      let stood : is_as_it_stood (lane_of j got_one.0) (Some b) ≡ true =
      subst (λ x. is_as_it_stood (lane_of j got_one.0) x ≡ true) e read in
      and_from _ _ t (subst (λ y. has_got j b y ≡ true) (sym got_one.1) (shows_stood _ b stood))

  gets_at : (k j b : ℕ) (answer : Bor (List ℕ)) → read_byte (reads o) answer.now (k * size + j) ≡ Some b → is_of (unit k) o ≡ true
      → IsAtomicAt image rest (unit k) (more answer) → MayGet image rest history (unit k) number j b
  gets_at k j b answer e there h =
      let r = lets_from image rest history _ number answer h in
      let m : UnitMemory = r.0 in
      let one =
      is_there _ number m _ (linked image rest (unit k) r.1) distinct o found there in
      let At : OpenLoad → Type 0 = λ l. (is_load number l ≡ true → l.address ≡ reads o) × (lets (unit k) number answer.now l ≡ true) in (
        m,
        r.1,
        one_any _ _ (one_two (λ l. is_load number l ≡ true) At (λ l. got_byte number j b l ≡ true)
            (λ l t q. load_gets k j b answer.now e l t q.1 (q.0 t)) _ one (grind (arith, each_both, answer.now, addresses))),
      )

  pub answer_may : (i b : ℕ) → HasAnswer lost image rest size history number i b
      → MayReturn lost image rest size history number (o.address + i) b
  answer_may i b (answer, bytes, e, a) =
      let at = o.address + i in
      let q = at / size in
      let within = subst (λ n. i < n) (answer_length answer a) (slice_get_within answer.now i b e) in
      let place = div-add-mod' at size in
      let byte =
      ap (byte_for o.address answer.now) place ∙ (byte_inside o.address answer.now i ∙ e) in
      elim (cases_Bool (skips (Some o) at)) [
        | inl skipped ↦ inl (rw found skipped)
        | inr enabled ↦
            let read : read_byte (reads o) answer.now (q * size + at % size) ≡ Some b =
            read_asked o answer.now _ (subst (λ x. skips (Some o) x ≡ false) (sym place) enabled) ∙ byte in
            elim (cases_Bool (is_lost q lost)) [
              | inl t ↦ inr (inl t)
              | inr f ↦ grind (arith, gets_at, touches)
            ]
      ]

  -- What may be returned an answer has. ----

  -- in a state that may come, each load under the number got this word
  abbrev IsGot : ℕ → Word → Type 0
  IsGot k w = (m : UnitMemory) × Comes k m × HaveGot number w m.loads

  abbrev HasWord : ℕ → Type 0
  HasWord k = (w : Word) × AreLanes (IsOf (unit k)) w × IsGot k w

  load_got : (k : ℕ) (m : UnitMemory) → Comes k m → (before : List OpenLoad) (l : OpenLoad) (behind : List OpenLoad)
      → m.loads ≡ before ++ l ∷ behind → list_any (is_load number) before ≡ false → list_any (is_load number) behind ≡ false
      → (g : Option Word) → l.got ≡ g → HasWord k
  load_got k m r before l behind split b a None e =
      let n : UnitMemory = record { word = m.word; stores = m.stores; loads = before ++ done_load _ l ∷ behind } in (
        m.word,
        (holds_at k m r).word,
        (
          n,
          steps history m n r (inr (before, l, behind, split, e, refl)),
          got_between number _ before _ behind b a refl,
        ),
      )
  load_got k m r before l behind split b a (Some w) e =
      let each =
      subst (Each (λ x. HasGot _ x.got)) split (holds_at k m r).loads in (
        w,
        subst (HasGot _) e (each_at (λ x. HasGot _ x.got) before l behind each),
        (m, r, subst (HaveGot number w) (sym split) (got_between number w before l behind b a e)),
      )

  some_word : (k : ℕ) → IsAtomicAt image rest (unit k) history → HasWord k
  some_word k (m, r) = elim (the_load number _ (is_alone k m r)) [
    | inl none ↦ ([], no_lanes _, (m, r, each_none (λ l. l.got ≡ Some []) _ _ none))
    | inr s ↦ load_got k m r s.0 s.1 s.2 s.3 s.4 s.5 s.1.got refl
  ]

  shown_at : (k j b : ℕ) → MayGet image rest history (unit k) number j b → (w : HasWord k) × (may_show (lane_of j w.0) b ≡ true)
  shown_at k j b (m, r, any) =
      let s = shown_word number j b _ (is_alone k m r) any in
      let lanes =
      one_elim (λ l. (l.got ≡ Some s.0) × HasGot _ l.got) _ _
      (one_each (λ l. l.got ≡ Some s.0) (λ l. HasGot _ l.got) _ s.2 (holds_at k m r).loads)
      (λ l p. subst (HasGot (IsOf (unit k))) p.0 p.1) in
      ((s.0, lanes, (m, r, s.3)), s.1)

  -- a word of each unit, which shows the byte in its unit
  abbrev Choice : ℕ → ℕ → ℕ → Type 0
  Choice at b k =
      (w : Word) × AreLanes (IsOf (unit k)) w × (is_lost k lost ≡ false → IsGot k w)
      × (k ≡ at / size → (skips (Some o) at || may_show (lane_of (at % size) w) b) ≡ true)

  lost_one : (at b k : ℕ) → is_lost k lost ≡ true → Choice at b k
  lost_one at b k t = (
    [],
    no_lanes _,
    λ f. cc (sym t ∙ f),
    λ e. ap (λ y. skips (Some o) at || may_show y b) (no_lane (at % size)) ∙ or-true (skips (Some o) at),
  )

  choose : (at b : ℕ) → MayReturn lost image rest size history number at b → (k : ℕ) → Choice at b k
  choose at b may k = elim (cases_eq k (at / size)) [
    | inl same ↦ subst (Choice at b) (sym same) (elim may [
      | inl skipped ↦ elim (cases_Bool (is_lost (at / size) lost)) [
        | inl t ↦ lost_one at b _ t
        | inr f ↦ let s = some_word _ (law.atomic.moments _ f) in (s.0, s.1, λ x. s.2, λ e. rw (rw found at skipped) refl)
      ]
      | inr asked ↦ elim asked [
        | inl t ↦ lost_one at b _ t
        | inr g ↦ let s = shown_at _ _ b g.1 in (s.0.0, s.0.1, λ f. s.0.2, λ e. rw s.1 (or-true (skips (Some o) at)))
      ]
    ])
    | inr other ↦ elim (cases_Bool _) [
      | inl t ↦ lost_one at b k t
      | inr f ↦ let s = some_word k (law.atomic.moments k f) in (s.0, s.1, λ x. s.2, λ e. absurd (other e))
    ]
  ]

  module _ (i b : ℕ) (inside : i < o.length) (small : b < 256) (may : MayReturn lost image rest size history number (o.address + i) b) where
    chosen : (k : ℕ) → Choice (o.address + i) b k
    chosen k = choose _ b may k

    -- the byte for an address
    abbrev byte_of : ℕ → ℕ
    byte_of a = or_zero (lane_of (a % size) (chosen (a / size)).0)

    abbrev byte_at : ℕ → ℕ
    byte_at x = if x == i then b else byte_of (o.address + x)

    abbrev answer : List ℕ
    answer = map byte_at (range_with_len 0 o.length)

    abbrev given : Bor (List ℕ)
    given = record { ref_ptr = (0, 0); now = answer }

    byte_small : (x : ℕ) → IsByte (byte_at x)
    byte_small x = grind arith

    are_bytes : All IsByte answer
    are_bytes =
        All-map IsByte byte_at _ (λ k d l. byte_small _)

    is_long : length answer ≡ o.length
    is_long = length-map-range_with_len byte_at 0 o.length

    at_place : (x : ℕ) → x < o.length → slice_get answer x ≡ Some (byte_at x)
    at_place x l =
        slice_get_read answer o.length x _ (sym is_long) l
        (sym (get_or-map-range_with_len byte_at 0 o.length x x (byte_at x) l (omega arith)))

    byte_there : (k j : ℕ) → j < size → byte_of (k * size + j) ≡ or_zero (lane_of j (chosen k).0)
    byte_there k j l = grind (arith, chosen, mod-mul-add, div-mul-add)

    -- a byte of the answer is the word's that was chosen for its unit
    agrees : (k j c x : ℕ) → j < size → lane_of j (chosen k).0 ≡ Some c → o.address + x ≡ k * size + j
        → skips (Some o) (k * size + j) ≡ false → (c == byte_at x) ≡ true
    agrees k j c x l e place enabled = elim (cases_Bool _) [
      | inl t ↦
          let same = eqb-true x i t in
          let at = ap (λ y. o.address + y) (sym same) ∙ place in
          let unit_ = sym (cc (at, div-mul-add k size j l)) in
          let lane = ap (λ y. y % size) at ∙ mod-mul-add k size j l in
          let here : skips (Some o) (o.address + i) ≡ false = subst (λ y. skips (Some o) y ≡ false) (sym at) enabled in
          let shows : may_show (lane_of ((o.address + i) % size) (chosen k).0) b ≡ true = (rw here at ((chosen k).3 unit_)) in
          let it =
          subst (λ y. may_show y b ≡ true) e (rw lane at shows) in
          rw t it
      | inr f ↦ grind (arith, byte_there, eq-eqb)
    ]

    stands_asked : (k j : ℕ) (y : Option ℕ) → lane_of j (chosen k).0 ≡ y → skips (Some o) (k * size + j) ≡ false
        → is_as_it_stood (lane_of j (chosen k).0) (byte_for o.address answer (k * size + j)) ≡ true
    stands_asked k j x2 e f = grind (arith, lt-leb, slice_get_past, is_long, le-leb, at_place, agrees, chosen)

    stands : (k j : ℕ) (y : Option ℕ) → lane_of j (chosen k).0 ≡ y
        → is_as_it_stood (lane_of j (chosen k).0) (read_byte (reads o) answer (k * size + j)) ≡ true
    stands k j y e = elim (cases_Bool (skips (Some o) (k * size + j))) [
      | inl t ↦ rw (read_skipped o answer _ t) (none_asked _)
      | inr f ↦ rw (read_asked o answer _ f) (stands_asked k j y e f)
    ]

    load_lets : (k : ℕ) (l : OpenLoad) → (is_load number l ≡ true → l.address ≡ reads o)
        → (is_load number l ≡ true → l.got ≡ Some (chosen k).0) → lets (unit k) number answer l ≡ true
    load_lets k l at got = grind (arith, lane_word, chosen, stands, or_right)

    given_at : (k : ℕ) → is_lost k lost ≡ false → IsAtomicAt image rest (unit k) (more given)
    given_at k f =
        let r = (chosen k).2 f in
        let m = r.0 in
        from_lets image rest history _ number given (
          m,
          r.1,
          each_two (λ l. is_load number l ≡ true → l.address ≡ reads o) (λ l. is_load number l ≡ true → l.got ≡ Some (chosen k).0)
              (λ l. lets (unit k) number answer l ≡ true) (load_lets k) _ (addresses k m r.1) r.2,
        )

    pub may_answer : HasAnswer lost image rest size history number i b
    may_answer =
        let here : byte_at i ≡ b = rw (eq-eqb i i refl) refl in (
          given,
          are_bytes,
          at_place i inside ∙ ap Some here,
          record { formed = answer_formed given is_long; moments = given_at },
        )

-- The laws. ----

pub sets_law : (lost : List ℕ) (image : List ℕ) (rest : Rest) (size : ℕ) (history : List HistoryEvent) (number : ℕ)
    → SetsAreOfAnswers lost image rest size history number
sets_law lost image rest size history number law sets s i set get b small =
    let exact = s.exact i set get b small in
    let inside = subst (λ n. i < n) s.length_ (slice_get_within sets i set get) in (
      λ t. may_answer lost image rest size history number law s.load s.open_ i b inside small (exact.0 t),
      λ h. exact.1 (answer_may lost image rest size history number law s.load s.open_ i b h),
    )

asked : (o : Option Operation) (a : ℕ) → asks o a ≡ true
    → (x : Operation) × (o ≡ Some x) × (x.address ≤ a) × (a < x.address + x.length)
asked x0 a h = grind arith

module _ (lost : List ℕ) (image : List ℕ) (rest : Rest) (size : ℕ) (history : List HistoryEvent) (number : ℕ)
    (law : IsOfLaw lost image rest size history) (a b : ℕ) where
  answer_for_may : HasAnswerFor lost image rest size history number a b
      → MayReturn lost image rest size history number a b
      × (asks (find (has_number number) (opened_by history).loads) a ≡ true)
  answer_for_may (load, found, (answer, bytes, e, h)) =
      let p = byte_place load.address a b answer.now e in
      let at : load.address + (a - load.address) ≡ a = omega (arith, p.0) in
      let long : length answer.now ≡ load.length = answer_length lost image rest size history number law load found answer h in
      let inside : a - load.address < load.length = grind (arith, slice_get_within) in (
        subst (λ x. MayReturn lost image rest size history number x b) at
            (answer_may lost image rest size history number law load found _ b (answer, bytes, p.1, h)),
        ap (λ x. asks x a) found
            ∙ and_from _ _ (le-leb load.address a p.0)
            (lt-ltb a _ (omega (arith, p.0, inside))),
      )

  may_answer_for : asks (find (has_number number) (opened_by history).loads) a ≡ true → b < 256
      → MayReturn lost image rest size history number a b → HasAnswerFor lost image rest size history number a b
  may_answer_for t small may =
      let x = asked _ a t in
      let load : Operation = x.0 in
      let at : load.address + (a - load.address) ≡ a = omega (arith, x.2) in
      let inside : a - load.address < load.length = omega (arith, x.2, x.3) in
      let r = may_answer lost image rest size history number law load x.1 _ b inside small
      (rw (sym at) at may) in
      (load, x.1, (r.0, r.1, rw (le-leb load.address a x.2) r.2, r.3))

module _ (lost image : List ℕ) (rest : Rest) (size : ℕ) (history : List HistoryEvent) (number : ℕ) where
  pub set_law : SetIsOfAnswers lost image rest size history number
  set_law law a None none b small = (
    λ t. cc,
    λ h. cc ((answer_for_may lost image rest size history number law a b h).1),
  )
  set_law law a (Some set) p b small = (
    λ t. may_answer_for lost image rest size history number law a b p.0 small ((p.1 b small).0 t),
    λ h. (p.1 b small).1 (answer_for_may lost image rest size history number law a b h).0,
  )

  pub units_law : UnitsChooseAlone lost image rest size history number
  units_law law load found answer =
      units_alone lost image rest size history number law load found answer
