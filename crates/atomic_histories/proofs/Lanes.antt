-- Words by their lanes, and what holds of each byte that a unit may have.
use Rattle.std.proofs.Common.{◌≡◌, ℕ, zero, suc, ◌+◌, ◌<◌, ◌⊎◌, Bool, true, false, if◌then◌else◌, nat_lt, List, [], ◌∷◌, Option, Some, None}
use Rattle.std.proofs.Common.{inl, inr, refl, sym, ◌∙◌, subst, arith}
use Rattle.std.proofs.lemmas.Bool.{cases_lt, and_parts, and_from}
use Rattle.std.proofs.lemmas.List.FromFn.{get_or-map-range_with_len}
use Rattle.std.proofs.lemmas.Option.{same_Some}
use Rattle.memory_histories.specs.declared.events.HistoryEvent.{HistoryEvent}
use Rattle.memory_histories.specs.declared.events.HistoryEvent.TheVariants.{StoreRequest}
use Rattle.atomic_histories.specs.declared.unit.UnitPlace.{UnitPlace}
use Rattle.atomic_histories.specs.declared.unit.LoadAddress.{LoadAddress}
use Rattle.atomic_histories.specs.Words.{at_unit, at_lane, stored_byte, read_byte, written, is_as_it_stood, is_word_of}
use Rattle.atomic_histories.specs.Law.{UnitMemory, HiddenStep, MayBe, starts, steps, sees, with_load, with_store, seen}
use Rattle.atomic_histories.specs.Stands.{Each}
use Rattle.atomic_histories.specs.May.{lane_of}
use Rattle.atomic_histories.proofs.Lists.{each_append, each_at, each_replace, each_filter, each_split}
use Rattle.atomic_histories.proofs.Links.{some_if}

abbrev Word : Type 0
Word = List (Option ℕ)

-- A word and an answer. ----

-- of a byte that isn't asked for nothing is said
pub none_asked : (x : Option ℕ) → is_as_it_stood x None ≡ true
none_asked x0 = grind arith

pub word_lane : (first : ℕ) (w : Word) (a : LoadAddress) (bs : List ℕ) (j : ℕ) → is_word_of first w a bs ≡ true
    → is_as_it_stood (lane_of j w) (read_byte a bs (first + j)) ≡ true
unfolding is_word_of
word_lane first [] a bs j h = refl
word_lane first (x ∷ w) a bs zero h = grind arith
word_lane first (x ∷ w) a bs (suc j) h =
    subst (λ p. is_as_it_stood (lane_of j w) (read_byte a bs p) ≡ true) (omega arith) (word_lane (first + 1) w a bs j (and_parts _ _ h).1)

pub lane_word : (first : ℕ) (w : Word) (a : LoadAddress) (bs : List ℕ)
    → ((j : ℕ) → is_as_it_stood (lane_of j w) (read_byte a bs (first + j)) ≡ true) → is_word_of first w a bs ≡ true
unfolding is_word_of
lane_word first [] a bs h = refl
lane_word first (x ∷ w) a bs h =
    and_from _ _ (subst (λ p. is_as_it_stood x (read_byte a bs p) ≡ true) (omega arith) (h 0))
    (lane_word (first + 1) w a bs (λ j. subst (λ p. is_as_it_stood (lane_of j w) (read_byte a bs p) ≡ true) (omega arith) (h (suc j))))

-- What holds of each byte of a word. ----

abbrev pub AreLanes : (ℕ → ℕ → Type 0) → Word → Type 0
AreLanes P w = (j b : ℕ) → lane_of j w ≡ Some b → P j b

written_lane : (bs ws : Word) (j b : ℕ) → lane_of j (written bs ws) ≡ Some b → (lane_of j bs ≡ Some b) ⊎ (lane_of j ws ≡ Some b)
unfolding written
written_lane (Some x ∷ bs) (w ∷ ws) zero b h = inl h
written_lane (x ∷ bs) (w ∷ ws) (suc j) b h = written_lane bs ws j b h
written_lane _ _ _ b h = inr h

then_some : {c : ℕ} (t : (ℕ → Option ℕ)) (j size : ℕ) → (if nat_lt j size then t j else None) ≡ Some c → (j < size) × (t j ≡ Some c)
then_some t j size h = grind arith

pub unit_lane : (unit : UnitPlace) (f : ℕ → Option ℕ) (j b : ℕ) → lane_of j (at_unit unit f) ≡ Some b
    → (j < unit.size) × (f (unit.first + j) ≡ Some b)
unit_lane unit f j b h = elim (cases_lt j 8) [
  | inl l ↦ then_some (λ k. f (unit.first + k)) j unit.size
      (sym (get_or-map-range_with_len (at_lane unit f) 0 8 j j None l (omega arith)) ∙ h)
  | inr l ↦ grind arith
]

-- What holds of each byte that a unit may have. ----

module _ (P : ℕ → ℕ → Type 0) where
  abbrev pub HasGot : Option Word → Type 0
  HasGot None = Unit {0}
  HasGot (Some w) = AreLanes P w

  pub record Holds (m : UnitMemory) : Type 0 where
    pub word : AreLanes P m.word
    pub stores : Each (λ s. AreLanes P s.bytes) m.stores
    pub loads : Each (λ l. HasGot l.got) m.loads

  -- what a store writes at a unit
  abbrev pub Writes : UnitPlace → HistoryEvent → Type 0
  Writes unit (StoreRequest number address bytes enables) = AreLanes P (at_unit unit (stored_byte address bytes.now enables))
  Writes unit event = Unit {0}

  holds_written : (bs ws : Word) → AreLanes P bs → AreLanes P ws → AreLanes P (written bs ws)
  holds_written bs ws p q j b h = grind (arith, written_lane)

  holds_step : (m n : UnitMemory) → Holds m → HiddenStep m n → Holds n
  holds_step m n h (inl (before, s, after, split, undone, made)) =
      let each = subst (Each (λ x. AreLanes P x.bytes)) split h.stores in
      subst Holds (sym made) (record {
        word = holds_written s.bytes _ (each_at (λ x. AreLanes P x.bytes) before s after each) h.word;
        stores = each_replace (λ x. AreLanes P x.bytes) before s _ after (λ p. p) each;
        loads = h.loads;
      })
  holds_step m n h (inr (before, l, after, split, undone, made)) =
      let each = subst (Each (λ x. HasGot x.got)) split h.loads in
      subst Holds (sym made) (record {
        word = h.word;
        stores = h.stores;
        loads = each_replace (λ x. HasGot x.got) before l _ after (λ p. h.word) each;
      })

  holds_requested : (m : UnitMemory) (number : ℕ) (address : LoadAddress) → (b : Bool) → Holds m
      → Holds (if b then with_load number address m else m)
  holds_requested m number address false h = h
  holds_requested m number address true h = record {
    word = h.word;
    stores = h.stores;
    loads = grind (arith, each_append);
  }

  holds_stored : (m : UnitMemory) (number : ℕ) (bytes : Word) → AreLanes P bytes → (b : Bool) → Holds m
      → Holds (if b then with_store number bytes m else m)
  holds_stored m number bytes p false h = h
  holds_stored m number bytes p true h = record {
    word = h.word;
    stores = grind (arith, each_append);
    loads = h.loads;
  }

  holds_seen : (unit : UnitPlace) (m n : UnitMemory) (event : HistoryEvent) → Writes unit event → Holds m → seen unit m event ≡ Some n
      → Holds n
  holds_seen unit m n x3 w h e = grind (arith, same_Some, holds_requested, some_if, each_filter, holds_stored)

  pub holds : (unit : UnitPlace) (start : UnitMemory) → Holds start → {history : List HistoryEvent} {m : UnitMemory}
      → MayBe unit start history m → Each (Writes unit) history → Holds m
  holds unit start h starts w = h
  holds unit start h (steps history m n r step) w = holds_step m n (holds unit start h r w) step
  holds unit start h (sees history event m n r e) w =
      let p = each_split _ history _ w in holds_seen unit m n event p.1.0 (holds unit start h r p.0) e
