-- A turn of each part of a thread, one part after another.
use Rattle.std.proofs.Common.{◌≡◌, ◌↔◌, ◌<◌, ◌+◌, ℕ, List, [], ◌∷◌, ◌++◌, slice_index_or, refl, sym, ap, ◌∙◌, arith}
use Rattle.std.proofs.Common.{below_more, set, length, ◌⊎◌, inl, inr, add-one}
use Rattle.std.specs.List.{All}
use Rattle.std.specs.Prelude.{true, false, Option, Some, None, IfSome}
use Rattle.std.proofs.lemmas.List.{get_or-set_same, get_or-set_other, get_or_default, get_or_append_left, get_or_push, length-append}
use Rattle.std.proofs.lemmas.List.Sums.{fold-append}
use Rattle.ring_station.specs.declared.idle.Turn.{Turn}
use Rattle.ring_station.specs.Idle.{turn_of_both}
use Rattle.ring_station.specs.Turns.{HadTurns, TakeTurns, TakeAllTurns}

pub no_turns : {X : Type 0} (R : ℕ → X → X → Option Turn → Type 0) (xs : List X) → HadTurns R 0 xs xs None
no_turns R xs = record {
  made = [];
  number = refl;
  before = λ j d m less. absurd (omega arith);
  behind = λ j d less. refl;
  all_is = refl;
}

-- the next one has its turn
pub one_turn : {X : Type 0} (R : ℕ → X → X → Option Turn → Type 0) (k : ℕ) (old now : List X) (e y : X) (all m : Option Turn)
    → k < length now → R k (slice_index_or now k e) y m → HadTurns R k old now all
    → HadTurns R (k + 1) old (set now k y) (turn_of_both all m)
one_turn R k old now e y all m less turn h =
    let made = h.made ++ m ∷ [] in
    record {
      made = made;
      number = length-append h.made (m ∷ []) ∙ ap (λ n. n + 1) h.number;
      before = λ j d n u. below_more (λ i. R i (slice_index_or old i d) (slice_index_or (set now k y) i d) (slice_index_or made i n)) k
          (λ i v.
          rw (get_or_append_left h.made (m ∷ []) n i (rw h.number v), get_or-set_other now k i y d (λ q. omega arith)) (h.before i d n v))
          (rw (
            get_or_push h.made m n k h.number,
            get_or-set_same now k y d less,
            ← h.behind k d (omega arith),
            get_or_default now k d e less,
          )
          turn)
          j u;
      behind = λ j d u. get_or-set_other now k j y d (λ q. omega arith) ∙ h.behind j d (omega arith);
      all_is = ap (λ a. turn_of_both a m) h.all_is ∙ sym (fold-append turn_of_both None h.made _);
    }

-- what holds of each that has had its turn, and of the next one
pub one_more : {X : Type 0} (P : X → Type 0) (k : ℕ) (now : List X) (y : X) → k < length now
    → ((j : ℕ) (d : X) → j < k → P (slice_index_or now j d)) → P y
    → (j : ℕ) (d : X) → j < k + 1 → P (slice_index_or (set now k y) j d)
one_more P k now y less before here = λ j d u.
    below_more (λ i. P (slice_index_or (set now k y) i d)) k
    (λ i v. rw (get_or-set_other now k i y d (λ q. omega arith)) (before i d v)) (rw (get_or-set_same now k y d less) here) j u

-- what two turns come to is `None` only if each is
both_none : (one other : Option Turn) → turn_of_both one other ≡ None → (one ≡ None) × (other ≡ None)
both_none None other e = (refl, e)
both_none one None e = (e, refl)
both_none one other e = absurd (cc)

-- all turns come to `None` if and only if each of the runs is over
pub over_more : {X : Type 0} (P : X → Type 0) (k : ℕ) (now : List X) (y : X) (all m : Option Turn) → k < length now
    → ((m ≡ None) ↔ P y) → ((all ≡ None) ↔ ((j : ℕ) (d : X) → j < k → P (slice_index_or now j d)))
    → (turn_of_both all m ≡ None) ↔ ((j : ℕ) (d : X) → j < k + 1 → P (slice_index_or (set now k y) j d))
over_more P k now y all m less here before = (
  λ none. let both = both_none all m none in one_more P k now y less (before.0 both.0) (here.0 both.1),
  λ over. rw (
    before.1 (λ j d u. rw (get_or-set_other now k j y d (λ q. omega arith)) at (over j d (omega arith))),
    here.1 (rw (get_or-set_same now k y y less) at (over k y (omega arith))),
  ) refl,
)

-- a turn behind which the run goes on comes to something
pub none_if_over : (Q : Turn → Type 0) (m : Option Turn) {goes : _} → IfSome m (λ made. (goes ≡ true) × Q made) → goes ≡ false → m ≡ None
none_if_over Q None h e = refl
none_if_over Q (Some made) h e = cc

-- what each turn was is also what follows of it
pub turns_so : {X : Type 0} (R S : ℕ → X → X → Option Turn → Type 0) (k : ℕ) (old now : List X) (all : Option Turn)
    → ((j : ℕ) (x y : X) (m : Option Turn) → R j x y m → S j x y m) → HadTurns R k old now all → HadTurns S k old now all
turns_so R S k old now all so h = record {
  made = h.made;
  number = h.number;
  before = λ j d m less. so _ _ _ _ (h.before j d m less);
  behind = h.behind;
  all_is = h.all_is;
}

-- ---- turn by turn

-- the parts of a thread have come to this turn, from the one behind so many
pub record HaveCome {Part : Type 0} (Takes : ℕ → List Part → List Part → Type 0) (had turn : ℕ) (first last : List Part) : Type 0 where
  pub count : ℕ
  pub at : turn ≡ had + count
  pub taken : TakeTurns Takes had count first last

pub come_at_first : {Part : Type 0} {Takes : ℕ → List Part → List Part → Type 0} {had : ℕ} {xs : List Part} → HaveCome Takes had had xs xs
come_at_first = record { count = 0; at = omega arith; taken = refl }

pub come_further : {Part : Type 0} {Takes : ℕ → List Part → List Part → Type 0} {had turn : ℕ} {first before last : List Part}
    → HaveCome Takes had turn first before → Takes turn before last → HaveCome Takes had (turn + 1) first last
come_further {before = before} h taken =
    let at = h.at in
    record {
      count = h.count + 1;
      at = omega arith;
      taken = rw (add-one h.count) (before, h.taken, rw (← at) taken);
    }

-- to the last one, or until the runs of all are over
pub come_to_end : {Part : Type 0} {Takes : ℕ → List Part → List Part → Type 0} {IsOver : Part → Type 0} {had turn turns : ℕ}
    {first last : List Part} → (turn ≡ turns) ⊎ All IsOver last → HaveCome Takes had turn first last
    → TakeAllTurns Takes IsOver had turns first last
come_to_end (inl all) h = record { count = h.count; taken = h.taken; ended = inl (sym h.at ∙ all) }
come_to_end (inr over) h = record { count = h.count; taken = h.taken; ended = inr over }
