-- What the judge of the atomic law says is said of the history that it keeps.
use Rattle.std.proofs.Common.{◌≡◌, ℕ, true, refl, sym, ◌∙◌, subst, List, [], ◌∷◌, ◌++◌, Option, ◌/◌}
use Rattle.std.specs.List.{find}
use Rattle.memory_histories.specs.declared.events.HistoryEvent.{HistoryEvent}
use Rattle.memory_histories.specs.declared.events.HistoryFault.{HistoryFault}
use Rattle.memory_histories.specs.declared.events.Rest.{Rest}
use Rattle.memory_histories.specs.declared.sets.ByteSet.{ByteSet}
use Rattle.atomic_histories.specs.declared.memory.AtomicMemory.{AtomicMemory}
use Rattle.atomic_histories.specs.declared.memory.AtomicFault.{AtomicFault}
use Rattle.atomic_histories.specs.declared.memory.AtomicFault.TheVariants as atomic
use Rattle.atomic_histories.specs.Operations.{Opened, none_opened, has_number}
use Rattle.atomic_histories.specs.Lost.{IsAtomicBut, FaultIsBut}
use Rattle.atomic_histories.specs.Held.{Held, nothing_held, IsWide, StandsBut}
use Rattle.atomic_histories.specs.May as may
use Rattle.atomic_histories.specs.Judge.{held, limit_of, HasSameMemory, StepFaultIsBut}
use Rattle.atomic_histories.proofs.Verdict.{formed_last}
use Rattle.history_sessions.specs.Atomic.{Atomic, opening, with_event, forgetting, IsLawful, IsRefused, IsFormed, IsAskedFor}
use Rattle.history_sessions.specs.Atomic.{IsHeld, IsJudgeOf, IsUndecided, IsUndecidedByte}
use Rattle.history_sessions.specs.declared.judge.Judge.TheVariants as judge
use Rattle.history_sessions.specs.Faults.{of_atomic}
use Rattle.history_sessions.specs.Kept.{AtomicFaultIs, NoSetIs}

moved : (h : Held) (a : Atomic) → IsHeld h a → (P : List ℕ → Rest → ℕ → Type 0) → P h.image h.rest h.size → P a.image a.rest a.size
moved h a k P p =
    subst (λ n. P a.image a.rest n) k.size (subst (λ r. P a.image r h.size) k.rest (subst (λ i. P i h.rest h.size) k.image p))

-- no event yet
pub opened : (m : AtomicMemory) (image : List ℕ) (rest : Rest) (size limit : ℕ) → held m ≡ nothing_held image rest size
    → StandsBut (held m) [] [] → limit_of m ≡ limit → IsJudgeOf m (opening image rest size limit)
opened m image rest size limit h stands same = record {
  kept = record { image = λ i. (h i).image; rest = λ i. (h i).rest; size = λ i. (h i).size; stands = stands };
  limit = same;
}

-- an event was taken
pub lawful : (m : AtomicMemory) (a : Atomic) (event : HistoryEvent) → IsJudgeOf m a
    → IsAtomicBut a.lost (held m).image (held m).rest (held m).size (a.events ++ event ∷ []) → IsLawful a event
lawful m a event k t = moved _ a k.kept (λ i r s. IsAtomicBut a.lost i r s (a.events ++ event ∷ [])) t

pub taken : (m n : AtomicMemory) (a : Atomic) (event : HistoryEvent) → IsJudgeOf m a → HasSameMemory (held n) (held m)
    → limit_of n ≡ limit_of m → StandsBut (held n) a.lost (a.events ++ event ∷ []) → IsJudgeOf n (with_event a event)
taken m n a event k same limit stands = record {
  kept = record {
    image = same.0 ∙ k.kept.image;
    rest = same.1 ∙ k.kept.rest;
    size = same.2 ∙ k.kept.size;
    stands = stands;
  };
  limit = limit ∙ k.limit;
}

-- it wasn't
pub still : (m n : AtomicMemory) (a : Atomic) → IsJudgeOf m a → held n ≡ held m → limit_of n ≡ limit_of m → IsJudgeOf n a
still m n a k same limit = record {
  kept = subst (λ (h : Held). IsHeld h a) (sym same) k.kept;
  limit = limit ∙ k.limit;
}

refused : (m : AtomicMemory) (a : Atomic) (event : HistoryEvent) (cause : HistoryFault) → IsJudgeOf m a
    → StepFaultIsBut a.lost (limit_of m) (held m) a.events event (atomic.Refused cause) → IsRefused a event cause
refused m a event cause k t = (
  moved _ a k.kept (λ i r s. FaultIsBut a.lost i r s a.events event cause) t.0,
  moved _ a k.kept (λ i r s. ¬ (IsAtomicBut a.lost i r s (a.events ++ event ∷ []))) t.1,
)

undecided : (m : AtomicMemory) (a : Atomic) (event : HistoryEvent) (address : ℕ) → IsJudgeOf m a
    → StepFaultIsBut a.lost (limit_of m) (held m) a.events event (atomic.Undecided address)
    → IsUndecided (judge.Atomic m) a event address
undecided m a event address k t = record {
  formed = t.0;
  memory = m;
  is_judge = refl;
  is_kept = k.kept;
  wide = subst (λ n. IsWide n (held m) event address) k.limit t.1;
}

pub faulty : (m : AtomicMemory) (a : Atomic) (event : HistoryEvent) (f : AtomicFault) → IsJudgeOf m a
    → StepFaultIsBut a.lost (limit_of m) (held m) a.events event f → AtomicFaultIs (judge.Atomic m) a event (of_atomic f)
faulty m a event (atomic.Refused cause) k t = refused m a event cause k t
faulty m a event (atomic.Undecided address) k t = undecided m a event address k t
faulty m a event atomic.OutOfMemory k t = t

-- what a load may return
pub set_found : (m : AtomicMemory) (a : Atomic) (number address : ℕ) (set : Option ByteSet) → IsJudgeOf m a
    → may.IsSetOf a.lost (held m).image (held m).rest (held m).size a.events number address set
    → may.IsSetOf a.lost a.image a.rest a.size a.events number address set
set_found m a number address set k t = moved _ a k.kept (λ i r s. may.IsSetOf a.lost i r s a.events number address set) t

wide_byte : (m : AtomicMemory) (a : Atomic) (byte address : ℕ) → IsJudgeOf m a → may.IsWideByte (limit_of m) (held m) byte address
    → IsUndecidedByte (judge.Atomic m) a byte address
wide_byte m a byte address k t = record {
  memory = m;
  is_judge = refl;
  is_kept = k.kept;
  wide = subst (λ n. may.IsWideByte n (held m) byte address) k.limit t;
}

asked_for : (m : AtomicMemory) (a : Atomic) (number byte : ℕ) → IsJudgeOf m a
    → may.asks (find (has_number number) (held m).opened.loads) byte ≡ true → IsAskedFor a number byte
asked_for m a number byte k t = subst (λ (o : Opened). may.asks (find (has_number number) o.loads) byte ≡ true) k.kept.stands.opened t

pub no_set : (m : AtomicMemory) (a : Atomic) (number byte : ℕ) (f : AtomicFault) → IsJudgeOf m a
    → may.asks (find (has_number number) (held m).opened.loads) byte ≡ true
    → may.IsNoVerdict (may.IsWideByte (limit_of m) (held m) byte) f → NoSetIs (judge.Atomic m) a number byte (of_atomic f)
no_set m a number byte (atomic.Refused cause) k t w = absurd w
no_set m a number byte (atomic.Undecided address) k t w = (asked_for m a number byte k t, wide_byte m a byte address k w)
no_set m a number byte atomic.OutOfMemory k t w = asked_for m a number byte k t

-- a unit is forgotten
pub forgot : (m n : AtomicMemory) (a : Atomic) (address : ℕ) → IsJudgeOf m a → HasSameMemory (held n) (held m) → limit_of n ≡ limit_of m
    → StandsBut (held n) (address / (held m).size ∷ a.lost) a.events → IsJudgeOf n (forgetting address a)
forgot m n a address k same limit stands = record {
  kept = record {
    image = same.0 ∙ k.kept.image;
    rest = same.1 ∙ k.kept.rest;
    size = same.2 ∙ k.kept.size;
    stands = subst (λ s. StandsBut (held n) (address / s ∷ a.lost) a.events) k.kept.size stands;
  };
  limit = limit ∙ k.limit;
}

-- ---- an event of the law has a form

pub formed : (a : Atomic) (event : HistoryEvent) → IsLawful a event → IsFormed a event
formed a event h = formed_last none_opened a.events event h.formed
