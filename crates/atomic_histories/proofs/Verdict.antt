-- What a step says: an event that leaves each unit a way is of the law, and another is none.
use Rattle.std.proofs.Common.{ℕ, Option, Some, None, inl, inr, arith, ◌≡◌, ◌*◌, ◌≤◌, true, false, List, [], ◌∷◌, ◌++◌, fold, Result, Ok}
use Rattle.std.proofs.Common.{Err, IfOk, IfErr, OnOk, OnErr, sym, ap, ◌∙◌, subst}
use Rattle.memory_histories.specs.declared.events.HistoryEvent.{HistoryEvent}
use Rattle.atomic_histories.specs.declared.memory.AtomicFault.{AtomicFault}
use Rattle.atomic_histories.specs.declared.memory.AtomicFault.TheVariants.{Refused, Undecided, OutOfMemory}
use Rattle.atomic_histories.specs.Held.{Held, nothing_held, is_over_at, first_halt, IsWide, StandsBut}
use Rattle.atomic_histories.specs.Told.{AreToldAlike, IsToldOf}
use Rattle.std.specs.List.{find}
use Rattle.std.specs.Result.{result_err}
use Rattle.std.proofs.lemmas.Bool.{and_parts}
use Rattle.memory_histories.specs.declared.events.HistoryEvent.TheVariants.{LoadResponse}
use Rattle.memory_histories.specs.declared.events.HistoryFault.{HistoryFault}
use Rattle.memory_histories.specs.declared.events.HistoryFault.TheVariants.{WrongByte}
use Rattle.memory_histories.specs.declared.events.Rest.{Rest}
use Rattle.atomic_histories.specs.Operations.{Opened, opened_after, opened_by, has_number, form_fault}
use Rattle.atomic_histories.specs.Law.{is_formed, IsAtomic}
use Rattle.atomic_histories.specs.Lost.{IsAtomicBut, FaultIsBut}
use Rattle.atomic_histories.specs.declared.memory.AtomicMemory.{AtomicMemory}
use Rattle.atomic_histories.specs.Judge.{held, place_from, place_in, HasSameMemory, IsTaken, StepFaultIs, StepFaultIsBut}
use Rattle.atomic_histories.proofs.Links.{open_load}
use Rattle.atomic_histories.proofs.Whole.{stands_all_first, stands_all_after, atomic_after, refused_at, only_answers}
use Rattle.atomic_histories.proofs.Wide.{wide_kept}

pub told_alike : (limit : ℕ) (h : Held) (event : HistoryEvent) (one other : Option AtomicFault) → AreToldAlike limit h event one other
told_alike limit h event x3 other a b = grind arith

-- Malformed events. ----

pub formed_last : (o : Opened) (history : List HistoryEvent) (event : HistoryEvent) → is_formed o (history ++ event ∷ []) ≡ true
    → form_fault (fold opened_after o history) event ≡ None
formed_last o [] event h = grind arith
formed_last o (x ∷ xs) event h = grind (arith, formed_last (opened_after o x) xs event, and_parts)

module _ (h : Held) (event : HistoryEvent) (lost : List ℕ) (history : List HistoryEvent) (s : StandsBut h lost history) where
  -- in the words of the history
  as_opened : (o : Option HistoryFault) → form_fault h.opened event ≡ o → form_fault (opened_by history) event ≡ o
  as_opened o f = ap (λ x. form_fault x event) (sym s.opened) ∙ f

  fault_is : (cause : HistoryFault) → form_fault (opened_by history) event ≡ Some cause
      → FaultIsBut lost h.image h.rest h.size history event cause
  fault_is x0 f = grind arith

  malformed : (cause : HistoryFault) → form_fault h.opened event ≡ Some cause
      → FaultIsBut lost h.image h.rest h.size history event cause × ¬ (IsAtomicBut lost h.image h.rest h.size (history ++ event ∷ []))
  malformed cause f = grind (arith, fault_is, as_opened, formed_last)

-- Wrong bytes. ----

wrong : (lost : List ℕ) (limit : ℕ) (h : Held) (event : HistoryEvent) (k : ℕ) → form_fault h.opened event ≡ None
    → first_halt limit h event ≡ Some k → is_over_at limit h event k ≡ false
    → (history : List HistoryEvent) → StandsBut h lost history
    → FaultIsBut lost h.image h.rest h.size history event (WrongByte (place_in h.opened.loads event (k * h.size)))
    × ¬ (IsAtomicBut lost h.image h.rest h.size (history ++ event ∷ []))
wrong lost limit h (LoadResponse number bytes) k f e few history s =
    let event = LoadResponse number bytes in
    let r = refused_at h lost history event s f limit k e few in
    let o = open_load _ _ f in
    let found =
    ap (λ x. find (has_number number) x.loads) (sym s.opened) ∙ o.1 in (
      (as_opened h event lost history s None f, (k, o.0, found, ap (λ x. place_from x (k * h.size)) o.1, r.0, r.1, r.2)),
      λ a. r.1 (a.moments k r.0),
    )
wrong lost limit h event k f e few history s = absurd (only_answers h lost history event s f tt limit k e few)

-- Answers, once units were forgotten. ----

module _ (limit : ℕ) (h : Held) (event : HistoryEvent) where
  pub fault_law_but : (e : AtomicFault) → IsToldOf limit h event (Some e)
      → (lost : List ℕ) (history : List HistoryEvent) → StandsBut h lost history → StepFaultIsBut lost limit h history event e
  fault_law_but (Refused cause) (inl f) lost history s =
      malformed h event lost history s cause (f.1 ∙ ap Some cc)
  fault_law_but (Refused cause) (inr p) lost history s =
      subst (λ c. StepFaultIsBut lost limit h history event (Refused c)) (sym p.1.3)
      (wrong lost limit h event p.1.0 p.0 p.1.1 p.1.2 history s)
  fault_law_but (Undecided address) (inr p) lost history s =
      let wide : IsWide limit h event address = grind arith in
      (as_opened h event lost history s None p.0, wide, wide_kept limit h lost history event address s wide)
  fault_law_but OutOfMemory (inr p) lost history s = as_opened h event lost history s None p.0
  fault_law_but _ (inl f) lost history s = cc

  pub accepted_but : (r : Result (Unit {0}) AtomicFault) (next : Held) → IsToldOf limit h event (result_err r)
      → OnOk r (IsTaken h event next) → (lost : List ℕ) (history : List HistoryEvent) → StandsBut h lost history
      → OnOk r (IsAtomicBut lost h.image h.rest h.size (history ++ event ∷ []) × StandsBut next lost (history ++ event ∷ []))
  accepted_but (Ok u) next told t lost history s =
      (atomic_after h lost history event s told.0 limit told.1.0, stands_all_after h lost history event s told.0 limit told.1.0 next t)
  accepted_but (Err e) next told t lost history s = tt

  pub refused_but : (r : Result (Unit {0}) AtomicFault) → IsToldOf limit h event (result_err r)
      → (lost : List ℕ) (history : List HistoryEvent) → StandsBut h lost history → IfErr r (StepFaultIsBut lost limit h history event)
  refused_but x0 f lost history s = grind (arith, fault_law_but)

-- Where no unit was forgotten. ----

module _ (image : List ℕ) (rest : Rest) (size : ℕ) (history : List HistoryEvent) where
  pub to_atomic : IsAtomicBut [] image rest size history → IsAtomic image rest size history
  to_atomic a = grind arith

module _ (limit : ℕ) (h : Held) (event : HistoryEvent) where
  step_fault_all : (history : List HistoryEvent) (e : AtomicFault) → StepFaultIsBut [] limit h history event e
      → StepFaultIs limit h history event e
  step_fault_all history x1 p = grind arith

  pub fault_law : (e : AtomicFault) → IsToldOf limit h event (Some e)
      → (history : List HistoryEvent) → StandsBut h [] history → StepFaultIs limit h history event e
  fault_law e f history s = grind (arith, step_fault_all, fault_law_but)

  pub accepted_law : (r : Result (Unit {0}) AtomicFault) (next : Held) → IsToldOf limit h event (result_err r)
      → OnOk r (IsTaken h event next) → (history : List HistoryEvent) → StandsBut h [] history
      → OnOk r (IsAtomic h.image h.rest h.size (history ++ event ∷ []) × StandsBut next [] (history ++ event ∷ []))
  accepted_law (Ok u) next told t history s =
      let a = accepted_but limit h event (Ok u) next told t [] history s in (to_atomic h.image h.rest h.size _ a.0, a.1)
  accepted_law (Err e) next told t history s = tt

  pub refused_law : (r : Result (Unit {0}) AtomicFault) → IsToldOf limit h event (result_err r)
      → (history : List HistoryEvent) → StandsBut h [] history → IfErr r (StepFaultIs limit h history event)
  refused_law x0 f history s = grind (arith, fault_law)

-- The first memory. ----

pub first_law : {E : Type 0} (r : Result AtomicMemory E) (image : List ℕ) (rest : Rest) (size : ℕ) → 1 ≤ size
    → IfOk r (λ m. held m ≡ nothing_held image rest size)
    → IfOk r (λ m. StandsBut (held m) [] [])
first_law (Ok m) image rest size pos e = subst (λ h. StandsBut h [] []) (sym e) (stands_all_first image rest size pos)
first_law (Err e) image rest size pos h = tt

-- Memory before the first event stays what it was. ----

pub same_kept : {E A : Type 0} (r : Result (Unit {0}) E) (h next : Held) → OnOk r A → OnErr r (next ≡ h) → (A → HasSameMemory next h)
    → HasSameMemory next h
same_kept x0 h next t same f = grind arith
