-- An event is judged by its numbers and bytes alone.
use Rattle.std.proofs.Common.{◌≡◌, ℕ, true, ◌&&◌, inl, inr, Option, Some, None, List, [], ◌∷◌, ◌++◌, fold, refl, sym, ◌∙◌, ap, subst}
use Rattle.std.specs.Prelude.{is_none}
use Rattle.std.specs.Borrow.{Bor}
use Rattle.memory_histories.specs.declared.events.HistoryEvent.{HistoryEvent}
use Rattle.memory_histories.specs.declared.events.HistoryEvent.TheVariants.{LoadRequest, LoadResponse, StoreRequest, StoreResponse}
use Rattle.memory_histories.specs.declared.events.HistoryFault.{HistoryFault}
use Rattle.memory_histories.specs.declared.events.HistoryFault.TheVariants.{OutOfRange, NoByteEnabled, NumberInUse, NotOpen, WrongLength}
use Rattle.memory_histories.specs.declared.events.HistoryFault.TheVariants.{WrongByte}
use Rattle.memory_histories.specs.declared.events.Rest.{Rest}
use Rattle.memory_histories.specs.Windows.{Windows, windows_after}
use Rattle.memory_histories.specs.Regular.{fault}
use Rattle.memory_histories.specs.Flat.{Flat, flat_fault, flat_after}
use Rattle.atomic_histories.specs.declared.memory.AtomicMemory.{AtomicMemory}
use Rattle.atomic_histories.specs.declared.unit.UnitPlace.{UnitPlace}
use Rattle.atomic_histories.specs.Operations.{Opened, none_opened, opened_after, form_fault}
use Rattle.atomic_histories.specs.Law.{UnitMemory, seen, MayBe, starts, steps, sees, unit_at, is_formed, IsAtomicAt}
use Rattle.atomic_histories.specs.Lost.{IsWrongPlaceBut, FaultIsBut}
use Rattle.atomic_histories.specs.Followed.{Pair, Ways}
use Rattle.atomic_histories.specs.Stands.{Each, EachWay, IsOn, StandsFor}
use Rattle.atomic_histories.specs.Held.{Held, IsWide, StandsBut}
use Rattle.atomic_histories.specs.Judge.{held as held_by}
use Rattle.history_reasons.specs.declared.open.OpenOperation.{OpenOperation}
use Rattle.history_reasons.specs.Open.{loads_then, stores_then}
use Rattle.history_sessions.specs.declared.faults.JudgeFault.{JudgeFault}
use Rattle.history_sessions.specs.declared.faults.JudgeFault.TheVariants.{Refused, Undecided, TooLong, OutOfMemory}
use Rattle.history_sessions.specs.declared.judge.Judge.{Judge}
use Rattle.history_sessions.specs.declared.judge.Judge.TheVariants as judge
use Rattle.history_sessions.specs.Events.{held, plain}
use Rattle.history_sessions.specs.Atomic.{Atomic, with_event, IsLawful, IsJudgeOf}
use Rattle.history_sessions.specs.History.{History, OfRegular, OfFlat, OfAtomic, Passes, history_after}
use Rattle.history_sessions.specs.Kept.{IsOf, ExactFaultIs, AtomicFaultIs, JudgeFaultIs, IsFound, IsExactlyFound, IsAtomicallyFound}

-- what is the same for bytes behind any reference is the same for the plain event
same : {X : Type 0} (f : HistoryEvent → X)
    → ((n : ℕ) (bytes : Bor (List ℕ)) → f (LoadResponse n (held bytes.now)) ≡ f (LoadResponse n bytes))
    → ((n a : ℕ) (bytes : Bor (List ℕ)) (enables : ℕ) → f (StoreRequest n a (held bytes.now) enables) ≡ f (StoreRequest n a bytes enables))
    → (e : HistoryEvent) → f (plain e) ≡ f e
same f load store (LoadRequest n a count enables) = refl
same f load store (LoadResponse n bytes) = load n bytes
same f load store (StoreRequest n a bytes enables) = store n a bytes enables
same f load store (StoreResponse n) = refl

pub seen_after : (w : Windows) (e : HistoryEvent) → windows_after w (plain e) ≡ windows_after w e
seen_after w e = same (windows_after w) (λ n bytes. refl) (λ n a bytes enables. refl) e

pub open_loads_after : (os : List OpenOperation) (e : HistoryEvent) → loads_then os (plain e) ≡ loads_then os e
open_loads_after os e = same (loads_then os) (λ n bytes. refl) (λ n a bytes enables. refl) e

pub open_stores_after : (os : List OpenOperation) (e : HistoryEvent) → stores_then os (plain e) ≡ stores_then os e
open_stores_after os e = same (stores_then os) (λ n bytes. refl) (λ n a bytes enables. refl) e

-- ---- by the atomic law

-- events that are told apart by where their bytes lie alone
record Alike (e f : HistoryEvent) : Type 0 where
  at_unit : (unit : UnitPlace) (m : UnitMemory) → seen unit m e ≡ seen unit m f
  faulty : (o : Opened) → form_fault o e ≡ form_fault o f
  opens : (o : Opened) → opened_after o e ≡ opened_after o f

alike_plain : (e : HistoryEvent) → Alike (plain e) e
alike_plain e = record {
  at_unit = λ unit m. same (seen unit m) (λ n bytes. refl) (λ n a bytes enables. refl) e;
  faulty = λ o. same (form_fault o) (λ n bytes. refl) (λ n a bytes enables. refl) e;
  opens = λ o. same (opened_after o) (λ n bytes. refl) (λ n a bytes enables. refl) e;
}

plain_alike : (e : HistoryEvent) → Alike e (plain e)
plain_alike e = let a = alike_plain e in record {
  at_unit = λ unit m. sym (a.at_unit unit m);
  faulty = λ o. sym (a.faulty o);
  opens = λ o. sym (a.opens o);
}

-- the last event
snoc_same : {X : Type 0} (xs ys : List X) (x y : X) → xs ++ x ∷ [] ≡ ys ++ y ∷ [] → (xs ≡ ys) × (x ≡ y)
snoc_same [] [] x y h = (refl, cc)
snoc_same [] (b ∷ []) x y h = cc
snoc_same [] (b ∷ c ∷ ys) x y h = cc
snoc_same (a ∷ []) [] x y h = cc
snoc_same (a ∷ c ∷ xs) [] x y h = cc
snoc_same (a ∷ xs) (b ∷ ys) x y h =
    let first : a ≡ b = cc in
    let others : xs ++ x ∷ [] ≡ ys ++ y ∷ [] = cc in
    let r = snoc_same xs ys x y others in
    (λ i. first i ∷ r.0 i, r.1)

no_snoc : {X : Type 0} (xs : List X) (x : X) → [] ≡ xs ++ x ∷ [] → ⊥
no_snoc [] x h = cc
no_snoc (a ∷ xs) x h = cc

-- what a unit may be behind an event, it may be behind one that is like it
may_be : (unit : UnitPlace) (start : UnitMemory) (es : List HistoryEvent) (e f : HistoryEvent) → Alike e f
    → (hs : List HistoryEvent) (m : UnitMemory)
    → MayBe unit start hs m → hs ≡ es ++ e ∷ [] → MayBe unit start (es ++ f ∷ []) m
may_be unit start es e f a hs m starts is = absurd (no_snoc es e is)
may_be unit start es e f a hs m (steps gs k n r step) is = steps _ k n (may_be unit start es e f a gs k r is) step
may_be unit start es e f a hs m (sees gs last k n r x) is =
    let p = snoc_same gs es last e is in
    sees es f k n (subst (λ y. MayBe unit start y k) p.0 r) (sym (a.at_unit unit k) ∙ subst (λ y. seen unit k y ≡ Some n) p.1 x)

atomic_at : (image : List ℕ) (rest : Rest) (unit : UnitPlace) (es : List HistoryEvent) (e f : HistoryEvent) → Alike e f
    → IsAtomicAt image rest unit (es ++ e ∷ []) → IsAtomicAt image rest unit (es ++ f ∷ [])
atomic_at image rest unit es e f a (m, may) = (m, may_be unit _ es e f a _ m may refl)

formed : (o : Opened) (es : List HistoryEvent) (e f : HistoryEvent) → Alike e f → is_formed o (es ++ e ∷ []) ≡ is_formed o (es ++ f ∷ [])
formed o [] e f a = ap (λ x. is_none x && true) (a.faulty o)
formed o (x ∷ xs) e f a = ap (λ t. is_none (form_fault o x) && t) (formed (opened_after o x) xs e f a)

opened : (o : Opened) (es : List HistoryEvent) (e f : HistoryEvent) → Alike e f
    → fold opened_after o (es ++ e ∷ []) ≡ fold opened_after o (es ++ f ∷ [])
opened o [] e f a = a.opens o
opened o (x ∷ xs) e f a = opened (opened_after o x) xs e f a

lawful : (a : Atomic) (e f : HistoryEvent) → Alike e f → IsLawful a e → IsLawful a f
lawful a e f like h = record {
  formed = sym (formed none_opened a.events e f like) ∙ h.formed;
  moments = λ k left. atomic_at a.image a.rest _ a.events e f like (h.moments k left);
}

unit_stands : (start : UnitMemory) (unit : UnitPlace) (u : Ways) (es : List HistoryEvent) (e f : HistoryEvent) → Alike e f → Alike f e
    → StandsFor start unit u (es ++ e ∷ []) → StandsFor start unit u (es ++ f ∷ [])
unit_stands start unit u es e f a b s = record {
  asked = s.asked;
  timely = s.timely;
  apart = s.apart;
  alike = s.alike;
  sound = each_of u.pairs s.sound;
  complete = λ m may. s.complete m (may_be unit start es f e b (es ++ f ∷ []) m may refl);
}
  where
    each_of : (ps : List Pair) → Each (EachWay u.loads (λ c. (m : UnitMemory) → IsOn c m → MayBe unit start (es ++ e ∷ []) m)) ps
        → Each (EachWay u.loads (λ c. (m : UnitMemory) → IsOn c m → MayBe unit start (es ++ f ∷ []) m)) ps
    each_of [] h = tt
    each_of (p ∷ ps) h =
        (λ path has m on. may_be unit start es e f a (es ++ e ∷ []) m (h.0 path has m on) refl, each_of ps h.1)

all_stand : (k : Held) (lost : List ℕ) (es : List HistoryEvent) (e f : HistoryEvent) → Alike e f → Alike f e
    → StandsBut k lost (es ++ e ∷ []) → StandsBut k lost (es ++ f ∷ [])
all_stand k lost es e f a b s = record {
  sized = s.sized;
  formed = sym (formed none_opened es e f a) ∙ s.formed;
  opened = s.opened ∙ opened none_opened es e f a;
  units = λ j. elim (s.units j) [
    | inl p ↦ inl p
    | inr p ↦
        let unit = unit_at k.size j in
        inr (p.0, (unit_stands _ unit _ es e f a b p.1.0, p.1.1))
  ];
}

wrong_place : (a : Atomic) (e : HistoryEvent) (place : ℕ) → IsWrongPlaceBut a.lost a.image a.rest a.size a.events e place
    → IsWrongPlaceBut a.lost a.image a.rest a.size a.events (plain e) place
wrong_place a (LoadResponse number bytes) place (k, o, found, at, left, never, below) =
    let e = LoadResponse number bytes in (
      k,
      o,
      found,
      at,
      left,
      λ h. never (atomic_at a.image a.rest (unit_at a.size k) a.events (plain e) e (alike_plain e) h),
      λ j lt there. atomic_at a.image a.rest _ a.events e _ (plain_alike e) (below j lt there),
    )
wrong_place a (LoadRequest number address n enables) place h = absurd h
wrong_place a (StoreRequest number address bytes enables) place h = absurd h
wrong_place a (StoreResponse number) place h = absurd h

fault_too : (a : Atomic) (e : HistoryEvent) (cause : HistoryFault) → FaultIsBut a.lost a.image a.rest a.size a.events e cause
    → FaultIsBut a.lost a.image a.rest a.size a.events (plain e) cause
fault_too a e (WrongByte place) (none, h) = ((alike_plain e).faulty _ ∙ none, wrong_place a e place h)
fault_too a e OutOfRange h = (alike_plain e).faulty _ ∙ h
fault_too a e NoByteEnabled h = (alike_plain e).faulty _ ∙ h
fault_too a e NumberInUse h = (alike_plain e).faulty _ ∙ h
fault_too a e NotOpen h = (alike_plain e).faulty _ ∙ h
fault_too a e WrongLength h = (alike_plain e).faulty _ ∙ h

wide : (limit : ℕ) (h : Held) (e : HistoryEvent) (address : ℕ) → IsWide limit h e address → IsWide limit h (plain e) address
wide limit h (LoadRequest number at n enables) address w = w
wide limit h (LoadResponse number bytes) address w = w
wide limit h (StoreRequest number at bytes enables) address w = w
wide limit h (StoreResponse number) address w = w

atomic_fault : (j : Judge) (a : Atomic) (e : HistoryEvent) (f : JudgeFault) → AtomicFaultIs j a e f → AtomicFaultIs j a (plain e) f
atomic_fault j a e (Refused cause) (why, never) = (fault_too a e cause why, λ h. never (lawful a (plain e) e (alike_plain e) h))
atomic_fault j a e (Undecided address) u = record {
  formed = (alike_plain e).faulty _ ∙ u.formed;
  memory = u.memory;
  is_judge = u.is_judge;
  is_kept = u.is_kept;
  wide = wide a.limit (held_by u.memory) e address u.wide;
}
atomic_fault j a e TooLong h = h
atomic_fault j a e OutOfMemory h = (alike_plain e).faulty _ ∙ h

atomic_after : (m : AtomicMemory) (a : Atomic) (e : HistoryEvent) → IsJudgeOf m (with_event a e) → IsJudgeOf m (with_event a (plain e))
atomic_after m a e k = record {
  kept = record {
    image = k.kept.image;
    rest = k.kept.rest;
    size = k.kept.size;
    stands = all_stand (held_by m) a.lost a.events e _ (plain_alike e) (alike_plain e) k.kept.stands;
  };
  limit = k.limit;
}

-- ---- by any law

regular_fault : (w : Windows) (e : HistoryEvent) → fault w (plain e) ≡ fault w e
regular_fault w e = same (fault w) (λ n bytes. refl) (λ n a bytes enables. refl) e

fault_flat : (f : Flat) (e : HistoryEvent) → flat_fault f (plain e) ≡ flat_fault f e
fault_flat f e = same (flat_fault f) (λ n bytes. refl) (λ n a bytes enables. refl) e

after_flat : (f : Flat) (e : HistoryEvent) → flat_after f (plain e) ≡ flat_after f e
after_flat f e = same (flat_after f) (λ n bytes. refl) (λ n a bytes enables. refl) e

pub passes : (h : History) (e : HistoryEvent) → Passes h e → Passes h (plain e)
passes (OfRegular w) e h = regular_fault w e ∙ h
passes (OfFlat f) e h = fault_flat f e ∙ h
passes (OfAtomic a) e h = lawful a e _ (plain_alike e) h

pub kept_after : (j : Judge) (h : History) (e : HistoryEvent) → IsOf j (history_after h e) → IsOf j (history_after h (plain e))
kept_after j (OfRegular w) e k = subst (λ v. IsOf j (OfRegular v)) (sym (seen_after w e)) k
kept_after j (OfFlat f) e k = subst (λ v. IsOf j (OfFlat v)) (sym (after_flat f e)) k
kept_after (judge.Atomic m) (OfAtomic a) e k = atomic_after m a e k
kept_after (judge.Regular m) (OfAtomic a) e k = absurd k
kept_after (judge.Flat m) (OfAtomic a) e k = absurd k

pub fault_is : (j : Judge) (h : History) (e : HistoryEvent) (f : JudgeFault) → JudgeFaultIs j h e f → JudgeFaultIs j h (plain e) f
fault_is j (OfRegular w) e f h = subst (λ o. ExactFaultIs o w.moment f) (sym (regular_fault w e)) h
fault_is j (OfFlat w) e f h = subst (λ o. ExactFaultIs o w.moment f) (sym (fault_flat w e)) h
fault_is j (OfAtomic a) e f h = atomic_fault j a e f h

atomic_found : (j : Judge) (a : Atomic) (e : HistoryEvent) (told : Option JudgeFault) → IsAtomicallyFound j a e told
    → IsAtomicallyFound j a (plain e) told
atomic_found j a e None h = lawful a e _ (plain_alike e) h
atomic_found j a e (Some f) h = atomic_fault j a e f h

pub found_is : (j : Judge) (h : History) (e : HistoryEvent) (told : Option JudgeFault) → IsFound j h e told → IsFound j h (plain e) told
found_is j (OfRegular w) e told h = subst (λ o. IsExactlyFound o told) (sym (regular_fault w e)) h
found_is j (OfFlat w) e told h = subst (λ o. IsExactlyFound o told) (sym (fault_flat w e)) h
found_is j (OfAtomic a) e told h = atomic_found j a e told h
