-- What a judge finds of an event is what a step would say of it.
use Rattle.std.proofs.Common.{◌≡◌, ℕ, refl, sym, subst}
use Rattle.std.specs.Prelude.{Option, Some, None}
use Rattle.memory_histories.specs.declared.events.HistoryEvent.{HistoryEvent}
use Rattle.memory_histories.specs.declared.events.HistoryFault.{HistoryFault}
use Rattle.history_sessions.specs.declared.faults.JudgeFault.{JudgeFault}
use Rattle.history_sessions.specs.declared.judge.Judge.{Judge}
use Rattle.history_sessions.specs.declared.faults.JudgeFault.TheVariants.{Refused, OutOfMemory}
use Rattle.history_sessions.specs.History.{History, OfRegular, OfFlat, OfAtomic}
use Rattle.history_sessions.specs.Kept.{ExactFaultIs, IsExactlyFound, JudgeFaultIs, IsFound}
use Rattle.history_sessions.proofs.AtomicJudge.{formed}

exact_fault : (found : Option HistoryFault) (moment : ℕ) (told : JudgeFault) → IsExactlyFound found (Some told)
    → ExactFaultIs found moment told
exact_fault None moment told h = cc
exact_fault (Some cause) moment told h =
    let same : told ≡ Refused cause = cc in subst (λ f. ExactFaultIs (Some cause) moment f) (sym same) refl

exact_none : (found : Option HistoryFault) → IsExactlyFound found None → found ≡ None
exact_none None h = refl
exact_none (Some cause) h = cc

pub not_taken : (j : Judge) (h : History) (event : HistoryEvent) (told : JudgeFault) → IsFound j h event (Some told)
    → JudgeFaultIs j h event told
not_taken j (OfRegular w) event told f = exact_fault _ w.moment told f
not_taken j (OfFlat w) event told f = exact_fault _ w.moment told f
not_taken j (OfAtomic a) event told f = f

pub no_room : (j : Judge) (h : History) (event : HistoryEvent) → IsFound j h event None → JudgeFaultIs j h event OutOfMemory
no_room j (OfRegular w) event f = exact_none _ f
no_room j (OfFlat w) event f = exact_none _ f
no_room j (OfAtomic a) event f = formed a event f
