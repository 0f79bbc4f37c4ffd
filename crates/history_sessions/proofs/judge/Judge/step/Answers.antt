use Rattle.std.proofs.Common.{◌≡◌, sym, subst}
use Rattle.std.specs.Prelude.{IfErr, Result}
use Rattle.memory_histories.specs.declared.events.HistoryEvent.{HistoryEvent}
use Rattle.memory_histories.specs.declared.flat.FlatHistory.{FlatHistory}
use Rattle.memory_histories.specs.Flat.{Flat, flat_fault}
use Rattle.memory_histories.specs.FlatShown.{shown}
use Rattle.history_sessions.specs.declared.faults.JudgeFault.{JudgeFault}
use Rattle.history_sessions.specs.declared.judge.Judge.{Judge}
use Rattle.history_sessions.specs.declared.judge.Judge.TheVariants as judge
use Rattle.history_sessions.specs.History.{History, OfRegular, OfFlat, OfAtomic}
use Rattle.history_sessions.specs.Kept.{ExactFaultIs, IsOf, JudgeFaultIs}
use Rattle.history_sessions.proofs.judge.Judge.step.Goals as goal

of_flat : {X : Type 0} (m : FlatHistory) (event : HistoryEvent) (r : Result X JudgeFault)
    → ((f : Flat) → shown m ≡ f → IfErr r (ExactFaultIs (flat_fault f event) f.moment)) → (h : History) → IsOf (judge.Flat m) h
    → IfErr r (JudgeFaultIs (judge.Flat m) h event)
of_flat m event r is (OfFlat f) k = is f k
of_flat m event r is (OfRegular w) k = absurd k
of_flat m event r is (OfAtomic a) k = absurd k

pub returns-in-Flat-clause-fault : goal.returns-in-Flat-clause-fault
returns-in-Flat-clause-fault c h k =
    subst (λ (j : Judge). IfErr c.step_flat.result (JudgeFaultIs j h c.args.event)) (sym c.in-Flat.is)
    (of_flat c.in-Flat.memory c.args.event c.step_flat.result c.step_flat.ensures.fault h (subst (λ (j : Judge). IsOf j h) c.in-Flat.is k))
