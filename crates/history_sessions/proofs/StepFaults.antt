-- What a fault of a law's own judge says of an event, the fault that it becomes says of it.
use Rattle.std.proofs.Common.{◌≡◌, sym, subst}
use Rattle.std.specs.Prelude.{Result, Ok, Err, IsErrAnd}
use Rattle.memory_histories.specs.declared.events.HistoryEvent.{HistoryEvent}
use Rattle.memory_histories.specs.declared.events.StepFault.{StepFault}
use Rattle.memory_histories.specs.declared.events.StepFault.TheVariants as step
use Rattle.memory_histories.specs.Windows.{Windows}
use Rattle.memory_histories.specs.Regular.{fault}
use Rattle.memory_histories.specs.Flat.{Flat, flat_fault}
use Rattle.memory_histories.specs.Shown.{StepFaultIs}
use Rattle.memory_histories.specs.FlatShown.{FlatFaultIs}
use Rattle.history_sessions.specs.Faults.{of_step}
use Rattle.history_sessions.specs.Kept.{ExactFaultIs}

-- what holds of an error holds of what `?` makes of it
pub passed_on : {X E : Type 0} (r : Result X E) (P : Result X E → Type 0) (e : E) → IsErrAnd r (λ f. f ≡ e) → P (Err e) → P r
passed_on (Ok x) P e same p = absurd same
passed_on (Err f) P e same p = subst (λ g. P (Err g)) (sym same) p

pub of_regular : (w : Windows) (event : HistoryEvent) (f : StepFault) → StepFaultIs w event f
    → ExactFaultIs (fault w event) w.moment (of_step f)
of_regular w event (step.Refused cause) is = is
of_regular w event step.TooLong is = is
of_regular w event step.OutOfMemory is = is

pub of_flat : (m : Flat) (event : HistoryEvent) (f : StepFault) → FlatFaultIs m event f
    → ExactFaultIs (flat_fault m event) m.moment (of_step f)
of_flat m event (step.Refused cause) is = is
of_flat m event step.TooLong is = is
of_flat m event step.OutOfMemory is = is
