-- Each event and each open operation has a moment.
use Rattle.std.proofs.Common.{◌≡◌, ℕ, ◌+◌, ◌≤◌, not, ◌==◌, refl, List, [], ◌∷◌, ◌++◌, length, length-append, arith}
use Rattle.std.proofs.lemmas.List.Filters.{length-filter_both}
use Rattle.memory_histories.specs.declared.events.HistoryEvent.{HistoryEvent}
use Rattle.memory_histories.specs.declared.events.HistoryEvent.TheVariants.{LoadRequest, LoadResponse, StoreRequest, StoreResponse}
use Rattle.memory_histories.specs.declared.events.Rest.{Rest}
use Rattle.memory_histories.specs.Windows.{Windows, windows_after}
use Rattle.memory_histories.specs.Flat.{Flat, flat_after}
use Rattle.history_reasons.specs.declared.open.OpenOperation.{OpenOperation}
use Rattle.history_reasons.specs.Open.{loads_then, stores_then, without_operation}
use Rattle.history_sessions.specs.declared.faults.JudgeFault.TheVariants.{TooLong}
use Rattle.history_sessions.specs.declared.judge.HistoryLaw.{HistoryLaw}
use Rattle.history_sessions.specs.declared.judge.HistoryLaw.TheVariants.{Flat as by_flat, Atomic as by_atomic, Regular as by_regular}
use Rattle.history_sessions.specs.declared.judge.Judge.{Judge}
use Rattle.history_sessions.specs.History.{History, OfRegular, OfFlat, OfAtomic, history_after}
use Rattle.history_sessions.specs.Kept.{JudgeFaultIs}
use Rattle.history_sessions.specs.Session.{Session, session_opening, session_after, session_passing, moment_of, IsTimely}

-- an event is a moment
pub one_moment : (w : Windows) (e : HistoryEvent) → (windows_after w e).moment ≡ w.moment + 1
one_moment w (LoadRequest n a count enables) = refl
one_moment w (LoadResponse n bytes) = refl
one_moment w (StoreRequest n a bytes enables) = refl
one_moment w (StoreResponse n) = refl

flat_moment : (f : Flat) (e : HistoryEvent) → (flat_after f e).moment ≡ f.moment + 1
flat_moment f (LoadRequest n a count enables) = refl
flat_moment f (LoadResponse n bytes) = refl
flat_moment f (StoreRequest n a bytes enables) = refl
flat_moment f (StoreResponse n) = refl

moment_after : (h : History) (e : HistoryEvent) → moment_of (history_after h e) ≤ moment_of h + 1
moment_after (OfRegular w) e = omega (arith, one_moment w e)
moment_after (OfFlat f) e = omega (arith, flat_moment f e)
moment_after (OfAtomic a) e = omega arith

fewer : (number : ℕ) (os : List OpenOperation) → length (without_operation number os) ≤ length os
fewer number os = omega (arith, length-filter_both (λ o. not (o.number == number)) (λ o. not (not (o.number == number))) (λ o. refl) os)

one_more : (number address n : ℕ) (os : List OpenOperation)
    → length (os ++ (record { number = number; address = address; length = n }) ∷ []) ≡ length os + 1
one_more number address n os = length-append os (record { number = number; address = address; length = n } ∷ [])

-- it opens one operation at most
opened_after : (ls ss : List OpenOperation) (e : HistoryEvent)
    → length (loads_then ls e) + length (stores_then ss e) ≤ length ls + length ss + 1
opened_after ls ss (LoadRequest n a count enables) = omega (arith, one_more n a count ls)
opened_after ls ss (LoadResponse n bytes) = omega (arith, fewer n ls)
opened_after ls ss (StoreRequest n a bytes enables) = omega (arith, one_more n a (length bytes.now) ss)
opened_after ls ss (StoreResponse n) = omega (arith, fewer n ss)

pub timely_at_first : (law : HistoryLaw) (image : List ℕ) (rest : Rest) → IsTimely (session_opening law image rest)
timely_at_first by_regular image rest = record { events = omega arith; open_ = omega arith }
timely_at_first by_flat image rest = record { events = omega arith; open_ = omega arith }
timely_at_first (by_atomic unit limit) image rest = record { events = omega arith; open_ = omega arith }

pub timely_after : (s : Session) (e : HistoryEvent) → IsTimely s → IsTimely (session_after s e)
timely_after s e t = record {
  events = omega (arith, one_moment s.seen e, moment_after s.history e, t.events);
  open_ = omega (arith, one_moment s.seen e, opened_after s.loads s.stores e, t.open_);
}

pub timely_passing : (s : Session) → IsTimely s → IsTimely (session_passing s)
timely_passing s t = record { events = omega (arith, t.events); open_ = omega (arith, t.open_) }

-- no moment is left for one more
pub too_long : (j : Judge) (h : History) (event : HistoryEvent) → JudgeFaultIs j h event TooLong → moment_of h ≡ 18446744073709551615
too_long j (OfRegular w) event says = says.1
too_long j (OfFlat f) event says = says.1
too_long j (OfAtomic a) event says = absurd says
