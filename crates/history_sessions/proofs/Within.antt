-- An event of a law lies within memory.
use Rattle.std.proofs.Common.{◌≡◌, arith, Bool, true, false, None, refl}
use Rattle.std.specs.Prelude.{◌+◌, ◌<◌}
use Rattle.memory_histories.specs.declared.events.HistoryEvent.{HistoryEvent}
use Rattle.memory_histories.specs.declared.events.HistoryEvent.TheVariants.{LoadRequest, LoadResponse, StoreRequest, StoreResponse}
use Rattle.memory_histories.specs.Windows.{Windows, windows_after}
use Rattle.memory_histories.specs.Regular.{fault, request_fault}
use Rattle.memory_histories.specs.Flat.{Flat, flat_fault}
use Rattle.atomic_histories.specs.Operations.{Opened, form_fault}
use Rattle.history_reasons.specs.declared.log.StoreLog.{StoreLog}
use Rattle.history_reasons.specs.Log.{is_within, IsLogOf}
use Rattle.history_sessions.specs.History.{History, OfRegular, OfFlat, OfAtomic, Passes}
use Rattle.history_sessions.proofs.AtomicJudge.{formed}

requested_inside : (inside any used : Bool) → request_fault inside any used ≡ None → inside ≡ true
requested_inside true any used h = refl
requested_inside false any used h = cc

by_regular : (w : Windows) (event : HistoryEvent) → fault w event ≡ None → is_within event ≡ true
by_regular w (LoadRequest number address n enables) h = requested_inside _ _ _ h
by_regular w (StoreRequest number address bytes enables) h = requested_inside _ _ _ h
by_regular w (LoadResponse number bytes) h = refl
by_regular w (StoreResponse number) h = refl

by_flat : (f : Flat) (event : HistoryEvent) → flat_fault f event ≡ None → is_within event ≡ true
by_flat f (LoadRequest number address n enables) h = requested_inside _ _ _ h
by_flat f (StoreRequest number address bytes enables) h = requested_inside _ _ _ h
by_flat f (LoadResponse number bytes) h = refl
by_flat f (StoreResponse number) h = refl

by_form : (o : Opened) (event : HistoryEvent) → form_fault o event ≡ None → is_within event ≡ true
by_form o (LoadRequest number address n enables) h = requested_inside _ _ _ h
by_form o (StoreRequest number address bytes enables) h = requested_inside _ _ _ h
by_form o (LoadResponse number bytes) h = refl
by_form o (StoreResponse number) h = refl

pub within : (h : History) (event : HistoryEvent) → Passes h event → is_within event ≡ true
within (OfRegular w) event p = by_regular w event p
within (OfFlat f) event p = by_flat f event p
within (OfAtomic a) event p = by_form _ event (formed a event p)

-- it is noted in the log, as long as events have numbers of their own
pub noted : (g h : StoreLog) (w : Windows) (event : HistoryEvent) → (w.moment < 18446744073709551616 → IsLogOf g w)
    → (w.moment < 18446744073709551615 → IsLogOf g w → IsLogOf h (windows_after w event)) → w.moment + 1 < 18446744073709551616
    → IsLogOf h (windows_after w event)
noted g h w event k note few = note (omega arith) (k (omega arith))
