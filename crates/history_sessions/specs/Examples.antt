-- Worked counts, each checked by computing.
use Rattle.std.specs.Prelude.{ℕ, ◌≡◌, List, [], ◌∷◌, false}
use Rattle.std.proofs.Common.{refl}
use Rattle.memory_histories.specs.declared.events.HistoryEvent.{HistoryEvent}
use Rattle.memory_histories.specs.declared.events.TheConstants.{ALL_ENABLED}
use Rattle.memory_histories.specs.declared.events.HistoryEvent.TheVariants.{LoadRequest, LoadResponse, StoreRequest, StoreResponse}
use Rattle.history_sessions.specs.declared.coverage.Counts.{Counts}
use Rattle.history_sessions.specs.Coverage.{Covered, nothing_covered, covered_after}
use Rattle.history_sessions.specs.Events.{held}

-- what is counted after these events, of which no load had a choice
abbrev covered_by : Covered → List HistoryEvent → Covered
covered_by c [] = c
covered_by c (event ∷ events) = covered_by (covered_after false c event) events

abbrev counts_of : List HistoryEvent → Counts
counts_of events = (covered_by nothing_covered events).counts

-- a load of 16 to 19, a store to 18 and 19 that enables 19 alone, and a load of 17 and 18
abbrev load : HistoryEvent
load = LoadRequest 1 16 4 ALL_ENABLED

abbrev store : HistoryEvent
store = StoreRequest 1 18 (held (7 ∷ 8 ∷ [])) 2

abbrev other_load : HistoryEvent
other_load = LoadRequest 2 17 2 ALL_ENABLED

abbrev load_answer : ℕ → HistoryEvent
load_answer number = LoadResponse number (held [])

-- the first load is beside the store, whichever of the two is requested first
pub beside : counts_of (load ∷ store ∷ load_answer 1 ∷ [])
    ≡ record { loads = 1; choices = 0; beside_store = 1; overtaking = 0 }
beside = refl

pub beside_too : counts_of (store ∷ load ∷ StoreResponse 1 ∷ load_answer 1 ∷ [])
    ≡ record { loads = 1; choices = 0; beside_store = 1; overtaking = 0 }
beside_too = refl

-- the byte that the other load shares with the store isn't enabled
pub apart : counts_of (store ∷ other_load ∷ load_answer 2 ∷ [])
    ≡ record { loads = 1; choices = 0; beside_store = 0; overtaking = 0 }
apart = refl

-- it overtakes the first load, with which it shares two bytes
pub overtaking : counts_of (load ∷ other_load ∷ load_answer 2 ∷ load_answer 1 ∷ [])
    ≡ record { loads = 2; choices = 0; beside_store = 0; overtaking = 1 }
overtaking = refl

-- what was requested before the count began isn't counted
pub not_counted : counts_of (load_answer 1 ∷ StoreResponse 1 ∷ [])
    ≡ record { loads = 0; choices = 0; beside_store = 0; overtaking = 0 }
not_counted = refl
