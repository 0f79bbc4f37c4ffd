-- The operations that are open, as a log tells them.
use Rattle.std.specs.Prelude.{ℕ, ◌≡◌, ◌==◌, not, List, [], ◌∷◌, ◌++◌, map, length, Option}
use Rattle.std.specs.List.{filter, find}
use Rattle.memory_histories.specs.declared.events.HistoryEvent.{HistoryEvent}
use Rattle.memory_histories.specs.declared.events.HistoryEvent.TheVariants.{LoadRequest, LoadResponse, StoreRequest, StoreResponse}
use Rattle.history_reasons.specs.declared.loads.OpenLoad.{OpenLoad}
use Rattle.history_reasons.specs.declared.log.StoreLog.{StoreLog}
use Rattle.history_reasons.specs.declared.open.OpenOperation.{OpenOperation}
use Rattle.history_reasons.specs.declared.places.StorePlace.{StorePlace}

-- a load, and a store, as the operation that it is
abbrev pub load_operation : OpenLoad → OpenOperation
load_operation l = record { number = l.number; address = l.address; length = l.length }

abbrev pub store_operation : StorePlace → OpenOperation
store_operation p = record { number = p.number; address = p.address; length = p.most }

-- the loads and the stores that are open, in the order of their requests
abbrev pub open_loads : StoreLog → List OpenOperation
open_loads g = map load_operation g.loads.items

abbrev pub open_stores : StoreLog → List OpenOperation
open_stores g = map store_operation g.places.items

-- the operation that is open under a number
abbrev pub operation_under : ℕ → List OpenOperation → Option OpenOperation
operation_under number operations = find (λ o. o.number == number) operations

-- those that are open once one more is requested, and once one is answered
abbrev pub with_operation : ℕ → ℕ → ℕ → List OpenOperation → List OpenOperation
with_operation number address bytes operations = operations ++ (record { number = number; address = address; length = bytes }) ∷ []

abbrev pub without_operation : ℕ → List OpenOperation → List OpenOperation
without_operation number operations = filter (λ o. not (o.number == number)) operations

-- the loads and the stores that are open after an event
abbrev pub loads_then : List OpenOperation → HistoryEvent → List OpenOperation
loads_then loads (LoadRequest number address n enables) = with_operation number address n loads
loads_then loads (LoadResponse number bytes) = without_operation number loads
loads_then loads event = loads

abbrev pub stores_then : List OpenOperation → HistoryEvent → List OpenOperation
stores_then stores (StoreRequest number address bytes enables) = with_operation number address (length bytes.now) stores
stores_then stores (StoreResponse number) = without_operation number stores
stores_then stores event = stores

-- none is open
pub record HasNoneOpen (g : StoreLog) : Type 0 where
  pub loads : open_loads g ≡ []
  pub stores : open_stores g ≡ []

-- the same are open as before
pub record HasSameOpen (g : StoreLog) (h : StoreLog) : Type 0 where
  pub loads : open_loads h ≡ open_loads g
  pub stores : open_stores h ≡ open_stores g

-- those are open that the event leaves open
pub record HasOpenAfter (g : StoreLog) (event : HistoryEvent) (h : StoreLog) : Type 0 where
  pub loads : open_loads h ≡ loads_then (open_loads g) event
  pub stores : open_stores h ≡ stores_then (open_stores g) event
