-- Which operations are open.
use Rattle.std.proofs.Common.{arith, ◌≡◌, ℕ, ◌==◌, List, [], map, length, refl, sym}
use Rattle.std.specs.Prelude.{slice_get}
use Rattle.std.specs.List.{find}
use Rattle.std.specs.Option.{option_map}
use Rattle.std.proofs.lemmas.List.{length-map, map-append}
use Rattle.std.proofs.lemmas.Option.{slice_get-map}
use Rattle.memory_histories.proofs.Lists.{filter-map, find-map, map-map}
use Rattle.memory_histories.specs.declared.events.HistoryEvent.{HistoryEvent}
use Rattle.memory_histories.specs.declared.events.HistoryEvent.TheVariants.{LoadRequest, LoadResponse, StoreRequest, StoreResponse}
use Rattle.history_reasons.specs.declared.loads.OpenLoad.{OpenLoad}
use Rattle.history_reasons.specs.declared.log.StoreLog.{StoreLog}
use Rattle.history_reasons.specs.declared.open.OpenOperation.{OpenOperation}
use Rattle.history_reasons.specs.declared.places.StorePlace.{StorePlace}
use Rattle.history_reasons.specs.declared.stores.KeptStore.{KeptStore}
use Rattle.history_reasons.specs.Log.{told_loads, noted_places, IsNoted, IsShortened, IsCounted}
use Rattle.history_reasons.specs.Open.{load_operation, store_operation, operation_under, loads_then, stores_then, HasNoneOpen, HasSameOpen}
use Rattle.history_reasons.specs.Open.{HasOpenAfter}

-- What is asked of them. ----

pub as_many : {X : Type 0} (f : X → OpenOperation) (xs : List X) → length xs ≡ length (map f xs)
as_many f xs = sym (length-map xs f)

pub nth : {X : Type 0} (f : X → OpenOperation) (xs : List X) (k : ℕ) → option_map f (slice_get xs k) ≡ slice_get (map f xs) k
nth f xs k = sym (slice_get-map f xs k)

pub under : (number : ℕ) (loads : List OpenLoad)
    → option_map load_operation (find (λ l. l.number == number) loads) ≡ operation_under number (map load_operation loads)
under number loads = sym (find-map load_operation (λ o. o.number == number) loads)

-- Events. ----

loads_noted : (loads : List OpenLoad) (moment : ℕ) (event : HistoryEvent)
    → map load_operation (told_loads loads moment event) ≡ loads_then (map load_operation loads) event
loads_noted loads moment (LoadRequest number address n enables) = grind (arith, map-append)
loads_noted loads moment (LoadResponse number bytes) = grind (arith, filter-map)
loads_noted loads moment event = refl

stores_noted : (places : List StorePlace) (stores : List KeptStore) (event : HistoryEvent)
    → map store_operation (noted_places places stores event) ≡ stores_then (map store_operation places) event
stores_noted places stores (StoreRequest number address bytes enables) = grind (arith, map-append)
stores_noted places stores (StoreResponse number) = grind (arith, filter-map)
stores_noted places stores event = refl

pub none_open : (g : StoreLog) → g.loads.items ≡ [] → g.places.items ≡ [] → HasNoneOpen g
none_open g loads stores = grind arith

pub same_open : (g h : StoreLog) → h.loads.items ≡ g.loads.items → h.places.items ≡ g.places.items → HasSameOpen g h
same_open g h loads stores = grind arith

-- nothing that is open is forgotten
left_open : (m f h : StoreLog) → IsShortened m f → IsCounted f h → HasSameOpen m h
left_open m f h s c = grind (arith, map-map)

pub noted_open : (g m f h : StoreLog) (event : HistoryEvent) → IsNoted g event m → IsShortened m f → IsCounted f h → HasOpenAfter g event h
noted_open g m f h event n s c = let left = left_open m f h s c in grind (arith, loads_noted, stores_noted)

pub still_open : (g m f h : StoreLog) → m ≡ g → IsShortened m f → IsCounted f h → HasSameOpen g h
still_open g m f h same s c = left_open g f h (rw same at s) c
