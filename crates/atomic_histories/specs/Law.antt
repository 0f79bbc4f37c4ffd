-- The atomic law: each operation takes effect at one moment between its request and its response, in each aligned unit that it
-- touches, and loads get what flat memory holds there at their moment.
use Rattle.std.specs.Prelude.{ℕ, ◌≡◌, ◌-◌, ◌*◌, ◌<◌, ◌⊎◌, Bool, true, false, ◌&&◌, ◌||◌, not, if◌then◌else◌, ◌==◌, List, [], ◌∷◌, ◌++◌}
use Rattle.std.specs.Prelude.{Option, Some, None, is_some, is_none}
use Rattle.std.specs.List.{filter, list_all, list_any, find}
use Rattle.memory_histories.specs.declared.events.HistoryEvent.{HistoryEvent}
use Rattle.memory_histories.specs.declared.events.HistoryEvent.TheVariants.{LoadRequest, LoadResponse, StoreRequest, StoreResponse}
use Rattle.memory_histories.specs.declared.events.HistoryFault.{HistoryFault}
use Rattle.memory_histories.specs.declared.events.HistoryFault.TheVariants.{WrongByte}
use Rattle.memory_histories.specs.declared.events.Rest.{Rest}
use Rattle.atomic_histories.specs.declared.unit.OpenStore.{OpenStore}
use Rattle.atomic_histories.specs.declared.unit.UnitPlace.{UnitPlace}
use Rattle.atomic_histories.specs.declared.unit.LoadAddress.{LoadAddress}
use Rattle.atomic_histories.specs.Words.{at_unit, initial_byte, stored_byte, reads_from, is_at, written, is_word_of}
use Rattle.atomic_histories.specs.declared.unit.Operation.{Operation}
use Rattle.atomic_histories.specs.Operations.{Opened, none_opened, opened_after, opened_by, has_number, form_fault}

-- Flat memory at one unit. ----

-- an open load, and the word that it got once it has taken effect
pub record OpenLoad : Type 0 where
  pub number : ℕ
  pub address : LoadAddress
  pub got : Option (List (Option ℕ))

-- the word that stands in the unit, and the open operations that touch it. An open store has the bytes that it writes there, and
-- whether it has taken effect
pub record UnitMemory : Type 0 where
  pub word : List (Option ℕ)
  pub stores : List OpenStore
  pub loads : List OpenLoad

-- before the first event
abbrev pub untouched : List ℕ → Rest → UnitPlace → UnitMemory
untouched image rest unit = record { word = at_unit unit (initial_byte image rest); stores = []; loads = [] }

-- Hidden steps. ----

abbrev pub done_store : OpenStore → OpenStore
done_store s = record { number = s.number; bytes = s.bytes; is_done = true }

abbrev pub done_load : List (Option ℕ) → OpenLoad → OpenLoad
done_load word l = record { number = l.number; address = l.address; got = Some word }

-- an open store takes effect
abbrev pub StoreTakesEffect : UnitMemory → UnitMemory → Type 0
StoreTakesEffect m n =
    (before : List OpenStore) × (s : OpenStore) × (after : List OpenStore) × (m.stores ≡ before ++ s ∷ after) × (s.is_done ≡ false)
    × (n ≡ record { word = written s.bytes m.word; stores = before ++ done_store s ∷ after; loads = m.loads })

-- an open load takes effect: it gets the word that stands there
abbrev pub LoadTakesEffect : UnitMemory → UnitMemory → Type 0
LoadTakesEffect m n =
    (before : List OpenLoad) × (l : OpenLoad) × (after : List OpenLoad) × (m.loads ≡ before ++ l ∷ after) × (l.got ≡ None)
    × (n ≡ record { word = m.word; stores = m.stores; loads = before ++ done_load m.word l ∷ after })

abbrev pub HiddenStep : UnitMemory → UnitMemory → Type 0
HiddenStep m n = StoreTakesEffect m n ⊎ LoadTakesEffect m n

-- Events. ----

abbrev pub is_store : ℕ → OpenStore → Bool
is_store number s = s.number == number

abbrev pub is_load : ℕ → OpenLoad → Bool
is_load number l = l.number == number

-- whether a load got a word of which these are the bytes that it reads
abbrev pub is_got : UnitPlace → LoadAddress → List ℕ → Option (List (Option ℕ)) → Bool
is_got unit address bytes None = false
is_got unit address bytes (Some word) = is_word_of unit.first word address bytes

-- whether memory may answer a load with these bytes, or a store: it has taken effect
abbrev pub may_answer_load : UnitPlace → ℕ → List ℕ → List OpenLoad → Bool
may_answer_load unit number bytes loads = list_all (λ l. not (is_load number l) || is_got unit l.address bytes l.got) loads

abbrev pub may_answer_store : ℕ → List OpenStore → Bool
may_answer_store number stores = list_all (λ s. not (is_store number s) || s.is_done) stores

-- a unit once an operation is requested that touches it
abbrev pub with_load : ℕ → LoadAddress → UnitMemory → UnitMemory
with_load number address m =
    record { word = m.word; stores = m.stores; loads = m.loads ++ record { number = number; address = address; got = None } ∷ [] }

abbrev pub with_store : ℕ → List (Option ℕ) → UnitMemory → UnitMemory
with_store number bytes m =
    record { word = m.word; stores = m.stores ++ record { number = number; bytes = bytes; is_done = false } ∷ []; loads = m.loads }

-- once an operation is answered
abbrev pub without_load : ℕ → UnitMemory → UnitMemory
without_load number m = record { word = m.word; stores = m.stores; loads = filter (λ l. not (is_load number l)) m.loads }

abbrev pub without_store : ℕ → UnitMemory → UnitMemory
without_store number m = record { word = m.word; stores = filter (λ s. not (is_store number s)) m.stores; loads = m.loads }

-- an event at the unit, which changes nothing there if its operation doesn't touch it, and can't come before the operation that it
-- answers has taken effect
abbrev pub seen : UnitPlace → UnitMemory → HistoryEvent → Option UnitMemory
seen unit m (LoadRequest number address n enables) =
    Some (if is_at unit address n then with_load number (reads_from address enables) m else m)
seen unit m (LoadResponse number bytes) = if may_answer_load unit number bytes.now m.loads then Some (without_load number m) else None
seen unit m (StoreRequest number address bytes enables) =
    let stored = at_unit unit (stored_byte address bytes.now enables) in Some
    (if list_any is_some stored then with_store number stored m else m)
seen unit m (StoreResponse number) = if may_answer_store number m.stores then Some (without_store number m) else None

-- The law. ----

-- what the unit may be after a history, if hidden steps may come between the events
pub data MayBe (unit : UnitPlace) (start : UnitMemory) : List HistoryEvent → UnitMemory → Type 0 where
  starts : MayBe unit start [] start
  steps : (history : List HistoryEvent) (m n : UnitMemory) → MayBe unit start history m → HiddenStep m n → MayBe unit start history n
  sees : (history : List HistoryEvent) (event : HistoryEvent) (m n : UnitMemory) → MayBe unit start history m → seen unit m event ≡ Some n
      → MayBe unit start (history ++ event ∷ []) n

-- there are moments for the operations at a unit
abbrev pub IsAtomicAt : List ℕ → Rest → UnitPlace → List HistoryEvent → Type 0
IsAtomicAt image rest unit history = (m : UnitMemory) × MayBe unit (untouched image rest unit) history m

-- the unit of this size that is number k
abbrev pub unit_at : ℕ → ℕ → UnitPlace
unit_at size k = record { first = k * size; size = size }

-- there are moments for the operations at each unit
abbrev pub HasMoments : List ℕ → Rest → ℕ → List HistoryEvent → Type 0
HasMoments image rest size history = (k : ℕ) → IsAtomicAt image rest (unit_at size k) history

-- no event is malformed
abbrev pub is_formed : Opened → List HistoryEvent → Bool
is_formed o [] = true
is_formed o (event ∷ events) = is_none (form_fault o event) && is_formed (opened_after o event) events

-- the history is one of the law, where memory has units of this size
pub record IsAtomic (image : List ℕ) (rest : Rest) (size : ℕ) (history : List HistoryEvent) : Type 0 where
  pub formed : is_formed none_opened history ≡ true
  pub moments : HasMoments image rest size history

-- Faults. ----

-- the place of the first byte of an answer that lies in the lowest unit at which there are no moments with it
abbrev pub IsWrongPlace : List ℕ → Rest → ℕ → List HistoryEvent → HistoryEvent → ℕ → Type 0
IsWrongPlace image rest size history (LoadResponse number bytes) place =
    (k : ℕ) × (o : Operation) × (find (has_number number) (opened_by history).loads ≡ Some o) × (place ≡ k * size - o.address)
    × (¬ (IsAtomicAt image rest (unit_at size k) (history ++ LoadResponse number bytes ∷ [])))
    × ((j : ℕ) → j < k → IsAtomicAt image rest (unit_at size j) (history ++ LoadResponse number bytes ∷ []))
IsWrongPlace image rest size history event place = ⊥

-- why a history of the law is none with this event: it is malformed, or it has a wrong byte
abbrev pub FaultIs : List ℕ → Rest → ℕ → List HistoryEvent → HistoryEvent → HistoryFault → Type 0
FaultIs image rest size history event (WrongByte place) =
    (form_fault (opened_by history) event ≡ None) × IsWrongPlace image rest size history event place
FaultIs image rest size history event cause = form_fault (opened_by history) event ≡ Some cause
