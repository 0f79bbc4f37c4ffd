-- What an `AtomicMemory` keeps, and what the answers of its calls say.
use Rattle.std.specs.Prelude.{ℕ, ◌≡◌, ◌+◌, ◌-◌, ◌/◌, ◌==◌, if◌then◌else◌, nat_eq, true, false, List, [], ◌∷◌, ◌++◌}
use Rattle.std.specs.Prelude.{Option, Some, None}
use Rattle.std.specs.List.{find}
use Rattle.std.specs.HashMap.{get}
use Rattle.memory_histories.specs.declared.events.HistoryEvent.{HistoryEvent}
use Rattle.memory_histories.specs.declared.events.HistoryEvent.TheVariants.{LoadResponse}
use Rattle.memory_histories.specs.declared.events.HistoryFault.TheVariants.{WrongByte}
use Rattle.memory_histories.specs.declared.events.Rest.{Rest}
use Rattle.atomic_histories.specs.declared.unit.Operation.{Operation}
use Rattle.atomic_histories.specs.declared.unit.UnitPlace.{UnitPlace}
use Rattle.atomic_histories.specs.declared.kept.KeptUnit.{KeptUnit}
use Rattle.atomic_histories.specs.declared.search.Stop.{Stop}
use Rattle.atomic_histories.specs.declared.search.Stop.TheVariants.{TooManyWays, NoMemory}
use Rattle.atomic_histories.specs.declared.memory.UnitSize.{UnitSize}
use Rattle.atomic_histories.specs.declared.memory.UnitSize.TheVariants.{One, Two, Four, Eight}
use Rattle.atomic_histories.specs.declared.memory.AtomicFault.{AtomicFault}
use Rattle.atomic_histories.specs.declared.memory.AtomicFault.TheVariants.{Refused, Undecided, OutOfMemory}
use Rattle.atomic_histories.specs.declared.memory.AtomicMemory.{AtomicMemory}
use Rattle.atomic_histories.specs.Operations.{opened_by, opened_after, has_number, form_fault}
use Rattle.atomic_histories.specs.Followed.{Ways, no_ways, first_ways, ways_after, needs_too_many, is_too_wide}
use Rattle.atomic_histories.specs.Law.{IsAtomic, FaultIs, unit_at}
use Rattle.atomic_histories.specs.Lost.{IsAtomicBut, FaultIsBut}
use Rattle.atomic_histories.specs.Held.{Held, is_without, unit_after}
use Rattle.atomic_histories.specs.Held.{IsWide, is_lost}
use Rattle.atomic_histories.specs.Few.{IsFewFor}
use Rattle.atomic_histories.specs.Shown.{shown_unit, words_in}

abbrev pub bytes_of : UnitSize → ℕ
bytes_of One = 1
bytes_of Two = 2
bytes_of Four = 4
bytes_of Eight = 8

-- the ways of a unit: those that are kept, or those before the first operation
abbrev pub kept_or : Option KeptUnit → Ways → Ways
kept_or (Some u) first = shown_unit u
kept_or None first = first

abbrev pub kept_at : List ℕ → Rest → ℕ → (ℕ → Option KeptUnit) → ℕ → Ways
kept_at image rest size kept k = kept_or (kept k) (first_ways image rest (unit_at size k))

-- how many words are kept of what stood there
abbrev pub words_of : Option KeptUnit → ℕ
words_of (Some u) = words_in u.stretches.items
words_of None = 0

-- what it keeps
abbrev pub held : AtomicMemory → Held
held m = record {
  image = m.image.items;
  rest = m.rest;
  size = bytes_of m.size;
  opened = record { loads = m.loads.items; stores = m.stores.items };
  units = kept_at m.image.items m.rest (bytes_of m.size) (get nat_eq m.units);
  words = λ k. words_of (get nat_eq m.units k);
}

-- what memory had before the first event, and the size of its units
abbrev pub HasSameMemory : Held → Held → Type 0
HasSameMemory h g = (h.image ≡ g.image) × (h.rest ≡ g.rest) × (h.size ≡ g.size)

-- how many ways are followed at a time
abbrev pub limit_of : AtomicMemory → ℕ
limit_of m = m.limit

-- a search at the unit that begins at an address was stopped: there is no verdict
abbrev pub fault_of : Stop → ℕ → AtomicFault
fault_of TooManyWays first = Undecided first
fault_of NoMemory first = OutOfMemory

-- the place in an answer of the first byte that lies in the unit which begins at an address
abbrev pub place_from : Option Operation → ℕ → ℕ
place_from None first = 0
place_from (Some o) first = first - o.address

abbrev pub place_in : List Operation → HistoryEvent → ℕ → ℕ
place_in loads (LoadResponse number bytes) first = place_from (find (has_number number) loads) first
place_in loads event first = 0

-- units with these put at number k and those behind it
abbrev pub put_from : (ℕ → Option KeptUnit) → ℕ → List KeptUnit → ℕ → Option KeptUnit
put_from f k [] j = f j
put_from f k (u ∷ us) j = if k == j then Some u else put_from f (k + 1) us j

-- why a unit has no ways after an event
abbrev pub ChangedFaultIs : ℕ → UnitPlace → ℕ → Ways → HistoryEvent → List Operation → AtomicFault → Type 0
ChangedFaultIs limit unit words u event loads (Refused cause) =
    (is_without u (ways_after unit u event) ≡ true) × (cause ≡ WrongByte (place_in loads event unit.first))
    × (needs_too_many limit unit u event ≡ false) × IsFewFor u event
ChangedFaultIs limit unit words u event loads (Undecided address) =
    (address ≡ unit.first) × (is_too_wide limit unit words u event ≡ true)
ChangedFaultIs limit unit words u event loads OutOfMemory = Unit {0}

abbrev pub UnitFaultIs : ℕ → Held → HistoryEvent → ℕ → AtomicFault → Type 0
UnitFaultIs limit h event k fault = ChangedFaultIs limit (unit_at h.size k) (h.words k) (h.units k) event h.opened.loads fault

-- what is kept once an event was taken
pub record IsTaken (h : Held) (event : HistoryEvent) (next : Held) : Type 0 where
  pub image : next.image ≡ h.image
  pub rest : next.rest ≡ h.rest
  pub size : next.size ≡ h.size
  pub opened : next.opened ≡ opened_after h.opened event
  pub units : (k : ℕ) → next.units k ≡ unit_after h event k

-- one unit is forgotten
pub record IsForgotten (h : Held) (number : ℕ) (next : Held) : Type 0 where
  pub image : next.image ≡ h.image
  pub rest : next.rest ≡ h.rest
  pub size : next.size ≡ h.size
  pub opened : next.opened ≡ h.opened
  pub units : (k : ℕ) → next.units k ≡ (if number == k then no_ways else h.units k)

-- what each fault of a step says of the event and the history
abbrev pub StepFaultIs : ℕ → Held → List HistoryEvent → HistoryEvent → AtomicFault → Type 0
StepFaultIs limit h history event (Refused cause) =
    FaultIs h.image h.rest h.size history event cause × ¬ (IsAtomic h.image h.rest h.size (history ++ event ∷ []))
StepFaultIs limit h history event (Undecided address) = (form_fault (opened_by history) event ≡ None) × IsWide limit h event address
StepFaultIs limit h history event OutOfMemory = form_fault (opened_by history) event ≡ None

-- the same once units were forgotten: no event is undecided for the sake of one of them
abbrev pub StepFaultIsBut : List ℕ → ℕ → Held → List HistoryEvent → HistoryEvent → AtomicFault → Type 0
StepFaultIsBut lost limit h history event (Refused cause) =
    FaultIsBut lost h.image h.rest h.size history event cause × ¬ (IsAtomicBut lost h.image h.rest h.size (history ++ event ∷ []))
StepFaultIsBut lost limit h history event (Undecided address) =
    (form_fault (opened_by history) event ≡ None) × IsWide limit h event address × (is_lost (address / h.size) lost ≡ false)
StepFaultIsBut lost limit h history event OutOfMemory = form_fault (opened_by history) event ≡ None
