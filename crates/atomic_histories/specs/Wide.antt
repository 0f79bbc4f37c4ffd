-- What it says of a history that there is no verdict, in the law's words.
use Rattle.std.specs.Prelude.{ℕ, ◌≡◌, ◌*◌, ◌<◌, ◌⊎◌, List, [], ◌∷◌, length, None}
use Rattle.memory_histories.specs.declared.events.HistoryEvent.{HistoryEvent}
use Rattle.memory_histories.specs.declared.events.Rest.{Rest}
use Rattle.atomic_histories.specs.declared.unit.UnitPlace.{UnitPlace}
use Rattle.atomic_histories.specs.declared.search.TheConstants.{MOST_WORDS}
use Rattle.atomic_histories.specs.Operations.{form_fault}
use Rattle.atomic_histories.specs.Law.{UnitMemory, MayBe, untouched, unit_at}
use Rattle.atomic_histories.specs.Stands.{Each}
use Rattle.atomic_histories.specs.Held.{Held, IsWide, StandsBut}
use Rattle.atomic_histories.specs.May.{IsWideLoad}

-- two states differ in the word, or in the open stores and which of them have taken effect
abbrev pub DiffersFrom : UnitMemory → UnitMemory → Type 0
DiffersFrom m n = m.word ≡ n.word → m.stores ≡ n.stores → ⊥

abbrev pub AllDiffer : List UnitMemory → Type 0
AllDiffer [] = Unit {0}
AllDiffer (m ∷ ms) = Each (DiffersFrom m) ms × AllDiffer ms

-- the unit may be in more than so many states after a history, each with another word or with other stores in effect
abbrev pub MayBeMany : ℕ → List ℕ → Rest → UnitPlace → List HistoryEvent → Type 0
MayBeMany limit image rest unit history =
    (ms : List UnitMemory) × (limit < length ms) × Each (MayBe unit (untouched image rest unit) history) ms × AllDiffer ms

-- so it is at the unit that begins at an address, or more words are kept there than may be
abbrev pub IsMuchAt : ℕ → Held → List HistoryEvent → ℕ → Type 0
IsMuchAt limit h history address =
    (k : ℕ) × (address ≡ k * h.size)
    × ((MOST_WORDS < h.words k) ⊎ MayBeMany limit h.image h.rest (unit_at h.size k) history)

-- an event without a verdict says so of the history before it
abbrev pub UndecidedIsMuch : ℕ → Held → List ℕ → List HistoryEvent → HistoryEvent → ℕ → Type 0
UndecidedIsMuch limit h lost history event address =
    StandsBut h lost history → form_fault h.opened event ≡ None → IsWide limit h event address → IsMuchAt limit h history address

-- the sets of a load for which there are none say so, however many words are kept
abbrev pub NoSetsAreMuch : ℕ → Held → List ℕ → List HistoryEvent → ℕ → ℕ → ℕ → Type 0
NoSetsAreMuch limit h lost history a n address = StandsBut h lost history → IsWideLoad limit h a n address
    → (k : ℕ) × (address ≡ k * h.size) × MayBeMany limit h.image h.rest (unit_at h.size k) history
