-- What an open load may return, as the answers that would be taken now: the sets of its bytes are of these.
use Rattle.std.specs.Prelude.{ℕ, ◌≡◌, ◌+◌, ◌/◌, ◌<◌, ◌≤◌, ◌↔◌, Bool, true, false, List, [], ◌∷◌, ◌++◌, length, Option, Some, None}
use Rattle.std.specs.Prelude.{slice_get}
use Rattle.std.specs.Borrow.{Bor}
use Rattle.std.specs.List.{All, find}
use Rattle.memory_histories.specs.declared.events.HistoryEvent.{HistoryEvent}
use Rattle.memory_histories.specs.declared.events.HistoryEvent.TheVariants.{LoadResponse, StoreRequest}
use Rattle.memory_histories.specs.declared.events.Rest.{Rest}
use Rattle.memory_histories.specs.declared.sets.ByteSet.{ByteSet}
use Rattle.memory_histories.specs.Sets.{has}
use Rattle.atomic_histories.specs.declared.unit.Operation.{Operation}
use Rattle.atomic_histories.specs.Words.{byte_for}
use Rattle.atomic_histories.specs.Operations.{opened_by, has_number}
use Rattle.atomic_histories.specs.Held.{is_lost}
use Rattle.atomic_histories.specs.Lost.{IsAtomicBut}
use Rattle.atomic_histories.specs.May.{AreSetsOf, IsSetOf}

-- A history of the law. ----

abbrev pub IsByte : ℕ → Type 0
IsByte b = b < 256

abbrev pub StoresBytes : HistoryEvent → Type 0
StoresBytes (StoreRequest number address bytes enables) = All IsByte bytes.now
StoresBytes event = Unit {0}

-- a history of the law, but for what is seen of the units that were forgotten, of a memory of bytes
pub record IsOfLaw (lost : List ℕ) (image : List ℕ) (rest : Rest) (size : ℕ) (history : List HistoryEvent) : Type 0 where
  pub sized : 1 ≤ size
  pub first_bytes : All IsByte image
  pub stored_bytes : All StoresBytes history
  pub atomic : IsAtomicBut lost image rest size history

-- Answers. ----

-- the load under this number may be answered so now: the history with this answer is one of the law
abbrev pub MayAnswer : List ℕ → List ℕ → Rest → ℕ → List HistoryEvent → ℕ → Bor (List ℕ) → Type 0
MayAnswer lost image rest size history number answer = IsAtomicBut lost image rest size (history ++ LoadResponse number answer ∷ [])

-- an answer of bytes that may be given now has this byte at place i
abbrev pub HasAnswer : List ℕ → List ℕ → Rest → ℕ → List HistoryEvent → ℕ → ℕ → ℕ → Type 0
HasAnswer lost image rest size history number i b =
    (answer : Bor (List ℕ)) × All IsByte answer.now × (slice_get answer.now i ≡ Some b)
    × MayAnswer lost image rest size history number answer

-- an answer of bytes that may be given now has this byte for an address
abbrev pub HasAnswerFor : List ℕ → List ℕ → Rest → ℕ → List HistoryEvent → ℕ → ℕ → ℕ → Type 0
HasAnswerFor lost image rest size history number a b =
    (load : Operation) × (find (has_number number) (opened_by history).loads ≡ Some load)
    × ((answer : Bor (List ℕ)) × All IsByte answer.now × (byte_for load.address answer.now a ≡ Some b)
    × MayAnswer lost image rest size history number answer)

-- The laws. ----

-- a byte is in the set at place i exactly if an answer that may be given now has it there
abbrev pub SetsAreOfAnswers : List ℕ → List ℕ → Rest → ℕ → List HistoryEvent → ℕ → Type 0
SetsAreOfAnswers lost image rest size history number =
    IsOfLaw lost image rest size history → (sets : List ByteSet) → AreSetsOf lost image rest size history number sets
    → (i : ℕ) (set : ByteSet) → slice_get sets i ≡ Some set
    → (b : ℕ) → b < 256 → (has set b ≡ true) ↔ HasAnswer lost image rest size history number i b

-- whether there is a set, and it has this byte
abbrev pub is_in : Option ByteSet → ℕ → Bool
is_in None b = false
is_in (Some set) b = has set b

-- a byte is in the set of an address exactly if an answer that may be given now has it for this address
abbrev pub SetIsOfAnswers : List ℕ → List ℕ → Rest → ℕ → List HistoryEvent → ℕ → Type 0
SetIsOfAnswers lost image rest size history number =
    IsOfLaw lost image rest size history → (a : ℕ) (set : Option ByteSet) → IsSetOf lost image rest size history number a set
    → (b : ℕ) → b < 256 → (is_in set b ≡ true) ↔ HasAnswerFor lost image rest size history number a b

-- two answers from an address on have the same bytes in unit k
abbrev pub AreSameIn : ℕ → ℕ → ℕ → List ℕ → List ℕ → Type 0
AreSameIn size k address answer other = (i : ℕ) → (address + i) / size ≡ k → slice_get answer i ≡ slice_get other i

-- an answer that may be given now has the same bytes in unit k
abbrev pub HasAnswerIn : List ℕ → List ℕ → Rest → ℕ → List HistoryEvent → ℕ → ℕ → ℕ → List ℕ → Type 0
HasAnswerIn lost image rest size history number address k answer =
    (other : Bor (List ℕ)) × MayAnswer lost image rest size history number other × AreSameIn size k address answer other.now

-- each unit's bytes are chosen for themselves: an answer may be given exactly if it has the load's length, and of each unit an answer
-- that may be given has the same bytes there
abbrev pub UnitsChooseAlone : List ℕ → List ℕ → Rest → ℕ → List HistoryEvent → ℕ → Type 0
UnitsChooseAlone lost image rest size history number =
    IsOfLaw lost image rest size history
    → (load : Operation) → find (has_number number) (opened_by history).loads ≡ Some load
    → (answer : Bor (List ℕ))
    → MayAnswer lost image rest size history number answer
    ↔ ((length answer.now ≡ load.length)
    × ((k : ℕ) → is_lost k lost ≡ false → HasAnswerIn lost image rest size history number load.address k answer.now))
