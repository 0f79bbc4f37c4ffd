-- The law once units were forgotten: there are moments at each of the others.
use Rattle.std.specs.Prelude.{ℕ, ◌≡◌, ◌-◌, ◌*◌, ◌<◌, true, false, List, [], ◌∷◌, ◌++◌, Some, None}
use Rattle.std.specs.List.{find}
use Rattle.memory_histories.specs.declared.events.HistoryEvent.{HistoryEvent}
use Rattle.memory_histories.specs.declared.events.HistoryEvent.TheVariants.{LoadResponse}
use Rattle.memory_histories.specs.declared.events.HistoryFault.{HistoryFault}
use Rattle.memory_histories.specs.declared.events.HistoryFault.TheVariants.{WrongByte}
use Rattle.memory_histories.specs.declared.events.Rest.{Rest}
use Rattle.atomic_histories.specs.declared.unit.Operation.{Operation}
use Rattle.atomic_histories.specs.Operations.{none_opened, opened_by, has_number, form_fault}
use Rattle.atomic_histories.specs.Law.{unit_at, is_formed, IsAtomicAt}
use Rattle.atomic_histories.specs.Held.{is_lost}

-- the history is one of the law, but for what is seen of the units that were forgotten
pub record IsAtomicBut (lost : List ℕ) (image : List ℕ) (rest : Rest) (size : ℕ) (history : List HistoryEvent) : Type 0 where
  pub formed : is_formed none_opened history ≡ true
  pub moments : (k : ℕ) → is_lost k lost ≡ false → IsAtomicAt image rest (unit_at size k) history

-- the place of the first byte of an answer that lies in the lowest unit at which there are no moments with it, of those that weren't
-- forgotten
abbrev pub IsWrongPlaceBut : List ℕ → List ℕ → Rest → ℕ → List HistoryEvent → HistoryEvent → ℕ → Type 0
IsWrongPlaceBut lost image rest size history (LoadResponse number bytes) place =
    (k : ℕ) × (o : Operation) × (find (has_number number) (opened_by history).loads ≡ Some o) × (place ≡ k * size - o.address)
    × (is_lost k lost ≡ false) × (¬ (IsAtomicAt image rest (unit_at size k) (history ++ LoadResponse number bytes ∷ [])))
    × ((j : ℕ) → j < k → is_lost j lost ≡ false → IsAtomicAt image rest (unit_at size j) (history ++ LoadResponse number bytes ∷ []))
IsWrongPlaceBut lost image rest size history event place = ⊥

-- why a history is none with this event: it is malformed, or it has a wrong byte
abbrev pub FaultIsBut : List ℕ → List ℕ → Rest → ℕ → List HistoryEvent → HistoryEvent → HistoryFault → Type 0
FaultIsBut lost image rest size history event (WrongByte place) =
    (form_fault (opened_by history) event ≡ None) × IsWrongPlaceBut lost image rest size history event place
FaultIsBut lost image rest size history event cause = form_fault (opened_by history) event ≡ Some cause
