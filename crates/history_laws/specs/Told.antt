-- A run of flat memory, or of the machine, told as a history.
use Rattle.std.specs.Prelude.{ℕ, ◌≡◌, ◌*◌, ◌≤◌, IsTrue, List, [], ◌∷◌, ◌++◌, length, is_some}
use Rattle.std.specs.Borrow.{Bor}
use Rattle.memory_histories.specs.declared.events.HistoryEvent.{HistoryEvent}
use Rattle.memory_histories.specs.declared.events.HistoryEvent.TheVariants.{LoadRequest, LoadResponse, StoreRequest, StoreResponse}
use Rattle.memory_histories.specs.declared.events.TheConstants.{ALL_ENABLED}
use Rattle.memory_histories.specs.declared.events.Rest.TheVariants.{Zeros}
use Rattle.machine_core.specs.Words.{Word, Event, Load, Store, Take, Answer, Accepted, Value, Sizes}
use Rattle.flat_model.specs.Flat.{opening, flat_run}
use Rattle.machine_core.specs.Machine as machine
use Rattle.machine_core.specs.Law.{IsLawful}
use Rattle.atomic_histories.specs.Law.{IsAtomic}
use Rattle.history_laws.specs.Laws.{IsRegular, IsFlat}

-- the bytes of words, in the order of memory
abbrev pub word_bytes : Word → List ℕ
word_bytes w = w.b0 ∷ w.b1 ∷ w.b2 ∷ w.b3 ∷ []

abbrev pub image_bytes : List Word → List ℕ
image_bytes [] = []
image_bytes (w ∷ ws) = word_bytes w ++ image_bytes ws

abbrev pub seen_bytes : List ℕ → Bor (List ℕ)
seen_bytes bytes = record { ref_ptr = (0, 0); now = bytes }

-- what is told of an event and its answer: a load is open from its acceptance, under its tag, to its value, and a store is answered
-- at its acceptance
abbrev pub told_events : Event → Answer → List HistoryEvent
told_events (Load tag at) Accepted = LoadRequest tag (4 * at) 4 ALL_ENABLED ∷ []
told_events (Store at word lanes) Accepted = StoreRequest 0 (4 * at) (seen_bytes (word_bytes word)) lanes.0 ∷ StoreResponse 0 ∷ []
told_events (Take place) (Value tag word) = LoadResponse tag (seen_bytes (word_bytes word)) ∷ []
told_events event answer = []

abbrev pub told_history : List Event → List Answer → List HistoryEvent
told_history [] answers = []
told_history (event ∷ events) [] = []
told_history (event ∷ events) (answer ∷ answers) = told_events event answer ++ told_history events answers

-- all bytes of these words lie below 2^64
abbrev pub IsAddressable : List Word → Type 0
IsAddressable image = length image ≤ 4611686018427387904

-- the history is one of all three laws, where memory has this image and zeros beyond it
pub record IsLawfulHistory (image : List ℕ) (size : ℕ) (history : List HistoryEvent) : Type 0 where
  pub flat : IsFlat image Zeros history
  pub atomic : IsAtomic image Zeros size history
  pub regular : IsRegular image Zeros history

-- a run of flat memory is a history of all three laws, in units of any size
abbrev pub RunIsLawful : List Word → ℕ → List Event → List Answer → Type 0
RunIsLawful image size events answers =
    IsAddressable image → IsTrue (is_some (flat_run (opening image) events answers))
    → IsLawfulHistory (image_bytes image) size (told_history events answers)

-- what the machine answers is a history of all three laws, whatever events come
abbrev pub MachineIsLawful : Sizes → List Word → ℕ → List Event → Type 0
MachineIsLawful z image size events =
    IsLawful z → length image ≡ z.words → IsAddressable image
    → IsLawfulHistory (image_bytes image) size (told_history events (machine.told z (machine.opening z image) events))
