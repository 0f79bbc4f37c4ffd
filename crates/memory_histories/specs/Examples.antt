-- Worked histories of the regular law, each checked by computing.
use Rattle.std.specs.Prelude.{◌≡◌, ℕ, List, [], ◌∷◌, ◌++◌, Some, is_some, IsTrue}
use Rattle.std.specs.Option.{option_map}
use Rattle.std.specs.Borrow.{Bor}
use Rattle.std.proofs.Common.{refl}
use Rattle.memory_histories.specs.declared.events.HistoryEvent.{HistoryEvent}
use Rattle.memory_histories.specs.declared.events.HistoryEvent.TheVariants.{LoadRequest, LoadResponse, StoreRequest, StoreResponse}
use Rattle.memory_histories.specs.declared.events.HistoryFault.{HistoryFault}
use Rattle.memory_histories.specs.declared.events.HistoryFault.TheVariants.{NoByteEnabled, WrongByte}
use Rattle.memory_histories.specs.declared.events.TheConstants.{ALL_ENABLED}
use Rattle.memory_histories.specs.declared.events.Rest.TheVariants.{Zeros}
use Rattle.memory_histories.specs.Windows.{Windows, opening}
use Rattle.memory_histories.specs.Regular.{fault, regular_run}

abbrev pub bytes : List ℕ → Bor (List ℕ)
bytes xs = record { ref_ptr = (0, 0); now = xs }

-- memory of zeros
abbrev start : Windows
start = opening [] Zeros

-- a history is one of the law
abbrev Passes : List HistoryEvent → Type 0
Passes events = IsTrue (is_some (regular_run start events))

-- a history is one of the law, and with this event it is none, for this fault
abbrev Stops : List HistoryEvent → HistoryEvent → HistoryFault → Type 0
Stops events event cause = option_map (λ w. fault w event) (regular_run start events) ≡ Some (Some cause)

-- a load of so many bytes at 4096 that is requested and answered
abbrev pub load : ℕ → ℕ → List ℕ → List HistoryEvent
load number length xs = LoadRequest number 4096 length ALL_ENABLED ∷ LoadResponse number (bytes xs) ∷ []

-- two stores of a word of two bytes that overlap
abbrev pub two_stores : List HistoryEvent
two_stores =
    StoreRequest 1 4096 (bytes (17 ∷ 17 ∷ [])) 3 ∷ StoreRequest 2 4096 (bytes (34 ∷ 34 ∷ [])) 3
    ∷ StoreResponse 1 ∷ StoreResponse 2 ∷ []

-- new then old: while a store is open, one load sees it, and a later one doesn't
pub new_then_old : Passes (StoreRequest 1 4096 (bytes (90 ∷ [])) 1 ∷ [] ++ load 1 1 (90 ∷ []) ++ load 2 1 (0 ∷ []))
new_then_old = refl

-- once the store is answered, no load sees what stood there before it
pub old_after_new : Stops (StoreRequest 1 4096 (bytes (90 ∷ [])) 1 ∷ StoreResponse 1 ∷ LoadRequest 1 4096 1 ALL_ENABLED ∷ [])
    (LoadResponse 1 (bytes (0 ∷ []))) (WrongByte 0)
old_after_new = refl

-- two overlapping stores: a load behind them sees either, and not what stood there before
pub the_first_of_two : Passes (two_stores ++ load 1 2 (17 ∷ 17 ∷ []))
the_first_of_two = refl

pub the_second_of_two : Passes (two_stores ++ load 1 2 (34 ∷ 34 ∷ []))
the_second_of_two = refl

pub none_of_two : Stops (two_stores ++ LoadRequest 1 4096 2 ALL_ENABLED ∷ []) (LoadResponse 1 (bytes (34 ∷ 0 ∷ []))) (WrongByte 1)
none_of_two = refl

-- a store of the first byte alone settles that byte, and leaves its neighbour's choice
abbrev one_byte_stored : List HistoryEvent
one_byte_stored = two_stores ++ StoreRequest 3 4096 (bytes (51 ∷ 51 ∷ [])) 1 ∷ StoreResponse 3 ∷ []

pub a_neighbour_stays : Passes (one_byte_stored ++ load 1 2 (51 ∷ 17 ∷ []) ++ load 1 2 (51 ∷ 34 ∷ []))
a_neighbour_stays = refl

pub a_byte_is_settled : Stops (one_byte_stored ++ LoadRequest 1 4096 2 ALL_ENABLED ∷ []) (LoadResponse 1 (bytes (17 ∷ 17
    ∷ []))) (WrongByte 0)
a_byte_is_settled = refl

-- a torn word: each byte is one that was stored, so the regular law lets it through
pub a_torn_word : Passes (two_stores ++ load 1 2 (17 ∷ 34 ∷ []))
a_torn_word = refl

-- a load that enables its second byte alone: what it is answered of its first isn't judged
pub a_byte_that_is_not_enabled : Passes (two_stores ++ LoadRequest 1 4096 2 2 ∷ LoadResponse 1 (bytes (99 ∷ 34 ∷ [])) ∷ [])
a_byte_that_is_not_enabled = refl

pub the_byte_beside_it : Stops (two_stores ++ LoadRequest 1 4096 2 2 ∷ []) (LoadResponse 1 (bytes (99 ∷ 0 ∷ []))) (WrongByte 1)
the_byte_beside_it = refl

-- bits beyond the last byte have no meaning
pub a_load_of_no_byte : Stops two_stores (LoadRequest 1 4096 2 4) NoByteEnabled
a_load_of_no_byte = refl
