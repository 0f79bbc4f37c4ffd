-- The worked histories of `Examples` under the flat law, each checked by computing.
use Rattle.std.specs.Prelude.{◌≡◌, List, [], ◌∷◌, ◌++◌, Some, is_some, IsTrue}
use Rattle.std.specs.Option.{option_map}
use Rattle.std.proofs.Common.{refl}
use Rattle.memory_histories.specs.declared.events.HistoryEvent.{HistoryEvent}
use Rattle.memory_histories.specs.declared.events.HistoryEvent.TheVariants.{LoadRequest, LoadResponse, StoreRequest, StoreResponse}
use Rattle.memory_histories.specs.declared.events.HistoryFault.{HistoryFault}
use Rattle.memory_histories.specs.declared.events.HistoryFault.TheVariants.{WrongByte}
use Rattle.memory_histories.specs.declared.events.TheConstants.{ALL_ENABLED}
use Rattle.memory_histories.specs.declared.events.Rest.TheVariants.{Zeros}
use Rattle.memory_histories.specs.Flat.{Flat, opening, flat_fault, flat_run}
use Rattle.memory_histories.specs.Examples.{bytes, load, two_stores}

-- memory of zeros
abbrev start : Flat
start = opening [] Zeros

-- a history is one of the law
abbrev Passes : List HistoryEvent → Type 0
Passes events = IsTrue (is_some (flat_run start events))

-- a history is one of the law, and with this event it is none, for this fault
abbrev Stops : List HistoryEvent → HistoryEvent → HistoryFault → Type 0
Stops events event cause = option_map (λ f. flat_fault f event) (flat_run start events) ≡ Some (Some cause)

-- new then old: a store stands in memory from its request on
pub new_then_old : Stops (StoreRequest 1 4096 (bytes (90 ∷ [])) 1 ∷ [] ++ load 1 1 (90 ∷ []) ++ LoadRequest 2 4096 1 ALL_ENABLED ∷ [])
    (LoadResponse 2 (bytes (0 ∷ []))) (WrongByte 0)
new_then_old = refl

-- a lost store
pub old_after_new : Stops (StoreRequest 1 4096 (bytes (90 ∷ [])) 1 ∷ StoreResponse 1 ∷ LoadRequest 1 4096 1 ALL_ENABLED ∷ [])
    (LoadResponse 1 (bytes (0 ∷ []))) (WrongByte 0)
old_after_new = refl

-- of two overlapping stores the one that was requested last stands there
pub the_second_of_two : Passes (two_stores ++ load 1 2 (34 ∷ 34 ∷ []))
the_second_of_two = refl

pub the_first_of_two : Stops (two_stores ++ LoadRequest 1 4096 2 ALL_ENABLED ∷ []) (LoadResponse 1 (bytes (17 ∷ 17 ∷ []))) (WrongByte 0)
the_first_of_two = refl

-- a torn word
pub a_torn_word : Stops (two_stores ++ LoadRequest 1 4096 2 ALL_ENABLED ∷ []) (LoadResponse 1 (bytes (17 ∷ 34 ∷ []))) (WrongByte 0)
a_torn_word = refl

-- a load that is requested before a store doesn't see it
pub a_load_before : Passes
    (LoadRequest 1 4096 1 ALL_ENABLED ∷ StoreRequest 1 4096 (bytes (90 ∷ [])) 1 ∷ StoreResponse 1
    ∷ LoadResponse 1 (bytes (0 ∷ [])) ∷ [])
a_load_before = refl

-- a load that enables its second byte alone
pub a_byte_that_is_not_enabled : Passes (two_stores ++ LoadRequest 1 4096 2 2 ∷ LoadResponse 1 (bytes (99 ∷ 34 ∷ [])) ∷ [])
a_byte_that_is_not_enabled = refl

pub the_byte_beside_it : Stops (two_stores ++ LoadRequest 1 4096 2 2 ∷ []) (LoadResponse 1 (bytes (99 ∷ 17 ∷ []))) (WrongByte 1)
the_byte_beside_it = refl
