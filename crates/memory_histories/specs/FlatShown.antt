-- What a `FlatHistory` shows, and what the answers of its calls say.
use Rattle.std.specs.Prelude.{ℕ, ◌≡◌, nat_eq, List, Option, Some, None, slice_get}
use Rattle.std.specs.HashMap.{get}
use Rattle.memory_histories.specs.declared.events.HistoryEvent.{HistoryEvent}
use Rattle.memory_histories.specs.declared.events.Rest.{Rest}
use Rattle.memory_histories.specs.declared.events.StepFault.{StepFault}
use Rattle.memory_histories.specs.declared.events.StepFault.TheVariants.{Refused, TooLong, OutOfMemory}
use Rattle.memory_histories.specs.declared.flat.FlatHistory.{FlatHistory}
use Rattle.memory_histories.specs.declared.flat.OwedByte.{OwedByte}
use Rattle.memory_histories.specs.declared.reasons.Owed.{Owed}
use Rattle.memory_histories.specs.declared.reasons.Owed.TheVariants as owed
use Rattle.memory_histories.specs.declared.sets.ByteSet.{ByteSet}
use Rattle.memory_histories.specs.Sets.{has, with_byte, no_bytes, all_bytes}
use Rattle.memory_histories.specs.Flat.{Flat, initial, may_return, flat_fault}

-- what stands at an address: what was written there last, or what was there before the first store
abbrev pub standing_or : Option Owed → Owed → Owed
standing_or (Some o) first = o
standing_or None first = first

abbrev pub standing : List ℕ → Rest → (ℕ → Option Owed) → ℕ → Owed
standing image rest written a = standing_or (written a) (initial (slice_get image a) rest)

-- memory with what was stored and loaded in it
unfoldable pub shown : FlatHistory → Flat
shown m = record {
  memory = standing m.image.items m.rest (get nat_eq m.written);
  moment = m.moment;
  stores = m.stores.items;
  loads = m.loads.items;
}

-- what each fault of a step says of the event
abbrev pub FlatFaultIs : Flat → HistoryEvent → StepFault → Type 0
FlatFaultIs f event (Refused cause) = flat_fault f event ≡ Some cause
FlatFaultIs f event TooLong = (flat_fault f event ≡ None) × (f.moment ≡ 18446744073709551615)
FlatFaultIs f event OutOfMemory = flat_fault f event ≡ None

-- the set of what a load that is owed this may return
abbrev pub owed_set : Owed → ByteSet
owed_set owed.Unknown = all_bytes
owed_set (owed.Initial b) = with_byte no_bytes b
owed_set (owed.Stored b store) = with_byte no_bytes b

-- the set is what this byte of an open load may return, and there is none if there is no such byte
abbrev pub IsOwedSet : Option OwedByte → Option ByteSet → Type 0
IsOwedSet None set = set ≡ None
IsOwedSet (Some l) set = (s : ByteSet) × (set ≡ Some s) × ((b : ℕ) → has s b ≡ may_return l b)
