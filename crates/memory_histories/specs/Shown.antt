-- What a `RegularMemory` keeps, and what the answers of its calls say.
use Rattle.std.specs.Prelude.{ℕ, ◌≡◌, Bool, true, if◌then◌else◌, ◌==◌, List, [], ◌∷◌, Option, Some, None, nat_eq}
use Rattle.std.specs.HashMap.{get}
use Rattle.std.specs.List.{find, list_any}
use Rattle.memory_histories.specs.declared.events.HistoryEvent.{HistoryEvent}
use Rattle.memory_histories.specs.declared.events.HistoryFault.{HistoryFault}
use Rattle.memory_histories.specs.declared.events.StepFault.{StepFault}
use Rattle.memory_histories.specs.declared.events.StepFault.TheVariants.{Refused, TooLong, OutOfMemory}
use Rattle.memory_histories.specs.declared.windows.LoadByte.{LoadByte}
use Rattle.memory_histories.specs.declared.windows.StoreByte.{StoreByte}
use Rattle.memory_histories.specs.declared.sets.ByteSet.{ByteSet}
use Rattle.memory_histories.specs.declared.parts.StorePart.{StorePart}
use Rattle.memory_histories.specs.declared.answered.KeptUnit.{KeptUnit}
use Rattle.memory_histories.specs.declared.answered.UnitChange.{UnitChange}
use Rattle.memory_histories.specs.declared.regular.RegularMemory.{RegularMemory}
use Rattle.memory_histories.specs.Sets.{has}
use Rattle.memory_histories.specs.Windows.{Windows, is_at}
use Rattle.memory_histories.specs.Regular.{fault, is_allowed}
use Rattle.memory_histories.specs.Kept.{Kept, kept_fault, answered_after}
use Rattle.memory_histories.specs.Parts.{parts_bytes}
use Rattle.memory_histories.specs.Loads.{loads_open}

-- what is kept of a unit of answered stores: nothing of one that isn't there
abbrev pub parts_or : Option KeptUnit → List StorePart
parts_or (Some unit) = unit.parts.items
parts_or None = []

abbrev pub parts_in : (ℕ → Option KeptUnit) → ℕ → List StorePart
parts_in units unit = parts_or (units unit)

abbrev pub answered_in : (ℕ → Option KeptUnit) → ℕ → List StoreByte
answered_in units unit = parts_bytes (parts_in units unit)

-- whether a change is of this unit
abbrev pub is_of_unit : ℕ → UnitChange → Bool
is_of_unit unit change = change.unit == unit

-- what is kept of the units with these changes: of two of one unit the first counts
abbrev pub put_units : (ℕ → List StoreByte) → List UnitChange → ℕ → List StoreByte
put_units answered [] unit = answered unit
put_units answered (change ∷ changes) unit = if is_of_unit unit change then parts_bytes change.after.parts.items
    else put_units answered changes unit

-- a change is what the answer to the store with these bytes makes of its unit
abbrev pub IsAfter : ℕ → List StoreByte → (ℕ → List StoreByte) → UnitChange → Type 0
IsAfter moment ending answered change =
    parts_bytes change.after.parts.items ≡ answered_after moment ending change.unit (answered change.unit)

-- the unit of a part is among those that change
abbrev pub HasUnit : List UnitChange → StorePart → Type 0
HasUnit changes p = list_any (is_of_unit p.unit) changes ≡ true

-- what it keeps
unfoldable pub kept : RegularMemory → Kept
kept m = record {
  image = m.image.items;
  rest = m.rest;
  moment = m.moment;
  stores = parts_bytes m.stores.items;
  answered = answered_in (get nat_eq m.units);
  open_bytes = loads_open m.loads.items;
}

-- what each fault of a step says of the event, where this is why it is none of the law, and over what is kept and over the
-- windows
abbrev pub FaultIs : Option HistoryFault → ℕ → StepFault → Type 0
FaultIs fault moment (Refused cause) = fault ≡ Some cause
FaultIs fault moment TooLong = (fault ≡ None) × (moment ≡ 18446744073709551615)
FaultIs fault moment OutOfMemory = fault ≡ None

abbrev pub KeptFaultIs : Kept → HistoryEvent → StepFault → Type 0
KeptFaultIs k event = FaultIs (kept_fault k event) k.moment

abbrev pub StepFaultIs : Windows → HistoryEvent → StepFault → Type 0
StepFaultIs w event (Refused cause) = fault w event ≡ Some cause
StepFaultIs w event TooLong = (fault w event ≡ None) × (w.moment ≡ 18446744073709551615)
StepFaultIs w event OutOfMemory = fault w event ≡ None

-- the set is what the open load of this number may return at an address, and there is none if no such load asks for the byte
abbrev pub IsSetOf : Windows → ℕ → ℕ → Option ByteSet → Type 0
IsSetOf w number address None = find (is_at number address) w.loads ≡ None
IsSetOf w number address (Some set) = (l : LoadByte) × (find (is_at number address) w.loads ≡ Some l) ×
    ((b : ℕ) → has set b ≡ is_allowed w l b)
