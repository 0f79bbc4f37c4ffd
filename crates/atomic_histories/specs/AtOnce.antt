-- Events that are taken where a unit's way stands, with no search, and what is kept before the operations that are open change.
use Rattle.std.specs.Prelude.{ℕ, ◌≡◌, Bool, true, false}
use Rattle.memory_histories.specs.declared.events.HistoryEvent.{HistoryEvent}
use Rattle.atomic_histories.specs.declared.unit.UnitPlace.{UnitPlace}
use Rattle.atomic_histories.specs.Followed.{Ways, ways_after}
use Rattle.atomic_histories.specs.Held.{Held, is_without, unit_after}

-- a unit's ways became those that an event leads to, or they are as they were
abbrev pub IsUnitTaken : UnitPlace → HistoryEvent → Ways → Ways → Bool → Type 0
IsUnitTaken unit event before after true =
    (after ≡ ways_after unit before event) × (is_without before (ways_after unit before event) ≡ false)
IsUnitTaken unit event before after false = after ≡ before

-- the units that an event touches took it, and the operations that are open are not yet those after it
pub record AreTaken (h : Held) (event : HistoryEvent) (next : Held) : Type 0 where
  pub image : next.image ≡ h.image
  pub rest : next.rest ≡ h.rest
  pub size : next.size ≡ h.size
  pub opened : next.opened ≡ h.opened
  pub units : (k : ℕ) → next.units k ≡ unit_after h event k

-- or all is as it was
abbrev pub AreTakenOrSame : Held → HistoryEvent → Held → Bool → Type 0
AreTakenOrSame h event next true = AreTaken h event next
AreTakenOrSame h event next false = next ≡ h
