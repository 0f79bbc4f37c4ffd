-- What the judge keeps of all units, and of which histories that is kept.
use Rattle.std.specs.Prelude.{ℕ, zero, suc, ◌≡◌, ◌+◌, ◌-◌, ◌*◌, ◌/◌, ◌<◌, ◌≤◌, ◌⊎◌, length, Bool, true, false, ◌&&◌, ◌||◌, not}
use Rattle.std.specs.Prelude.{if◌then◌else◌, ◌==◌, nat_lt, nat_le, List, [], ◌∷◌, min, Option, Some, None}
use Rattle.std.specs.List.{list_any, find}
use Rattle.memory_histories.specs.declared.events.HistoryEvent.{HistoryEvent}
use Rattle.memory_histories.specs.declared.events.HistoryEvent.TheVariants.{LoadRequest, LoadResponse, StoreRequest, StoreResponse}
use Rattle.memory_histories.specs.declared.events.Rest.{Rest}
use Rattle.atomic_histories.specs.declared.unit.Operation.{Operation}
use Rattle.atomic_histories.specs.declared.unit.UnitPlace.{UnitPlace}
use Rattle.atomic_histories.specs.Operations.{Opened, none_opened, opened_by, has_number}
use Rattle.atomic_histories.specs.Law.{untouched, unit_at, is_formed}
use Rattle.atomic_histories.specs.Followed.{Ways, first_ways, has_way, ways_after, needs_too_many, is_too_wide}
use Rattle.atomic_histories.specs.Stands.{StandsFor}

-- of each unit, by its number, the ways that it may have gone, and how many words are kept of what stood there since the request of
-- the oldest load that is open; a unit that was forgotten has no ways
pub record Held : Type 0 where
  pub image : List ℕ
  pub rest : Rest
  pub size : ℕ
  pub opened : Opened
  pub units : ℕ → Ways
  pub words : ℕ → ℕ

abbrev pub nothing_held : List ℕ → Rest → ℕ → Held
nothing_held image rest size =
    record {
      image = image;
      rest = rest;
      size = size;
      opened = none_opened;
      units = λ k. first_ways image rest (unit_at size k);
      words = λ k. 0;
    }

-- The units that an event touches. ----

-- the first address of an operation, and how many bytes it has
abbrev pub bytes_of_open : Option Operation → ℕ × ℕ
bytes_of_open None = (0, 0)
bytes_of_open (Some o) = (o.address, o.length)

-- those of the operation that an event requests or answers
abbrev pub covered : Opened → HistoryEvent → ℕ × ℕ
covered o (LoadRequest number address n enables) = (address, n)
covered o (LoadResponse number bytes) = bytes_of_open (find (has_number number) o.loads)
covered o (StoreRequest number address bytes enables) = (address, length bytes.now)
covered o (StoreResponse number) = bytes_of_open (find (has_number number) o.stores)

-- how many units bytes lie in
abbrev pub units_of : ℕ → ℕ → ℕ → ℕ
units_of size address length = (min (address + length) 18446744073709551616 - 1) / size - address / size + 1

-- whether bytes lie in unit k
abbrev pub is_among : ℕ → ℕ × ℕ → ℕ → Bool
is_among size p k = nat_le (p.0 / size) k && nat_lt k (p.0 / size + units_of size p.0 p.1)

-- An event. ----

abbrev pub changed : Held → HistoryEvent → ℕ → Ways
changed h event k = ways_after (unit_at h.size k) (h.units k) event

-- what is kept of unit k after an event
abbrev pub unit_after : Held → HistoryEvent → ℕ → Ways
unit_after h event k = if is_among h.size (covered h.opened event) k then changed h event k else h.units k

-- whether no way is left, where there was one
abbrev pub is_without : Ways → Ways → Bool
is_without before after = has_way before && not (has_way after)

-- whether an event leaves a unit no way, which had one
abbrev pub is_stuck : Held → HistoryEvent → ℕ → Bool
is_stuck h event k = is_without (h.units k) (changed h event k)

-- what is kept after an event of n units from number k on
abbrev pub ways_from : Held → HistoryEvent → ℕ → ℕ → List Ways
ways_from h event k zero = []
ways_from h event k (suc n) = changed h event k ∷ ways_from h event (k + 1) n

-- of those that it touches
abbrev pub ways_there : Held → HistoryEvent → List Ways
ways_there h event = let p = covered h.opened event in ways_from h event (p.0 / h.size) (units_of h.size p.0 p.1)

-- whether it needs too many pairs there
abbrev pub is_over_at : ℕ → Held → HistoryEvent → ℕ → Bool
is_over_at limit h event k = needs_too_many limit (unit_at h.size k) (h.units k) event

-- the first of n units from number k on that it leaves no way, or at which it needs too many pairs
abbrev pub halt_from : ℕ → Held → HistoryEvent → ℕ → ℕ → Option ℕ
halt_from limit h event k zero = None
halt_from limit h event k (suc n) =
    if is_stuck h event k || is_over_at limit h event k then Some k else halt_from limit h event (k + 1) n

abbrev pub first_halt : ℕ → Held → HistoryEvent → Option ℕ
first_halt limit h event =
    let p = covered h.opened event in halt_from limit h event (p.0 / h.size) (units_of h.size p.0 p.1)

-- an event needs too many ways at the unit that begins at an address, one of n units from number k on
abbrev pub IsWideFrom : ℕ → Held → HistoryEvent → ℕ → ℕ → ℕ → Type 0
IsWideFrom limit h event k n address =
    (j : ℕ) × (k ≤ j) × (j < k + n) × (address ≡ j * h.size) × (is_too_wide limit (unit_at h.size j) (h.words j) (h.units j) event ≡ true)

-- one of those that it touches
abbrev pub IsWide : ℕ → Held → HistoryEvent → ℕ → Type 0
IsWide limit h event address =
    let p = covered h.opened event in IsWideFrom limit h event (p.0 / h.size) (units_of h.size p.0 p.1) address

-- Of which histories it is kept. ----

-- the ways of this unit are those of the history
abbrev pub Stands : List ℕ → Rest → List HistoryEvent → UnitPlace → Ways → Type 0
Stands image rest history unit u = StandsFor (untouched image rest unit) unit u history

-- whether unit k is among those that were forgotten
abbrev pub is_lost : ℕ → List ℕ → Bool
is_lost k lost = list_any (λ j. j == k) lost

-- nothing is kept of a forgotten unit, and of another the ways that are the history's
abbrev pub StandsAt : Held → List ℕ → List HistoryEvent → ℕ → Type 0
StandsAt h lost history k =
    ((is_lost k lost ≡ true) × (has_way (h.units k) ≡ false))
    ⊎ ((is_lost k lost ≡ false) × (Stands h.image h.rest history (unit_at h.size k) (h.units k) × (has_way (h.units k) ≡ true)))

-- what is kept is of this history, once these units were forgotten
pub record StandsBut (h : Held) (lost : List ℕ) (history : List HistoryEvent) : Type 0 where
  pub sized : 1 ≤ h.size
  pub formed : is_formed none_opened history ≡ true
  pub opened : h.opened ≡ opened_by history
  pub units : (k : ℕ) → StandsAt h lost history k

-- what is kept is of this history, and no unit was forgotten
abbrev pub StandsForAll : Held → List HistoryEvent → Type 0
StandsForAll h history = StandsBut h [] history
