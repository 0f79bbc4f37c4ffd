-- What the judge keeps of a history: the bytes of the open stores, those of answered stores that a load may still see, and of
-- each byte of an open load what it may return if it is answered now.
use Rattle.std.specs.Prelude.{ℕ, ◌≡◌, ◌+◌, ◌/◌, ◌<◌, Bool, true, false, ◌&&◌, ◌||◌, not, if◌then◌else◌, ◌==◌, List, [], ◌++◌, map}
use Rattle.std.specs.Prelude.{Option, Some, None, is_none}
use Rattle.std.specs.Prelude.{is_some, slice_get, length}
use Rattle.std.specs.List.{All, filter, list_any, fold}
use Rattle.memory_histories.specs.declared.events.HistoryEvent.{HistoryEvent}
use Rattle.memory_histories.specs.declared.events.HistoryEvent.TheVariants.{LoadRequest, LoadResponse, StoreRequest, StoreResponse}
use Rattle.memory_histories.specs.declared.events.HistoryFault.{HistoryFault}
use Rattle.memory_histories.specs.declared.events.Rest.{Rest}
use Rattle.memory_histories.specs.declared.events.Rest.TheVariants.{Zeros, Unknown}
use Rattle.memory_histories.specs.declared.windows.StoreByte.{StoreByte}
use Rattle.memory_histories.specs.declared.windows.LoadByte.{LoadByte}
use Rattle.memory_histories.specs.declared.sets.ByteSet.{ByteSet}
use Rattle.memory_histories.specs.declared.kept.OpenByte.{OpenByte}
use Rattle.memory_histories.specs.Sets.{has, with_byte, no_bytes, all_bytes}
use Rattle.memory_histories.specs.Windows.{Windows, store_bytes, load_bytes, is_open, is_of, is_at}
use Rattle.memory_histories.specs.Regular.{is_before, is_inside, has_enabled, enables_any, request_fault, load_response_fault}
use Rattle.memory_histories.specs.Regular.{store_response_fault, may_return_byte}

-- `stores` are the bytes of the open stores. `answered` gives those of answered stores by unit, that is by eight aligned
-- addresses, so that an event looks at the units of its operation alone
pub record Kept : Type 0 where
  pub image : List ℕ
  pub rest : Rest
  pub moment : ℕ
  pub stores : List StoreByte
  pub answered : ℕ → List StoreByte
  pub open_bytes : List OpenByte

abbrev pub opening : List ℕ → Rest → Kept
opening image rest = record { image = image; rest = rest; moment = 0; stores = []; answered = λ unit. []; open_bytes = [] }

-- the unit of an address
abbrev pub unit_of : ℕ → ℕ
unit_of address = address / 8

abbrev pub is_in : ℕ → StoreByte → Bool
is_in unit s = unit_of s.address == unit

-- whether a byte is of the load that is open under this number
abbrev pub is_open_of : ℕ → OpenByte → Bool
is_open_of number o = is_of number o.load

-- whether it is the one at this address
abbrev pub is_open_at : ℕ → ℕ → OpenByte → Bool
is_open_at number address o = is_at number address o.load

-- what memory may have had before the first store, where this is the image's byte, if it has one there
abbrev pub initial_set : Option ℕ → Rest → ByteSet
initial_set (Some i) rest = with_byte no_bytes i
initial_set None Zeros = with_byte no_bytes 0
initial_set None Unknown = all_bytes

-- the set with what these stores left at an address
abbrev pub with_stores : List StoreByte → ℕ → ByteSet → ByteSet
with_stores stores address set = fold (λ s x. with_byte s x.byte) set (filter (λ x. x.address == address) stores)

-- whether one of these bytes lies at an address
abbrev pub is_covered_by : List StoreByte → ℕ → Bool
is_covered_by answered address = list_any (λ s. s.address == address) answered

abbrev pub first_set : Bool → ByteSet → ByteSet
first_set covered initial = if covered then no_bytes else initial

-- what it may return at an address before it sees these bytes of answered stores
abbrev pub first_set_at : List ℕ → Rest → List StoreByte → ℕ → ByteSet
first_set_at image rest answered address = first_set (is_covered_by answered address) (initial_set (slice_get image address) rest)

-- what a load may return at an address if no store is open there, where these are the bytes of answered stores
abbrev pub settled_set : List ℕ → Rest → List StoreByte → ℕ → ByteSet
settled_set image rest answered address = with_stores answered address
    (first_set (is_covered_by answered address) (initial_set (slice_get image address) rest))

-- the same where these are those of each unit
abbrev pub settled_at : List ℕ → Rest → (ℕ → List StoreByte) → ℕ → ByteSet
settled_at image rest answered address = settled_set image rest (answered (unit_of address)) address

-- a byte of a load that is requested now, where these are the open stores and those that were answered
abbrev pub opened : List ℕ → Rest → List StoreByte → List StoreByte → LoadByte → OpenByte
opened image rest stores answered l = record {
  load = l;
  may = with_stores stores l.address (with_stores answered l.address
      (first_set (is_covered_by answered l.address) (initial_set (slice_get image l.address) rest)));
}

abbrev pub opened_at : List ℕ → Rest → List StoreByte → (ℕ → List StoreByte) → LoadByte → OpenByte
opened_at image rest stores answered l = opened image rest stores (answered (unit_of l.address)) l

-- a byte of an open load once these stores are requested
abbrev pub after_stores : List StoreByte → OpenByte → OpenByte
after_stores added o = record { load = o.load; may = with_stores added o.load.address o.may }

-- whether a byte was overwritten by one of a unit whose store is answered now
abbrev pub is_dropped : ℕ → List StoreByte → StoreByte → Bool
is_dropped unit ending s = list_any (λ e. (e.address == s.address) && (is_in unit e && is_before s.ended e.began)) ending

-- a byte whose store is answered at a moment
abbrev pub answered_at : ℕ → StoreByte → StoreByte
answered_at moment s = record { number = s.number; address = s.address; byte = s.byte; began = s.began; ended = Some moment }

-- those of these bytes that lie in a unit, as they are once their store is answered
abbrev pub joined : ℕ → List StoreByte → ℕ → List StoreByte
joined moment ending unit = map (answered_at moment) (filter (is_in unit) ending)

-- what is kept of a unit once the store with these bytes is answered: what it has overwritten is dropped
abbrev pub answered_after : ℕ → List StoreByte → ℕ → List StoreByte → List StoreByte
answered_after moment ending unit answered = filter (λ s. not (is_dropped unit ending s)) answered ++ joined moment ending unit

abbrev pub next_stores : Kept → HistoryEvent → List StoreByte
next_stores k (StoreRequest number address bytes enables) = k.stores ++ store_bytes number address bytes.now enables k.moment
next_stores k (StoreResponse number) = filter (λ s. not (is_open number s)) k.stores
next_stores k event = k.stores

abbrev pub next_answered : Kept → HistoryEvent → ℕ → List StoreByte
next_answered k (StoreResponse number) = λ unit. answered_after k.moment (filter (is_open number) k.stores) unit (k.answered unit)
next_answered k event = k.answered

abbrev pub next_open : Kept → HistoryEvent → List OpenByte
next_open k (LoadRequest number address n enables) = k.open_bytes ++ map (opened_at k.image k.rest k.stores k.answered)
    (load_bytes number address n enables k.moment)
next_open k (LoadResponse number bytes) = filter (λ o. not (is_open_of number o)) k.open_bytes
next_open k (StoreRequest number address bytes enables) =
    map (after_stores (store_bytes number address bytes.now enables k.moment)) k.open_bytes
next_open k event = k.open_bytes

abbrev pub kept_after : Kept → HistoryEvent → Kept
kept_after k event = record {
  image = k.image;
  rest = k.rest;
  moment = k.moment + 1;
  stores = next_stores k event;
  answered = next_answered k event;
  open_bytes = next_open k event;
}

abbrev pub may_have : OpenByte → ℕ → Bool
may_have o b = not o.load.enabled || has o.may b

-- the set that is shown of it: what is answered of a byte that isn't enabled may be anything
abbrev pub enabled_set : Bool → ByteSet → ByteSet
enabled_set true s = s
enabled_set false s = all_bytes

abbrev pub shown_set : OpenByte → ByteSet
shown_set o = enabled_set o.load.enabled o.may

abbrev pub kept_fault : Kept → HistoryEvent → Option HistoryFault
kept_fault k (LoadRequest number address n enables) =
    request_fault (is_inside address n) (enables_any n enables) (list_any (is_open_of number) k.open_bytes)
kept_fault k (LoadResponse number bytes) = load_response_fault may_have (filter (is_open_of number) k.open_bytes) bytes.now
kept_fault k (StoreRequest number address bytes enables) = request_fault (is_inside address (length bytes.now))
    (has_enabled bytes.now enables) (list_any (is_open number) k.stores)
kept_fault k (StoreResponse number) = store_response_fault (list_any (is_open number) k.stores)

-- one event, where it is one of the law
abbrev pub kept_step : Kept → HistoryEvent → Option Kept
kept_step k event = if is_none (kept_fault k event) then Some (kept_after k event) else None

-- Of which histories that is kept. ----

-- whether a byte was overwritten by a store that was answered
abbrev pub is_past : List StoreByte → StoreByte → Bool
is_past stores s = list_any (λ other. (other.address == s.address) && (is_before s.ended other.began && is_some other.ended)) stores

abbrev pub is_live : List StoreByte → StoreByte → Bool
is_live stores s = not (is_past stores s)

-- whether a byte is of an open store
abbrev pub is_unanswered : StoreByte → Bool
is_unanswered s = is_none s.ended

-- whether it lies in a unit, its store was answered, and a load may still see it
abbrev pub is_seen : ℕ → List StoreByte → StoreByte → Bool
is_seen unit stores s = is_in unit s && (is_some s.ended && is_live stores s)

-- a window began before now, and if it ended, it did so after that and before now
abbrev pub EndsBefore : ℕ → ℕ → Option ℕ → Type 0
EndsBefore moment began None = Unit {0}
EndsBefore moment began (Some e) = (began < e) × (e < moment)

abbrev pub IsTimely : ℕ → StoreByte → Type 0
IsTimely moment s = (s.began < moment) × EndsBefore moment s.began s.ended

-- the set of an open byte is what the law lets it return, if it is enabled
abbrev pub IsExact : Windows → OpenByte → Type 0
IsExact w o = (o.load.began < w.moment) × ((b : ℕ) → has o.may b ≡ may_return_byte w.image w.rest w.stores o.load b)

-- what is kept is of these windows. The order in which bytes of answered stores are kept has no meaning: they are the same to
-- every test
pub record StandsFor (k : Kept) (w : Windows) : Type 0 where
  pub same_image : k.image ≡ w.image
  pub same_rest : k.rest ≡ w.rest
  pub same_moment : k.moment ≡ w.moment
  pub open_stores : k.stores ≡ filter is_unanswered w.stores
  pub answered_stores : (unit : ℕ) (test : StoreByte → Bool) → list_any test (k.answered unit)
      ≡ list_any test (filter (is_seen unit w.stores) w.stores)
  pub load_bytes : map (λ o. o.load) k.open_bytes ≡ w.loads
  pub exact : All (IsExact w) k.open_bytes
  pub timely : All (IsTimely w.moment) w.stores
