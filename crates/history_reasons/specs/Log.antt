-- What a log keeps of a history, to say why a byte is wrong.
use Rattle.std.specs.Prelude.{ℕ, ◌≡◌, ◌≤◌, ◌+◌, ◌-◌, ◌*◌, ◌/◌, ◌==◌, ◌&&◌, nat_lt, min, if◌then◌else◌, Bool, true, not, List, [], ◌∷◌, ◌++◌}
use Rattle.std.specs.Prelude.{map, drop, length, Option, Some, None, vec_len, vec_capacity}
use Rattle.std.specs.Int.Count.{ones_in}
use Rattle.std.specs.List.{filter}
use Rattle.memory_histories.specs.declared.events.HistoryEvent.{HistoryEvent}
use Rattle.memory_histories.specs.declared.events.HistoryEvent.TheVariants.{LoadRequest, LoadResponse, StoreRequest, StoreResponse}
use Rattle.memory_histories.specs.declared.events.Rest.TheVariants.{Unknown}
use Rattle.memory_histories.specs.declared.windows.StoreByte.{StoreByte}
use Rattle.memory_histories.specs.declared.windows.LoadByte.{LoadByte}
use Rattle.memory_histories.specs.Windows.{Windows, store_bytes, load_bytes, is_of, after_response}
use Rattle.memory_histories.specs.Regular.{is_inside}
use Rattle.history_reasons.specs.declared.log.StoreLog.{StoreLog}
use Rattle.history_reasons.specs.declared.Reason.{Reason}
use Rattle.history_reasons.specs.declared.Reason.TheVariants.{StoreOverwritten}
use Rattle.history_reasons.specs.declared.places.StorePlace.{StorePlace}
use Rattle.history_reasons.specs.declared.stores.KeptStore.{KeptStore}
use Rattle.history_reasons.specs.Stores.{bytes_of, all_bytes, stored_there, with_store, gone_stores, without_bytes}
use Rattle.history_reasons.specs.Reasons.{HasReason, last_reason}
use Rattle.history_reasons.specs.declared.givers.Source.{Source}
use Rattle.history_reasons.specs.declared.givers.Source.TheVariants.{Store}
use Rattle.history_reasons.specs.Sources.{givers, sources, at_request}
use Rattle.history_reasons.specs.Places.{AreFound, is_place_of, ended_at, moved_down}
use Rattle.history_reasons.specs.declared.loads.OpenLoad.{OpenLoad}
use Rattle.history_reasons.specs.Loads.{all_bytes_of, without_load}
use Rattle.history_reasons.specs.Open.{HasNoneOpen}

-- so many bytes of stores are forgotten at a time, and so many are left at least
abbrev pub kept_bytes : ℕ
kept_bytes = 4096

-- how many of so many bytes are forgotten: the first 4,096, each time that twice as many are there
abbrev pub forgotten : ℕ → ℕ
forgotten n = kept_bytes * (n / kept_bytes - 1)

-- those that are left
abbrev pub left_stores : List StoreByte → List StoreByte
left_stores stores = drop (forgotten (length stores)) stores

-- whether none is forgotten
abbrev pub has_all : List StoreByte → Bool
has_all stores = nat_lt (length stores) (2 * kept_bytes)

-- a log is of the history that adds up to these windows: it has the bytes of the stores but those that are forgotten, and those of the
-- open loads, and it finds the open stores
pub record IsLogOf (g : StoreLog) (w : Windows) : Type 0 where
  pub image : g.image.items ≡ w.image
  pub rest : g.rest ≡ w.rest
  pub moment : g.moment ≡ w.moment
  pub loads : all_bytes_of g.loads.items ≡ w.loads
  pub stores : all_bytes g.stores.items ≡ left_stores w.stores
  pub byte_count : g.byte_count ≡ length (left_stores w.stores)
  pub is_whole : g.is_whole ≡ has_all w.stores
  pub found : AreFound g.places.items g.stores.items
  -- (which loads and stores are open is told event by event)
  pub none_open : w.moment ≡ 0 → HasNoneOpen g

-- a moment passes without an event
abbrev pub idle : Windows → Windows
idle w = record { image = w.image; rest = w.rest; moment = w.moment + 1; stores = w.stores; loads = w.loads }

-- whether an operation that an event requests lies within memory
abbrev pub is_within : HistoryEvent → Bool
is_within (LoadRequest number address n enables) = is_inside address n
is_within (StoreRequest number address bytes enables) = is_inside address (length bytes.now)
is_within (LoadResponse number bytes) = true
is_within (StoreResponse number) = true

-- there is room for what one event adds
abbrev pub HasRoom : StoreLog → Type 0
HasRoom g = (vec_len g.stores + 1 ≤ vec_capacity g.stores)
    × ((vec_len g.places + 1 ≤ vec_capacity g.places) × (vec_len g.loads + 1 ≤ vec_capacity g.loads))

-- the bytes of stores and of open loads, once an event of this moment is noted
abbrev pub noted_stores : List StoreByte → ℕ → HistoryEvent → List StoreByte
noted_stores stores moment (StoreRequest number address bytes enables) = stores ++ store_bytes number address bytes.now enables moment
noted_stores stores moment (StoreResponse number) = map (after_response number moment) stores
noted_stores stores moment event = stores

abbrev pub noted_loads : List LoadByte → ℕ → HistoryEvent → List LoadByte
noted_loads loads moment (LoadRequest number address n enables) = loads ++ load_bytes number address n enables moment
noted_loads loads moment (LoadResponse number bytes) = filter (λ l. not (is_of number l)) loads
noted_loads loads moment event = loads

-- the same of a log: a store is kept whole, and an answer ends those that are found from the places
abbrev pub AreNoted : List StorePlace → List KeptStore → ℕ → HistoryEvent → List KeptStore → Type 0
AreNoted places stores moment (StoreRequest number address bytes enables) noted =
    (s : KeptStore) × ((s.number ≡ number) × ((bytes_of s ≡ store_bytes number address bytes.now enables moment)
    × (noted ≡ with_store s stores)))
AreNoted places stores moment (StoreResponse number) noted = noted ≡ ended_at places number moment stores
AreNoted places stores moment event noted = noted ≡ stores

-- how many bytes the stores have then, unless there are as many as can be counted
abbrev pub count_then : ℕ → HistoryEvent → ℕ
count_then n (StoreRequest number address bytes enables) = min (n + ones_in (length bytes.now) enables) 18446744073709551615
count_then n event = n

abbrev pub noted_places : List StorePlace → List KeptStore → HistoryEvent → List StorePlace
noted_places places stores (StoreRequest number address bytes enables) =
    places ++ (record { number = number; address = address; first = length stores; most = length bytes.now }) ∷ []
noted_places places stores (StoreResponse number) = filter (λ p. not (is_place_of number p)) places
noted_places places stores event = places

abbrev pub told_loads : List OpenLoad → ℕ → HistoryEvent → List OpenLoad
told_loads loads moment (LoadRequest number address n enables) =
    loads ++ (record { number = number; address = address; length = n; enables = enables; began = moment }) ∷ []
told_loads loads moment (LoadResponse number bytes) = without_load number loads
told_loads loads moment event = loads

-- an event was noted, but for the count of events
pub record IsNoted (g : StoreLog) (event : HistoryEvent) (h : StoreLog) : Type 0 where
  pub image : h.image.items ≡ g.image.items
  pub rest : h.rest ≡ g.rest
  pub moment : h.moment ≡ g.moment
  pub is_whole : h.is_whole ≡ g.is_whole
  pub stores : AreNoted g.places.items g.stores.items g.moment event h.stores.items
  pub byte_count : h.byte_count ≡ count_then g.byte_count event
  pub places : h.places.items ≡ noted_places g.places.items g.stores.items event
  pub loads : h.loads.items ≡ told_loads g.loads.items g.moment event

-- one event more is counted, unless there are as many as can be counted
pub record IsCounted (g : StoreLog) (h : StoreLog) : Type 0 where
  pub image : h.image.items ≡ g.image.items
  pub rest : h.rest ≡ g.rest
  pub moment : h.moment ≡ min (g.moment + 1) 18446744073709551615
  pub is_whole : h.is_whole ≡ g.is_whole
  pub stores : h.stores.items ≡ g.stores.items
  pub byte_count : h.byte_count ≡ g.byte_count
  pub places : h.places.items ≡ g.places.items
  pub loads : h.loads.items ≡ g.loads.items

-- the stores without so many first bytes, and how many stores are then gone
abbrev pub shortened : ℕ → List KeptStore → List KeptStore
shortened count stores = if count == 0 then stores else without_bytes count stores

abbrev pub gone : ℕ → List KeptStore → ℕ
gone count stores = if count == 0 then 0 else gone_stores count stores

-- the first bytes of stores were forgotten, if there were too many
pub record IsShortened (g : StoreLog) (h : StoreLog) : Type 0 where
  pub image : h.image.items ≡ g.image.items
  pub rest : h.rest ≡ g.rest
  pub moment : h.moment ≡ g.moment
  pub loads : h.loads.items ≡ g.loads.items
  pub stores : h.stores.items ≡ shortened (forgotten g.byte_count) g.stores.items
  pub byte_count : h.byte_count ≡ g.byte_count - forgotten g.byte_count
  pub places : h.places.items ≡ map (moved_down (gone (forgotten g.byte_count) g.stores.items)) g.places.items
  pub is_whole : h.is_whole ≡ g.is_whole && (forgotten g.byte_count == 0)

-- a reason that names who stored the byte: what memory had before, and whether no store had it, isn't known once stores are forgotten
abbrev pub of_store : Option Reason → Option Reason
of_store (Some (StoreOverwritten stored by)) = Some (StoreOverwritten stored by)
of_store reason = None

-- what these last stores tell of a byte: as if nothing were known of memory before them
abbrev pub part_reason : List StoreByte → LoadByte → ℕ → Option Reason
part_reason stores l b = of_store (last_reason [] Unknown stores l b)

-- (a log looks at the stores to the byte alone)
abbrev pub kept_reason : StoreLog → LoadByte → ℕ → Option Reason
kept_reason g l b =
    if g.is_whole then last_reason g.image.items g.rest (stored_there l.address g.stores.items) l b
    else part_reason (stored_there l.address g.stores.items) l b

-- what is told of a byte of a load, by the history alone: the reason over all its stores, while none is forgotten, and then over those
-- that are left
abbrev pub told_reason : Windows → LoadByte → ℕ → Option Reason
told_reason w l b =
    if has_all w.stores then last_reason w.image w.rest w.stores l b else part_reason (left_stores w.stores) l b

-- the reason is a true one, over the bytes of all stores so far
abbrev pub IsTrueOf : Windows → LoadByte → ℕ → Reason → Type 0
IsTrueOf w l b reason = HasReason w.image w.rest w.stores l b reason

-- where a load may get a byte from, as it is told by the history alone: all sources, while no store is forgotten, and then of the stores
-- that are left those that may give it
abbrev pub kept_sources : StoreLog → LoadByte → ℕ → List Source
kept_sources g l b =
    if g.is_whole then sources g.image.items g.rest (stored_there l.address g.stores.items) l b
    else map Store (givers (stored_there l.address g.stores.items) l b)

abbrev pub told_sources : Windows → LoadByte → ℕ → List Source
told_sources w l b =
    if has_all w.stores then sources w.image w.rest w.stores l b else map Store (givers (left_stores w.stores) l b)

-- the same by the flat law
abbrev pub told_at_request : Windows → LoadByte → ℕ → List Source
told_at_request w l b =
    if has_all w.stores then sources w.image w.rest (at_request l w.stores) l b
    else map Store (givers (at_request l (left_stores w.stores)) l b)

abbrev pub kept_at_request : StoreLog → LoadByte → ℕ → List Source
kept_at_request g l b =
    if g.is_whole then sources g.image.items g.rest (at_request l (stored_there l.address g.stores.items)) l b
    else map Store (givers (at_request l (stored_there l.address g.stores.items)) l b)
