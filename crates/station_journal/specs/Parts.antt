-- The parts of a journal: what each port asked, and what it is told.
use Rattle.std.specs.Prelude.{◌≡◌, ℕ, ◌-◌, ◌*◌, ◌/◌, ◌++◌, ◌==◌, ◌&&◌, nat_lt, if◌then◌else◌, Bool, true, false, IsTrue, List, [], ◌∷◌}
use Rattle.std.specs.List.{list_all}
use Rattle.flat_model.specs.declared.Event.{Event}
use Rattle.flat_model.specs.declared.Event.TheVariants as events
use Rattle.flat_model.specs.declared.Answer.{Answer}
use Rattle.flat_model.specs.declared.Answer.TheVariants as answers
use Rattle.station_journal.specs.declared.journal.Source.{Source}
use Rattle.station_journal.specs.declared.journal.Source.TheVariants as sources
use Rattle.station_journal.specs.declared.journal.Entry.{Entry}
use Rattle.station_journal.specs.declared.journal.Entry.TheVariants.{Step, Ended}
use Rattle.station_journal.specs.declared.asks.TheConstants.{PORT_TAGS}
use Rattle.station_journal.specs.declared.asks.Ask.{Ask}
use Rattle.station_journal.specs.declared.asks.Ask.TheVariants.{Load, Store, Prefetch, Evict, Done}
use Rattle.station_journal.specs.declared.asks.Told.{Told}
use Rattle.station_journal.specs.declared.asks.Told.TheVariants.{Accepted, Refused, Value}

-- the ask that an event of port p came from
abbrev pub ask_of : ℕ → Event → List Ask
ask_of p (events.Load tag at) = Load (tag - p * PORT_TAGS) at ∷ []
ask_of p (events.Store at word lanes) = Store at word lanes ∷ []
ask_of p (events.Prefetch at) = Prefetch at ∷ []
ask_of p (events.Evict block) = Evict block ∷ []
ask_of p event = []

-- what port p asked by an entry
abbrev pub asked_by : ℕ → Source → Event → List Ask
asked_by p (sources.Ask port) event = if port == p then ask_of p event else []
asked_by p source event = []

-- what port p asked
abbrev pub asks_of : ℕ → List Entry → List Ask
asks_of p [] = []
asks_of p (Ended port ∷ rest) = (if port == p then Done ∷ [] else []) ++ asks_of p rest
asks_of p (Step source event answer ∷ rest) = asked_by p source event ++ asks_of p rest

-- what an ask's port is told of its answer
abbrev pub verdict : Answer → List Told
verdict answers.Accepted = Accepted ∷ []
verdict (answers.Refused cause) = Refused cause ∷ []
verdict answer = []

-- what port p is told of a value
abbrev pub value_for : ℕ → Answer → List Told
value_for p (answers.Value tag word) = if tag / PORT_TAGS == p then Value (tag - p * PORT_TAGS) word ∷ [] else []
value_for p answer = []

abbrev pub told_by : ℕ → Source → Answer → List Told
told_by p (sources.Ask port) answer = if port == p then verdict answer else []
told_by p (sources.Reply place) answer = value_for p answer
told_by p source answer = []

-- what port p was told
abbrev pub told_of : ℕ → List Entry → List Told
told_of p [] = []
told_of p (Ended port ∷ rest) = told_of p rest
told_of p (Step source event answer ∷ rest) = told_by p source answer ++ told_of p rest

-- an answer to an ask
abbrev pub is_verdict : Answer → Bool
is_verdict answers.Accepted = true
is_verdict (answers.Refused cause) = true
is_verdict answer = false

abbrev pub IsVerdict : Answer → Type 0
IsVerdict answer = IsTrue (is_verdict answer)

-- ---- the sources of events

-- the events that a source makes, in a station with so many ports: an ask is of a port of the
-- station, and a load stands under a tag of its port
abbrev pub is_event_of : ℕ → Source → Event → Bool
is_event_of ports (sources.Ask port) (events.Load tag at) = nat_lt port ports && (tag / PORT_TAGS == port)
is_event_of ports (sources.Ask port) (events.Store at word lanes) = nat_lt port ports
is_event_of ports (sources.Ask port) (events.Prefetch at) = nat_lt port ports
is_event_of ports (sources.Ask port) (events.Evict block) = nat_lt port ports
is_event_of ports (sources.Word bank) (events.Arrive b place) = (b == bank) && (place == 0)
is_event_of ports (sources.Stack place) (events.Process p) = p == place
is_event_of ports sources.Drain events.Drain = true
is_event_of ports (sources.Reply place) (events.Take p) = p == place
is_event_of ports source event = false

abbrev pub is_entry_of : ℕ → Entry → Bool
is_entry_of ports (Ended port) = nat_lt port ports
is_entry_of ports (Step source event answer) = is_event_of ports source event

-- each entry's event is its source's
abbrev pub IsOfPorts : ℕ → List Entry → Type 0
IsOfPorts ports entries = list_all (is_entry_of ports) entries ≡ true
