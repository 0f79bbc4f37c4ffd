-- What a step of the cache side makes.
use Rattle.std.specs.Prelude.{◌≡◌, ℕ, ◌+◌, ◌%◌, ◌/◌, Bool, true, false, ◌&&◌, not, if◌then◌else◌, nat_lt, nat_le, List, [], ◌∷◌, ◌++◌}
use Rattle.std.specs.Prelude.{◌≢◌, length, Option, Some, None, is_some, slice_get, IfSome, IfNone, IsTrue}
use Rattle.std.specs.List.{count_by}
use Rattle.flat_model.specs.declared.Cause.{Cause}
use Rattle.flat_model.specs.declared.Cause.TheVariants.{StrayWord}
use Rattle.flat_model.specs.declared.Event.{Event}
use Rattle.flat_model.specs.declared.Event.TheVariants as events
use Rattle.flat_model.specs.declared.Answer.{Answer}
use Rattle.memory_banks.specs.declared.Command.{Command}
use Rattle.memory_banks.specs.declared.BankAnswer.{BankAnswer}
use Rattle.memory_banks.specs.Banks.{commands_for}
use Rattle.memory_banks.specs.Memory.{is_read}
use Rattle.write_queue.specs.declared.Queued.{Queued}
use Rattle.cache_law.specs.declared.Reply.{Reply}
use Rattle.cache_law.specs.declared.Request.TheVariants as requests
use Rattle.cache_law.specs.declared.Sizes.{Sizes}
use Rattle.cache_law.specs.State.{Cache}
use Rattle.cache_law.specs.Views.{is_empty}
use Rattle.cache_law.specs.Causes.{arrive_cause}
use Rattle.cache_law.specs.Steps as unit
use Rattle.cache_law.specs.FormLaws.{RequestForms, EvictForms, ArriveForms, SameForms, TakenForms}
use Rattle.station_journal.specs.declared.asks.Ask.{Ask}
use Rattle.station_journal.specs.declared.asks.Ask.TheVariants.{Done}
use Rattle.station_journal.specs.declared.journal.Source.{Source}
use Rattle.station_journal.specs.declared.journal.Source.TheVariants as sources
use Rattle.station_journal.specs.declared.journal.Entry.{Entry}
use Rattle.station_journal.specs.declared.journal.Entry.TheVariants.{Step, Ended}
use Rattle.station_journal.specs.declared.journal.SideFault.{SideFault}
use Rattle.station_journal.specs.declared.journal.SideFault.TheVariants.{Uncalled, Stray}
use Rattle.station_journal.specs.Parts.{asks_of, told_of}
use Rattle.station_journal.specs.declared.asks.TheConstants.{PORT_TAGS}
use Rattle.station_parts.specs.declared.parts.CacheSide.{CacheSide}
use Rattle.station_parts.specs.declared.parts.Stepped.{Stepped}
use Rattle.station_parts.specs.declared.parts.Stepped.TheVariants.{Did, Idle, JournalFull, Faulted}
use Rattle.station_parts.specs.Ids.{cache_id}
use Rattle.station_parts.specs.Rows.{only}
use Rattle.station_parts.specs.Asking.{event_for, asked_step}
use Rattle.station_parts.specs.SideState.{Known, KnowsMore, SideState, state_of}

-- ---- whether there is work

-- the front of the write queue has a free place at its bank
abbrev pub can_drain : Sizes → (ℕ → ℕ) → List Queued → Bool
can_drain z places [] = false
can_drain z places (front ∷ rest) = nat_lt 0 (places (front.at % z.banks))

-- the port of the reply's tag has a free place for its value
abbrev pub can_tell : (ℕ → ℕ) → Option Reply → Bool
can_tell places None = false
can_tell places (Some reply) = nat_lt 0 (places (reply.tag / PORT_TAGS))

-- an item of the source is known
abbrev pub has_item : Source → SideState → Bool
has_item (sources.Ask port) s = nat_lt 0 (length (s.known.asks port))
has_item (sources.Word bank) s = nat_lt 0 (length (s.known.words bank))
has_item (sources.Stack place) s = nat_lt place (length s.cache.stack)
has_item sources.Drain s = nat_lt 0 (length s.cache.queue)
has_item (sources.Reply place) s = nat_lt place (length s.cache.ready)

-- the source has an item, and there is room for what it makes, as far as this is known
abbrev pub has_work : Source → SideState → Known → Bool
has_work (sources.Ask port) s k = nat_lt 0 (k.telling_places port) && not (is_empty (k.asks port))
has_work (sources.Word bank) s k = nat_lt (length s.cache.stack) s.sizes.depth && not (is_empty (k.words bank))
has_work (sources.Stack place) s k = nat_lt place (length s.cache.stack)
has_work sources.Drain s k = can_drain s.sizes k.command_places s.cache.queue
has_work (sources.Reply place) s k = can_tell k.telling_places (slice_get s.cache.ready place)

-- ---- what comes of it

-- new entries, the unit and the fault after it, the commands sent, each with its bank, and the words popped, by bank.
-- The entries tell what was popped of the ports' asks, and what the ports are told
pub record Effect : Type 0 where
  pub entries : List Entry
  pub cache : Cache
  pub fault : Option SideFault
  pub sent : List (ℕ × Command)
  pub words : ℕ → List BankAnswer

abbrev pub no_words : ℕ → List BankAnswer
no_words b = []

abbrev pub nothing : SideState → Effect
nothing s = record { entries = []; cache = s.cache; fault = s.fault; sent = []; words = no_words }

-- a step of the unit is noted
abbrev pub noted : SideState → Source → Event → unit.Stepped → (ℕ → List BankAnswer) → Effect
noted s source event d words =
    record { entries = Step source event d.answer ∷ []; cache = d.cache; fault = s.fault; sent = d.sent; words = words }

-- the first of a port's asks: Done is noted alone
abbrev pub asked : SideState → Known → ℕ → List Ask → Effect
asked s k port [] = nothing s
asked s k port (Done ∷ rest) = record (nothing s) { entries = Ended port ∷ [] }
asked s k port (ask ∷ rest) =
    noted s (sources.Ask port) (event_for port ask) (asked_step s.sizes k.command_places port s.cache ask) no_words

-- the fault that a word is which no register waits for
abbrev pub stray_fault : ℕ → BankAnswer → Option Cause → Option SideFault
stray_fault bank a (Some StrayWord) = Some (Stray bank a.slot a.i)
stray_fault bank a cause = None

-- and the one that it is if it goes beyond the reads sent to its bank, which is decided first
abbrev pub word_fault : SideState → ℕ → BankAnswer → Option SideFault
word_fault s bank a =
    if nat_lt (length (s.words bank)) (count_by is_read (s.commands bank))
    then stray_fault bank a (arrive_cause s.sizes s.cache a.slot a.i)
    else Some (Uncalled bank)

-- a word that is a fault is lost, and no other arrives
abbrev pub arrives : SideState → ℕ → BankAnswer → Option SideFault → Effect
arrives s bank a (Some fault) = record (nothing s) { fault = Some fault; words = only bank (a ∷ []) }
arrives s bank a None =
    noted s (sources.Word bank) (events.Arrive bank 0) (unit.arrive_step s.sizes s.cache a.slot a.i a.word) (only bank (a ∷ []))

-- the first of a bank's words
abbrev pub brought : SideState → ℕ → List BankAnswer → Effect
brought s bank [] = nothing s
brought s bank (a ∷ rest) = arrives s bank a (word_fault s bank a)

-- what a step makes of the source's first item, or of the one at its place
abbrev pub work_of : Source → SideState → Known → Effect
work_of (sources.Ask port) s k = asked s k port (k.asks port)
work_of (sources.Word bank) s k = brought s bank (k.words bank)
work_of (sources.Stack place) s k = noted s (sources.Stack place) (events.Process place) (unit.process_step s.cache place) no_words
work_of sources.Drain s k = noted s sources.Drain events.Drain (unit.drain_step s.sizes k.command_places s.cache) no_words
work_of (sources.Reply place) s k = noted s (sources.Reply place) (events.Take place) (unit.take_step s.cache place) no_words

abbrev pub effect_of : Source → SideState → Known → Effect
effect_of source s k = if has_work source s k then work_of source s k else nothing s

abbrev pub answer_of : Bool → Option SideFault → Stepped
answer_of false fault = Idle
answer_of true None = Did
answer_of true (Some fault) = Faulted

-- ---- a step

-- a faulted side, and one whose journal is full, do nothing
abbrev pub refusal_of : SideState → Option Stepped
refusal_of s = if is_some s.fault then Some Faulted else if nat_le s.limit (length s.held) then Some JournalFull else None

-- an effect on a side that knew this once it had looked. What it knows becomes less by its own pops and pushes only
pub record Makes (e : Effect) (old : SideState) (looked : Known) (new : SideState) : Type 0 where
  pub earlier : new.earlier ≡ old.earlier
  pub held : new.held ≡ old.held ++ e.entries
  pub cache : new.cache ≡ e.cache
  pub fault : new.fault ≡ e.fault
  pub asked : (p : ℕ) → new.asked p ≡ old.asked p ++ asks_of p e.entries
  pub told : (p : ℕ) → new.told p ≡ old.told p ++ told_of p e.entries
  pub commands : (b : ℕ) → new.commands b ≡ old.commands b ++ commands_for b e.sent
  pub words : (b : ℕ) → new.words b ≡ old.words b ++ e.words b
  pub known_asks : (p : ℕ) → looked.asks p ≡ asks_of p e.entries ++ new.known.asks p
  pub known_words : (b : ℕ) → looked.words b ≡ e.words b ++ new.known.words b
  pub telling_places : (p : ℕ) → looked.telling_places p ≡ new.known.telling_places p + length (told_of p e.entries)
  pub command_places : (b : ℕ) → looked.command_places b ≡ new.known.command_places b + length (commands_for b e.sent)

-- what an event makes of the forms of the unit's words, and of what it owes, whatever words arrive
abbrev pub EventForms : Sizes → Cache → Event → List BankAnswer → Answer → Cache → Type 0
EventForms z c (events.Load tag at) words answer d = RequestForms z c (requests.Load tag at) answer d
EventForms z c (events.Store at word lanes) words answer d = RequestForms z c (requests.Store at word lanes) answer d
EventForms z c (events.Prefetch at) words answer d = RequestForms z c (requests.Prefetch at) answer d
EventForms z c (events.Evict block) words answer d = EvictForms z c block answer d
EventForms z c events.Drain words answer d = SameForms z c answer d
EventForms z c (events.Serve bank) words answer d = Unit {0}
EventForms z c (events.Arrive bank place) [] answer d = Unit {0}
EventForms z c (events.Arrive bank place) (a ∷ rest) answer d = ArriveForms z c a.slot a.i a.word answer d
EventForms z c (events.Process place) words answer d = SameForms z c answer d
EventForms z c (events.Take place) words answer d = TakenForms z c answer d

-- the words of the bank that a source is
abbrev pub words_from : Source → (ℕ → List BankAnswer) → List BankAnswer
words_from (sources.Word bank) words = words bank
words_from source words = []

abbrev pub EntriesForms : Sizes → Cache → List Entry → Effect → Type 0
EntriesForms z c [] e = Unit {0}
EntriesForms z c (Ended port ∷ rest) e = EntriesForms z c rest e
EntriesForms z c (Step source event answer ∷ rest) e =
    EventForms z c event (words_from source e.words) answer e.cache × EntriesForms z c rest e

-- a step looks at the far ends of its rings, and makes what its source's work makes of what it then knows
pub record StepMakes (source : Source) (old new : SideState) (result : Stepped) : Type 0 where
  pub looked : Known
  pub looks : KnowsMore old.known looked
  pub answer : result ≡ answer_of (has_work source old looked) (effect_of source old looked).fault
  pub makes : Makes (effect_of source old looked) old looked new
  pub forms : EntriesForms old.sizes old.cache (effect_of source old looked).entries (effect_of source old looked)

-- one step of the cache side: it is refused, and then the side stays as it is, or makes what its source's work makes. It isn't idle if
-- there was work before it looked
pub record SideSteps (source : Source) (old new : CacheSide) (result : Stepped) : Type 0 where
  pub refused : IfSome (refusal_of (state_of old)) (λ refusal. (result ≡ refusal) × (new ≡ old))
  pub makes : IfNone (refusal_of (state_of old)) (StepMakes source (state_of old) (state_of new) result)
  pub busy : IsTrue (has_work source (state_of old) (state_of old).known) → result ≢ Idle
  pub same : cache_id new ≡ cache_id old
