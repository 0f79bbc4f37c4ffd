-- The journal of the cache side: what it says of the unit, and when it is true of the banks.
use Rattle.std.specs.Prelude.{◌≡◌, ℕ, ◌+◌, Bool, true, false, ◌&&◌, not, if◌then◌else◌, ◌==◌, nat_lt, IsTrue, List, [], ◌∷◌, ◌++◌}
use Rattle.std.specs.Prelude.{replicate, Option, None, Some, is_none, is_some, slice_get}
use Rattle.std.specs.List.{count_by}
use Rattle.flat_model.specs.declared.Word.{Word}
use Rattle.flat_model.specs.declared.Cause.TheVariants.{BankFull}
use Rattle.flat_model.specs.declared.Event.{Event}
use Rattle.flat_model.specs.declared.Event.TheVariants.{Load, Store, Prefetch, Evict, Drain, Serve, Arrive, Process, Take}
use Rattle.flat_model.specs.declared.Answer.{Answer}
use Rattle.flat_model.specs.declared.Answer.TheVariants.{Moved, Nothing, Refused}
use Rattle.flat_model.specs.Words.{zero_word}
use Rattle.memory_banks.specs.declared.Command.{Command}
use Rattle.memory_banks.specs.declared.BankAnswer.{BankAnswer}
use Rattle.memory_banks.specs.Banks.{answers_to, share_of, commands_for}
use Rattle.memory_banks.specs.Memory.{is_read}
use Rattle.cache_law.specs.declared.Request.{Request}
use Rattle.cache_law.specs.declared.Request.TheVariants as requests
use Rattle.cache_law.specs.declared.Sizes.{Sizes}
use Rattle.cache_law.specs.State.{Cache, opening_cache, is_present, block_of}
use Rattle.cache_law.specs.Views.{is_empty}
use Rattle.cache_law.specs.Causes.{load_cause, store_cause, prefetch_cause}
use Rattle.cache_law.specs.Steps.{Stepped, load_step, store_step, prefetch_step, evict_step, drain_step, arrive_step, process_step}
use Rattle.cache_law.specs.Steps.{take_step}
use Rattle.station_journal.specs.declared.journal.Entry.{Entry}
use Rattle.station_journal.specs.declared.journal.Entry.TheVariants.{Step, Ended}

-- how the cache side stands: its unit, the commands that it has sent to each bank, and how many
-- words of each bank have arrived
pub record Stand : Type 0 where
  pub cache : Cache
  pub sent : ℕ → List Command
  pub arrived : ℕ → ℕ

abbrev pub opening_stand : Sizes → Stand
opening_stand z = record { cache = opening_cache z; sent = λ b. []; arrived = λ b. 0 }

-- which word a bank's next arrival brings, by how many of its words have arrived and the commands
-- that it has been sent
abbrev pub Brings : Type 0
Brings = ℕ → ℕ → List Command → Option BankAnswer

-- ---- one step

-- room that is enough for any request: no bank has more words of a block than the block
abbrev pub ample : Sizes → ℕ → ℕ
ample z b = z.block_words

-- a word that a bank's arrival brings, where it brings one
abbrev pub brought : Sizes → Cache → Option BankAnswer → Stepped
brought z c None = record { answer = Nothing; cache = c; sent = [] }
brought z c (Some a) = arrive_step z c a.slot a.i a.word

-- the word that an arrival takes: it takes the first one of a bank that is there
abbrev pub next_word : Sizes → Brings → Stand → ℕ → ℕ → Option BankAnswer
next_word z brings s bank place =
    if nat_lt bank z.banks && (place == 0) then brings bank (s.arrived bank) (s.sent bank) else None

-- what an event makes of the unit where no bank lacks room
abbrev pub step : Sizes → Brings → Stand → Event → Stepped
step z brings s (Load tag at) = load_step z (ample z) s.cache tag at
step z brings s (Store at word lanes) = store_step z (ample z) s.cache at word lanes
step z brings s (Prefetch at) = prefetch_step z (ample z) s.cache at
step z brings s (Evict block) = evict_step z s.cache block
step z brings s Drain = drain_step z (ample z) s.cache
step z brings s (Serve bank) = record { answer = Nothing; cache = s.cache; sent = [] }
step z brings s (Arrive bank place) = brought z s.cache (next_word z brings s bank place)
step z brings s (Process place) = process_step s.cache place
step z brings s (Take place) = take_step s.cache place

-- one more word of a bank, where the arrival was answered so
abbrev pub arrived_after : (ℕ → ℕ) → Event → Answer → ℕ → ℕ
arrived_after arrived (Arrive bank place) Moved b = if b == bank then arrived b + 1 else arrived b
arrived_after arrived event answer b = arrived b

abbrev pub moved_on : Stand → Event → Stepped → Stand
moved_on s event d =
    record {
      cache = d.cache;
      sent = λ b. s.sent b ++ commands_for b d.sent;
      arrived = arrived_after s.arrived event d.answer;
    }

-- ---- refusals for want of room

-- cause 10, which the rooms decide that were known at the step
abbrev pub is_full : Answer → Bool
is_full (Refused BankFull) = true
is_full answer = false

-- cause 10 is asked for this event, and no other cause holds
abbrev pub may_be_full : Sizes → Cache → Event → Bool
may_be_full z c (Load tag at) = not (is_present c (block_of z at)) && is_none (load_cause z (ample z) c tag at)
may_be_full z c (Store at word lanes) = not (is_present c (block_of z at)) && is_none (store_cause z (ample z) c at lanes)
may_be_full z c (Prefetch at) = not (is_present c (block_of z at)) && is_none (prefetch_cause z (ample z) c at)
may_be_full z c Drain = not (is_empty c.queue)
may_be_full z c event = false

-- ---- a journal

-- the event that a request is
abbrev pub event_of : Request → Event
event_of (requests.Load tag at) = Load tag at
event_of (requests.Store at word lanes) = Store at word lanes
event_of (requests.Prefetch at) = Prefetch at

-- the events of a journal: no bank's turn is one, and an arrival brings a word
abbrev pub may_stand : Sizes → Brings → Stand → Event → Bool
may_stand z brings s (Serve bank) = false
may_stand z brings s (Arrive bank place) = is_some (next_word z brings s bank place)
may_stand z brings s event = true

-- a recorded answer is the step's, or a refusal for want of room that may be
abbrev pub Fits : Sizes → Brings → Stand → Event → Answer → Bool → Type 0
Fits z brings s event answer true = IsTrue (may_be_full z s.cache event)
Fits z brings s event answer false = IsTrue (may_stand z brings s event) × (answer ≡ (step z brings s event).answer)

abbrev pub after_entry : Sizes → Brings → Stand → Event → Bool → Stand
after_entry z brings s event true = s
after_entry z brings s event false = moved_on s event (step z brings s event)

-- how the side stands after these entries
abbrev pub stand_after : Sizes → Brings → Stand → List Entry → Stand
stand_after z brings s [] = s
stand_after z brings s (Ended port ∷ rest) = stand_after z brings s rest
stand_after z brings s (Step source event answer ∷ rest) =
    stand_after z brings (after_entry z brings s event (is_full answer)) rest

-- each entry fits where the ones before it lead
abbrev pub AllFit : Sizes → Brings → Stand → List Entry → Type 0
AllFit z brings s [] = Unit {0}
AllFit z brings s (Ended port ∷ rest) = AllFit z brings s rest
AllFit z brings s (Step source event answer ∷ rest) =
    Fits z brings s event answer (is_full answer) × AllFit z brings (after_entry z brings s event (is_full answer)) rest

-- the entries lead from one stand to another
abbrev pub Walks : Sizes → Brings → Stand → List Entry → Stand → Type 0
Walks z brings s [] e = s ≡ e
Walks z brings s (Ended port ∷ rest) e = Walks z brings s rest e
Walks z brings s (Step source event answer ∷ rest) e =
    Fits z brings s event answer (is_full answer) × Walks z brings (after_entry z brings s event (is_full answer)) rest e

-- memory at the beginning, and what of it lies in a bank
abbrev pub zeros : Sizes → List Word
zeros z = replicate z.words zero_word

abbrev pub zeros_in : Sizes → ℕ → List Word
zeros_in z bank = share_of (zeros z) z.banks bank

-- the k-th arrival of a bank brings the k-th word that has come from it, where as many reads have
-- been sent to the bank
abbrev pub come_word : (ℕ → List BankAnswer) → Brings
come_word come bank k commands = if nat_lt k (count_by is_read commands) then slice_get (come bank) k else None

-- the k-th arrival of a bank brings the k-th of the answers to what it has been sent
abbrev pub true_word : Sizes → Brings
true_word z bank k commands = slice_get (answers_to (zeros_in z bank) commands) k

-- the journal is true of the banks
abbrev pub IsBankTrue : Sizes → List Entry → Type 0
IsBankTrue z entries = AllFit z (true_word z) (opening_stand z) entries

-- how the side stands after it
abbrev pub true_stand : Sizes → List Entry → Stand
true_stand z entries = stand_after z (true_word z) (opening_stand z) entries

-- its events and their answers

abbrev pub events_of : List Entry → List Event
events_of [] = []
events_of (Ended port ∷ rest) = events_of rest
events_of (Step source event answer ∷ rest) = event ∷ events_of rest

abbrev pub answers_of : List Entry → List Answer
answers_of [] = []
answers_of (Ended port ∷ rest) = answers_of rest
answers_of (Step source event answer ∷ rest) = answer ∷ answers_of rest
