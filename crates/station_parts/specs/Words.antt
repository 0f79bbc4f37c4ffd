-- What a user says of the parts of a station: the lists of what went over their rings, and what their ends know.
use Rattle.std.specs.Prelude.{ℕ, Bool, List, ◌++◌, drop, Option, length}
use Rattle.std.specs.List.{list_any}
use Rattle.rtrb.specs.Ring.{sent, received, known_free, known_items}
use Rattle.flat_model.specs.declared.Word.{Word}
use Rattle.memory_banks.specs.declared.Command.{Command}
use Rattle.memory_banks.specs.declared.BankAnswer.{BankAnswer}
use Rattle.cache_law.specs.declared.Sizes.{Sizes}
use Rattle.cache_law.specs.State.{Cache}
use Rattle.station_journal.specs.declared.asks.Ask.{Ask}
use Rattle.station_journal.specs.declared.asks.Told.{Told}
use Rattle.station_journal.specs.declared.journal.Entry.{Entry}
use Rattle.station_journal.specs.declared.journal.SideFault.{SideFault}
use Rattle.station_parts.specs.declared.port.Port.{Port}
use Rattle.station_parts.specs.declared.bank.BankSide.{BankSide}
use Rattle.station_parts.specs.declared.raw.RawBank.{RawBank}
use Rattle.station_parts.specs.declared.parts.CacheSide.{CacheSide}
use Rattle.station_parts.specs.Ports.{is_done}
use Rattle.station_parts.specs.Segments.{whole_of}
use Rattle.station_parts.specs.Rows.{sent_at, free_at, popped_at, received_at, pushed_at, room_at, known_at}

-- ---- a port

-- every ask that the port has offered, oldest first
abbrev pub offered : Port → List Ask
offered p = sent p.asks

-- every telling that it has taken
abbrev pub taken : Port → List Told
taken p = received p.tellings

-- what it had offered when it began to ask, or began again behind a renewal; and what it has offered since then
abbrev pub offered_before : Port → List Ask
offered_before p = sent p.begun.value

abbrev pub offered_since : Port → List Ask
offered_since p = drop (length (offered_before p)) (offered p)

-- it has offered Done since then
abbrev pub has_ended : Port → Bool
has_ended p = list_any is_done (offered_since p)

-- for how many more asks it knows a free place
abbrev pub known_places : Port → ℕ
known_places p = known_free p.asks

-- the tellings that it knows of and hasn't taken
abbrev pub known_tellings : Port → List Told
known_tellings p = known_items p.tellings

-- all that it has been told so far: what it took, and then what it knows of
abbrev pub told_in_all : Port → List Told
told_in_all p = taken p ++ known_tellings p

-- ---- a bank

-- every command that the bank has served, oldest first
abbrev pub received_by : BankSide → List Command
received_by b = received b.commands

-- every answer that it has sent
abbrev pub sent_by : BankSide → List BankAnswer
sent_by b = sent b.answers

-- its words
abbrev pub words_of : BankSide → List Word
words_of b = b.words.items

-- the commands that it knows of and hasn't served
abbrev pub known_commands : BankSide → List Command
known_commands b = known_items b.commands

-- every command that has come to it
abbrev pub commanded : BankSide → List Command
commanded b = received_by b ++ known_commands b

-- for how many more answers it knows a free place
abbrev pub answer_places : BankSide → ℕ
answer_places b = known_free b.answers

-- ---- a raw bank, likewise

abbrev pub raw_received : RawBank → List Command
raw_received b = received b.commands

abbrev pub raw_sent : RawBank → List BankAnswer
raw_sent b = sent b.answers

abbrev pub raw_commands : RawBank → List Command
raw_commands b = known_items b.commands

abbrev pub raw_places : RawBank → ℕ
raw_places b = known_free b.answers

-- ---- the cache side

-- the entries that were handed out, oldest first, and those that were noted since
abbrev pub earlier_of : CacheSide → List Entry
earlier_of c = whole_of c.earlier.values

abbrev pub held_of : CacheSide → List Entry
held_of c = c.journal.items

-- all that it has noted of its steps, oldest first
abbrev pub journal_of : CacheSide → List Entry
journal_of c = earlier_of c ++ held_of c

-- how many entries it holds at most
abbrev pub journal_limit : CacheSide → ℕ
journal_limit c = c.limit

-- why it does nothing more, if it is faulted
abbrev pub fault_in : CacheSide → Option SideFault
fault_in c = c.fault

-- the numbers of its shape, and its unit
abbrev pub sizes_in : CacheSide → Sizes
sizes_in c = c.unit.sizes

abbrev pub cache_in : CacheSide → Cache
cache_in c = c.unit.cache

-- how many ports it has
abbrev pub ports_in : CacheSide → ℕ
ports_in c = length c.asks.items

-- the asks of a port that it has taken, and what it has told the port
abbrev pub asked_at : CacheSide → ℕ → List Ask
asked_at c p = received_at c.asks.items p

abbrev pub told_at : CacheSide → ℕ → List Told
told_at c p = pushed_at c.tellings.items p

-- the asks of a port that it knows of, and for how many more tellings it knows a free place
abbrev pub known_asks : CacheSide → ℕ → List Ask
known_asks c p = known_at c.asks.items p

abbrev pub telling_places : CacheSide → ℕ → ℕ
telling_places c p = room_at c.tellings.items p

-- the commands that it has sent to a bank, and the words of the bank that it has taken
abbrev pub commands_at : CacheSide → ℕ → List Command
commands_at c b = sent_at c.row.lines.items b

abbrev pub words_at : CacheSide → ℕ → List BankAnswer
words_at c b = popped_at c.answers.items b

-- for how many more commands to a bank it knows a free place, and the bank's words that it knows of
abbrev pub command_places : CacheSide → ℕ → ℕ
command_places c b = free_at c.row.lines.items b

abbrev pub known_words : CacheSide → ℕ → List BankAnswer
known_words c b = known_at c.answers.items b
