-- What a step did, or why it didn't, in words.
use Rattle.std.specs.Prelude.{ℕ, ◌-◌, ◌*◌, ◌+◌, ◌==◌, nat_lt, Bool, false, ◌&&◌, not, if◌then◌else◌, List, [], ◌++◌, codes, decimal, length}
use Rattle.std.specs.Prelude.{Option, Some, None, slice_get}
use Rattle.std.specs.List.{list_any, filter, find, range_with_len}
use Rattle.machine_core.specs.Words.{Word, Lanes, Cause, OutOfRange, TagInUse, RepliesFull, NoRegister, SetPending, QueueFull, BankFull}
use Rattle.machine_core.specs.Words.{NotPresent, StackFull, Event, Load, Store, Prefetch, Evict, Drain, Serve, Arrive, Process, Take}
use Rattle.machine_core.specs.Words.{Answer, Accepted, Moved, Value, Nothing, Refused, BankAnswer, Entry, Queued, Lookup, Hit, Join, Miss}
use Rattle.machine_core.specs.Words.{Sizes}
use Rattle.flat_model.specs.Causes.{cause_words}
use Rattle.flat_model.specs.Words.{has_any}
use Rattle.machine_core.specs.Banks.{bank_at}
use Rattle.machine_core.specs.Lookups.{lookup}
use Rattle.machine_core.specs.Views.{frame_view, dirty_view, reply_view}
use Rattle.machine_core.specs.Machine.{MachineState}
use Rattle.machine_core.specs.AnyMachine.{answered, after_event}
use Rattle.run_pictures.specs.declared.before.Before.{Before}
use Rattle.machine_core.specs.State.{block_of}
use Rattle.run_pictures.specs.declared.phrase.Phrase.TheVariants.{Given, Sent, Taken, TooMany, Short}
use Rattle.run_pictures.specs.Phrases.{text_of}
use Rattle.run_pictures.specs.Layouts.{frames_in, set_in, set_of_frame, bank_in}
use Rattle.run_pictures.specs.Cells.{is_pending}

-- ---- what is seen of the machine before an event

-- what a request for a word finds
unfoldable pub found_at : MachineState → ℕ → Option Lookup
found_at s at = lookup s.sizes s.machine.cache at

-- what a request finds
abbrev pub found_by : MachineState → Event → Option Lookup
found_by s (Load tag at) = found_at s at
found_by s (Store at word lanes) = found_at s at
found_by s (Prefetch at) = found_at s at
found_by s event = None

-- the answer of a bank that is to arrive
abbrev pub answer_for : MachineState → Event → Option BankAnswer
answer_for s (Arrive bank place) = slice_get (bank_at s.machine.banks bank).answers place
answer_for s event = None

-- the word of the input stack that is to be processed
abbrev pub entry_for : MachineState → Event → Option Entry
entry_for s (Process place) = slice_get s.machine.cache.stack place
entry_for s event = None

unfoldable pub seen : MachineState → Event → Before
seen s event =
    record {
      found = found_by s event;
      front = slice_get s.machine.cache.queue 0;
      answer = answer_for s event;
      entry = entry_for s event;
    }

-- the block that a request or an eviction is about; block 0 for other events
abbrev pub block_about : Sizes → Event → ℕ
block_about z (Load tag at) = block_of z at
block_about z (Store at word lanes) = block_of z at
block_about z (Prefetch at) = block_of z at
block_about z (Evict block) = block
block_about z event = 0

-- ---- what was accepted

abbrev pub hit_words : Event → List ℕ
hit_words (Load tag at) = codes "a hit: the value stands ready"
hit_words (Store at word lanes) = codes "a hit: the frame's word is changed"
hit_words event = codes "the word is in its frame already"

abbrev pub join_words : Event → List ℕ
join_words (Load tag at) = codes "the word is on its way: the load waits for it"
join_words (Store at word lanes) = codes "the word is on its way: the code keeps the stored bytes from it"
join_words event = codes "the word is on its way already"

-- a request of this block, by what it found
abbrev pub request_words : ℕ → Event → Option Lookup → List ℕ
request_words block event (Some Hit) = hit_words event
request_words block event (Some Join) = join_words event
request_words block event (Some Miss) =
    codes "a miss: a register is taken, and block " ++ (decimal block ++ codes "'s words are asked for")
request_words block event None = []

abbrev pub accepted_words : Sizes → Event → Option Lookup → List ℕ
accepted_words z (Evict block) found = codes "the frame of block " ++ (decimal block ++ codes " is given up")
accepted_words z event found = request_words (block_about z event) event found

-- ---- what moved on

-- a word that leaves the write queue
abbrev pub drained_words : Sizes → Option Queued → List ℕ
drained_words z None = []
drained_words z (Some q) = text_of (Sent q.lanes q.at (bank_in z q.at))

abbrev pub served_words : ℕ → List ℕ
served_words bank = codes "bank " ++ (decimal bank ++ codes " serves its first command")

abbrev pub arrived_words : ℕ → Option BankAnswer → List ℕ
arrived_words bank None = []
arrived_words bank (Some a) = text_of (Given bank a.i a.slot)

abbrev pub processed_words : Option Entry → List ℕ
processed_words None = []
processed_words (Some e) =
    codes "word " ++ (decimal e.i ++ (codes " of register " ++ (decimal e.slot ++ codes "'s block has come: its loads are answered")))

abbrev pub moved_words : Sizes → Before → Event → List ℕ
moved_words z before Drain = drained_words z before.front
moved_words z before (Serve bank) = served_words bank
moved_words z before (Arrive bank place) = arrived_words bank before.answer
moved_words z before (Process place) = processed_words before.entry
moved_words z before event = []

-- ---- why there was nothing to do

abbrev pub idle_words : Event → List ℕ
idle_words Drain = codes "the write queue is empty"
idle_words (Serve bank) = codes "no command waits at bank " ++ decimal bank
idle_words (Arrive bank place) = codes "no answer stands at place " ++ (decimal place ++ (codes " of bank " ++ decimal bank))
idle_words (Process place) = codes "no word stands at place " ++ (decimal place ++ codes " of the input stack")
idle_words (Take place) = codes "no value stands ready at place " ++ decimal place
idle_words event = []

-- ---- why it was refused

abbrev pub word_outside : Sizes → ℕ → List ℕ
word_outside z at = codes "word " ++ (decimal at ++ (codes " is outside memory, which has " ++ (decimal z.words ++ codes " words")))

abbrev pub block_outside : (block blocks : ℕ) → List ℕ
block_outside block blocks =
    codes "block " ++ (decimal block ++ (codes " is outside memory, which has " ++ (decimal blocks ++ codes " blocks")))

abbrev pub outside_words : Sizes → Event → List ℕ
outside_words z (Load tag at) = word_outside z at
outside_words z (Store at word lanes) = word_outside z at
outside_words z (Prefetch at) = word_outside z at
outside_words z (Evict block) = block_outside block (block_of z z.words)
outside_words z event = []

abbrev pub has_tag : ℕ → Option Answer → Bool
has_tag tag (Some (Value t word)) = t == tag
has_tag tag reply = false

-- whether the value of a tag stands ready at a place
unfoldable pub is_ready : MachineState → ℕ → ℕ → Bool
is_ready s tag place = has_tag tag (reply_view s.machine.cache place)

-- whether it stands ready anywhere
unfoldable pub has_value : MachineState → ℕ → Bool
has_value s tag = list_any (λ place. is_ready s tag place) (range_with_len 0 (length s.machine.cache.ready))

unfoldable pub tag_words : MachineState → ℕ → List ℕ
tag_words s tag =
    if has_value s tag
    then codes "the value of tag " ++ (decimal tag ++ codes " stands ready, and wasn't taken")
    else codes "a load of tag " ++ (decimal tag ++ codes " waits for its word")

abbrev pub in_use_words : MachineState → Event → List ℕ
in_use_words s (Load tag at) = tag_words s tag
in_use_words s event = []

-- ---- why the write queue has too few places

abbrev pub any_lane : Option Lanes → Bool
any_lane None = false
any_lane (Some lanes) = has_any lanes

-- whether a word of a frame has bytes that memory doesn't have
unfoldable pub is_dirty : MachineState → ℕ → ℕ → Bool
is_dirty s frame i = any_lane (dirty_view s.machine.cache frame i)

-- how many such words a frame has
unfoldable pub dirty_count : MachineState → ℕ → ℕ
dirty_count s frame = length (filter (λ i. is_dirty s frame i) (range_with_len 0 s.sizes.block_words))

-- whether a block of a set has all its words
unfoldable pub is_whole_in : MachineState → ℕ → ℕ → ℕ → Bool
is_whole_in s set frame block = set_of_frame s.sizes frame == set && not (is_pending s block)

abbrev pub held_may_go : MachineState → Event → ℕ → Option ℕ → Bool
held_may_go s event frame None = false
held_may_go s (Evict block) frame (Some held) = held == block
held_may_go s event frame (Some held) =
    let z = s.sizes in
    is_whole_in s (set_in z (block_about z event)) frame held

-- whether a frame may be the one that an event gives up: an eviction that of its block, and a miss one of its set that waits
-- for no word
unfoldable pub may_go : MachineState → Event → ℕ → Bool
may_go s event frame = held_may_go s event frame (frame_view s.machine.cache frame)

-- how many frames may go
unfoldable pub count_that_may_go : MachineState → Event → ℕ
count_that_may_go s event = length (filter (λ frame. may_go s event frame) (range_with_len 0 (frames_in s.sizes)))

-- the first frame that may go
unfoldable pub first_that_may_go : MachineState → Event → Option ℕ
first_that_may_go s event = find (λ frame. may_go s event frame) (range_with_len 0 (frames_in s.sizes))

-- the frame that goes, if no other may: which frame of a set was taken first isn't shown
unfoldable pub victim : MachineState → Event → Option ℕ
victim s event = if count_that_may_go s event == 1 then first_that_may_go s event else None

-- how many places of the write queue are free
unfoldable pub free_places : MachineState → ℕ
free_places s = s.sizes.write_queue - length s.machine.cache.queue

abbrev pub queue_words_for : MachineState → Option ℕ → List ℕ
queue_words_for s None =
    codes "the write queue has " ++ (decimal (free_places s) ++ codes " free places, too few for the victim's dirty words")
queue_words_for s (Some frame) = text_of (TooMany (free_places s) (dirty_count s frame))

abbrev pub queue_words : MachineState → Event → List ℕ
queue_words s event = queue_words_for s (victim s event)

-- ---- why a bank has too little room

-- whether a word of a block lies in a bank
abbrev pub lies_in : Sizes → ℕ → ℕ → ℕ → Bool
lies_in z block bank i = bank_in z (block * z.block_words + i) == bank

-- how many words of a block lie in a bank
unfoldable pub reads_in : Sizes → ℕ → ℕ → ℕ
reads_in z block bank = length (filter (λ i. lies_in z block bank i) (range_with_len 0 z.block_words))

-- how many more commands a bank takes
unfoldable pub room_at : MachineState → ℕ → ℕ
room_at s bank = s.sizes.bank_queue - length (bank_at s.machine.banks bank).queue

-- whether a bank has too little room for the reads of a block
unfoldable pub is_short : MachineState → ℕ → ℕ → Bool
is_short s block bank = nat_lt (room_at s bank) (reads_in s.sizes block bank)

-- the first such bank
unfoldable pub short_bank : MachineState → ℕ → Option ℕ
short_bank s block = find (λ bank. is_short s block bank) (range_with_len 0 s.sizes.banks)

abbrev pub short_words : MachineState → ℕ → Option ℕ → List ℕ
short_words s block None = []
short_words s block (Some bank) = text_of (Short bank (room_at s bank) (reads_in s.sizes block bank))

abbrev pub no_room_words : Sizes → Option Queued → List ℕ
no_room_words z None = []
no_room_words z (Some q) = codes "bank " ++ (decimal (bank_in z q.at) ++ codes " has no room for a command")

abbrev pub bank_words : MachineState → Event → List ℕ
bank_words s Drain = no_room_words s.sizes (slice_get s.machine.cache.queue 0)
bank_words s event =
    let block = block_about s.sizes event in
    short_words s block (short_bank s block)

-- ---- each cause

-- by a machine's numbers alone
abbrev pub limit_words : Sizes → Event → Cause → List ℕ
limit_words z event OutOfRange = outside_words z event
limit_words z event RepliesFull = codes "the limit of outstanding loads is reached: " ++ decimal z.replies
limit_words z event NoRegister = codes "all registers are in use: " ++ decimal z.regs
limit_words z event SetPending =
    codes "every way of set " ++ (decimal (set_in z (block_about z event)) ++ codes " waits for words")
limit_words z event NotPresent = codes "no frame holds block " ++ decimal (block_about z event)
limit_words z event StackFull = codes "the input stack is full: " ++ (decimal z.depth ++ codes " words")
limit_words z event cause = cause_words cause

abbrev pub refused_words : MachineState → Event → Cause → List ℕ
refused_words s event TagInUse = in_use_words s event
refused_words s event QueueFull = queue_words s event
refused_words s event BankFull = bank_words s event
refused_words s event cause = limit_words s.sizes event cause

-- ---- all words

-- by what is seen before the event, and the machine behind it, which a refusal leaves as it was
abbrev pub words_by : Before → MachineState → Event → Answer → List ℕ
words_by before s event Accepted = accepted_words s.sizes event before.found
words_by before s event Moved = moved_words s.sizes before event
words_by before s event (Value tag word) = text_of (Taken tag word)
words_by before s event Nothing = idle_words event
words_by before s event (Refused cause) = refused_words s event cause

-- what an event did to a machine of this state, or why it didn't
unfoldable pub step_words : MachineState → Event → List ℕ
step_words s event = words_by (seen s event) (after_event s event) event (answered s event)
