-- Worked journals and conversations, each checked by computing.
use Rattle.std.specs.Prelude.{◌≡◌, ℕ, zero, List, [], ◌∷◌, ◌++◌, refl}
use Rattle.flat_model.specs.declared.Word.{Word}
use Rattle.flat_model.specs.declared.Cause.TheVariants.{BankFull, NotPresent}
use Rattle.flat_model.specs.declared.Event.{Event}
use Rattle.flat_model.specs.declared.Event.TheVariants.{Load, Store, Evict, Drain, Arrive, Process, Take}
use Rattle.flat_model.specs.declared.Answer.{Answer}
use Rattle.flat_model.specs.declared.Answer.TheVariants.{Accepted, Moved, Value, Refused}
use Rattle.flat_model.specs.Words.{has, joined, merged}
use Rattle.input_stack.specs.Stack.{stack_word}
use Rattle.cache_directory.specs.Frames as dir
use Rattle.miss_registers.specs.Registers as regs
use Rattle.cache_law.specs.declared.Sizes.{Sizes}
use Rattle.cache_law.specs.State.{targets}
use Rattle.cache_law.specs.Causes.{choose, load_cause, store_cause, prefetch_cause, evict_cause, arrive_cause}
use Rattle.cache_law.specs.Steps.{released, evicted, installed, fetched, fetches, load_step, store_step, prefetch_step, evict_step}
use Rattle.cache_law.specs.Steps.{filled_live, drain_step, arrive_step, arrived, processed, process_step, take_step}
use Rattle.station_journal.specs.declared.journal.Source.TheVariants as sources
use Rattle.station_journal.specs.declared.journal.Entry.{Entry}
use Rattle.station_journal.specs.declared.journal.Entry.TheVariants.{Step, Ended}
use Rattle.station_journal.specs.declared.asks.Ask.{Ask}
use Rattle.station_journal.specs.declared.asks.Ask.TheVariants as asks
use Rattle.station_journal.specs.declared.asks.Told.TheVariants as told
use Rattle.station_journal.specs.Journal.{IsBankTrue}
use Rattle.station_journal.specs.Parts.{asks_of, told_of, IsOfPorts}
use Rattle.station_journal.specs.Conversation.{Converses}

-- the shape of most examples
abbrev pub shape_S : Sizes
shape_S =
    record { ways = 1; block_words = 4; regs = 2; depth = 2; words = 32; sets = 2; banks = 2; bank_queue = 4; write_queue = 4; replies = 4 }

-- a word by its bytes
abbrev pub word : ℕ → ℕ → ℕ → ℕ → Word
word a b c d = record { b0 = a; b1 = b; b2 = c; b3 = d }

abbrev pub zeros : Word
zeros = word 0 0 0 0

-- what a port asks
abbrev pub asked : ℕ → Event → Answer → List Entry
asked port event answer = Step (sources.Ask port) event answer ∷ []

-- a word of a bank comes, and is processed
abbrev pub comes : ℕ → List Entry
comes bank =
    Step (sources.Word bank) (Arrive bank 0) Moved ∷ Step (sources.Stack 0) (Process 0) Moved ∷ []

-- a block's four words come
abbrev block_comes : List Entry
block_comes = comes 0 ++ comes 0 ++ comes 1 ++ comes 1

-- the first ready value is told
abbrev replied : ℕ → Word → List Entry
replied tag value = Step (sources.Reply 0) (Take 0) (Value tag value) ∷ []

-- what the examples compute with
unfoldable pub all_steps : ℕ
unfolding has joined merged stack_word dir.frame_of dir.settled dir.released regs.live_for regs.free_slot
    regs.made_obsolete regs.marked regs.finished targets dir.written dir.filled filled_live regs.awaited regs.noted
    choose load_cause store_cause
    prefetch_cause evict_cause arrive_cause released evicted installed fetched fetches load_step store_step prefetch_step evict_step
    drain_step arrive_step arrived processed process_step take_step
all_steps = zero

-- an entry's event may stand, and its answer is the step's
both : {A B : Type 0} {x : A} {y : B} → (x ≡ x) × (y ≡ y)
both = (refl, refl)

-- ---- a load and its value, as a station by hand makes them

abbrev pub by_hand : Word → List Entry
by_hand value = asked 0 (Load 1 5) Accepted ++ block_comes ++ replied 1 value ++ Ended 0 ∷ []

-- memory begins with zeros
by_hand-true : IsBankTrue shape_S (by_hand zeros)
unfolding all_steps
by_hand-true = (both, (both, (both, (both, (both, (both, (both, (both, (both, (both, tt))))))))))

-- what its port asked and was told, and that the entries are of their sources
by_hand-asks : asks_of 0 (by_hand zeros) ≡ asks.Load 1 5 ∷ asks.Done ∷ []
by_hand-asks = refl

by_hand-told : told_of 0 (by_hand zeros) ≡ told.Accepted ∷ told.Value 1 zeros ∷ []
by_hand-told = refl

by_hand-sources : IsOfPorts 1 (by_hand zeros)
by_hand-sources = refl

-- another port has neither
by_hand-other : (asks_of 1 (by_hand zeros) ≡ []) × (told_of 1 (by_hand zeros) ≡ [])
by_hand-other = (refl, refl)

-- ---- a word is stored, goes to its bank, and is read back by another port

-- eight words in one bank, and a cache of one word
abbrev pub smallest : Sizes
smallest =
    record { ways = 1; block_words = 1; regs = 1; depth = 1; words = 8; sets = 1; banks = 1; bank_queue = 1; write_queue = 1; replies = 2 }

abbrev pub written : Word
written = word 238 221 204 187

abbrev pub read_back : Word → List Entry
read_back value =
    asked 0 (Store 5 written (record { 0 = 15 })) Accepted
    ++ comes 0
    ++ asked 0 (Evict 5) Accepted
    ++ Step sources.Drain Drain Moved
    ∷ asked 1 (Load 257 5) Accepted
    ++ comes 0
    ++ replied 257 value

read_back-true : IsBankTrue smallest (read_back written)
unfolding all_steps
read_back-true = (both, (both, (both, (both, (both, (both, (both, (both, (both, tt)))))))))

-- ---- refusals for want of room

-- a miss may be refused so, whatever the banks have answered
refused_miss : IsBankTrue shape_S (asked 0 (Load 1 5) (Refused BankFull))
unfolding all_steps
refused_miss = (refl, tt)

-- ---- conversations

abbrev pub script : List Ask
script = asks.Load 1 5 ∷ asks.Evict 7 ∷ []

-- a load is refused for want of room, offered again and answered; an eviction of an absent block isn't offered again
offered_again : Converses script (asks.Load 1 5 ∷ asks.Load 1 5 ∷ asks.Evict 7 ∷ asks.Done ∷ [])
    (told.Refused BankFull ∷ told.Accepted ∷ told.Refused NotPresent ∷ told.Value 1 zeros ∷ [])
offered_again =
    record {
      asked = asks.Load 1 5 ∷ asks.Load 1 5 ∷ asks.Evict 7 ∷ [];
      offered_is = refl;
      follows = (refl, (refl, (refl, refl)));
      answered = refl;
    }
