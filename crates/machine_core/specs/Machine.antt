-- The machine: the cache unit and its banks.
use Rattle.std.specs.Prelude.{ℕ, ◌/◌, ◌%◌, Bool, ◌&&◌, List, [], ◌∷◌, map, Option, Some, None, slice_get, slice_set}
use Rattle.std.specs.Option.{option_map}
use Rattle.std.specs.List.{list_all, range_with_len}
use Rattle.machine_core.specs.Words.{Word, Cause, Event, Load, Store, Prefetch, Evict, Drain, Serve, Arrive, Process, Take, Answer, Moved}
use Rattle.machine_core.specs.Words.{Nothing, Refused}
use Rattle.flat_model.specs.Flat.{Flat, word_at}
use Rattle.memory_banks.specs.declared.Command.{Command}
use Rattle.memory_banks.specs.declared.BankAnswer.{BankAnswer}
use Rattle.memory_banks.specs.Memory.{without_answer}
use Rattle.memory_banks.specs.Banks.{Bank, bank_at, words_after, all_pending, served, room_in, all_sent, opening_banks}
use Rattle.cache_law.specs.declared.Sizes.{Sizes}
use Rattle.cache_law.specs.State.{Cache, opening_cache, frame_of, block_of, place_in}
use Rattle.write_queue.specs.Queue.{overlaid}
use Rattle.cache_law.specs.Views.{is_empty, is_clean}
use Rattle.cache_law.specs.Causes.{arrive_cause}
use Rattle.cache_law.specs.Steps.{Stepped, load_step, store_step, prefetch_step, evict_step, drain_step, arrived, process_step, take_step}
use Rattle.cache_law.specs.Forms.{form, owed, filled_by}

-- a cache unit, and the banks of its memory
pub record Machine : Type 0 where
  pub cache : Cache
  pub banks : List Bank

-- a whole machine: its numbers, and its shown state
pub record MachineState : Type 0 where
  pub sizes : Sizes
  pub machine : Machine

-- what an event is answered, and the machine after it
pub record Outcome : Type 0 where
  pub answer : Answer
  pub machine : Machine

-- ---- one event

-- a step of the unit, whose commands go to the banks
abbrev pub joined_with : List Bank → Stepped → Outcome
joined_with banks s = record { answer = s.answer; machine = record { cache = s.cache; banks = all_sent banks s.sent } }

-- bank b serves the first command of its queue
abbrev pub serve_from : Machine → ℕ → List Command → Outcome
serve_from m b [] = record { answer = Nothing; machine = m }
serve_from m b (first ∷ rest) =
    record { answer = Moved; machine = record m { banks = slice_set m.banks b (served (bank_at m.banks b) first rest) } }

-- an answer leaves its bank, unless the unit refuses it
abbrev pub take_in : Sizes → Machine → ℕ → ℕ → BankAnswer → Option Cause → Outcome
take_in z m b place a (Some cause) = record { answer = Refused cause; machine = m }
take_in z m b place a None =
    record {
      answer = Moved;
      machine =
          record {
            cache = arrived m.cache a.slot a.i a.word;
            banks = slice_set m.banks b (without_answer (bank_at m.banks b) place);
          };
    }

-- bank b's answer at a place, where there is one, goes to the unit
abbrev pub arrive_from : Sizes → Machine → ℕ → ℕ → Option BankAnswer → Outcome
arrive_from z m b place None = record { answer = Nothing; machine = m }
arrive_from z m b place (Some a) = take_in z m b place a (arrive_cause z m.cache a.slot a.i)

-- one event
abbrev pub apply : Sizes → Machine → Event → Outcome
apply z m (Load tag at) = joined_with m.banks (load_step z (room_in z.bank_queue m.banks) m.cache tag at)
apply z m (Store at word lanes) = joined_with m.banks (store_step z (room_in z.bank_queue m.banks) m.cache at word lanes)
apply z m (Prefetch at) = joined_with m.banks (prefetch_step z (room_in z.bank_queue m.banks) m.cache at)
apply z m (Evict block) = joined_with m.banks (evict_step z m.cache block)
apply z m Drain = joined_with m.banks (drain_step z (room_in z.bank_queue m.banks) m.cache)
apply z m (Serve bank) = serve_from m bank (bank_at m.banks bank).queue
apply z m (Arrive bank place) = arrive_from z m bank place (slice_get (bank_at m.banks bank).answers place)
apply z m (Process place) = joined_with m.banks (process_step m.cache place)
apply z m (Take place) = joined_with m.banks (take_step m.cache place)

-- ---- walks

-- the machine before its first event
abbrev pub opening : Sizes → List Word → Machine
opening z image = record { cache = opening_cache z; banks = opening_banks image z.banks }

-- the machine after these events
abbrev pub walked : Sizes → Machine → List Event → Machine
walked z m [] = m
walked z m (event ∷ events) = walked z (apply z m event).machine events

-- the answers to these events
abbrev pub told : Sizes → Machine → List Event → List Answer
told z m [] = []
told z m (event ∷ events) = (apply z m event).answer ∷ told z (apply z m event).machine events

-- ---- flat memory

-- the word of memory at an address, once all that waits has been written there
abbrev pub backing : Sizes → Machine → ℕ → Word
backing z m at = overlaid (word_at (words_after (bank_at m.banks (at % z.banks))) (at / z.banks)) m.cache.queue at

-- the word at an address: its form, filled, where its block is present
abbrev pub flat_word_in : Sizes → Machine → ℕ → Option ℕ → Word
flat_word_in z m at None = backing z m at
flat_word_in z m at (Some f) = filled_by (all_pending m.banks) (form m.cache (block_of z at) (place_in z at))

-- the word of flat memory at an address
abbrev pub flat_word : Sizes → Machine → ℕ → Word
flat_word z m at = flat_word_in z m at (frame_of m.cache (block_of z at))

-- the word that a tag is owed, if it is owed one
abbrev pub flat_due : Machine → ℕ → Option Word
flat_due m tag = option_map (filled_by (all_pending m.banks)) (owed m.cache tag)

-- the flat memory that a machine stands for
abbrev pub flat_of : Sizes → Machine → Flat
flat_of z m = record { mem = map (flat_word z m) (range_with_len 0 z.words); due = flat_due m }

-- the word of memory at an address, as it now stands in its bank
abbrev pub bank_word : Sizes → Machine → ℕ → Word
bank_word z m at = word_at (bank_at m.banks (at % z.banks)).words (at / z.banks)

-- ---- settled, and the weight

-- memory has everything, and no register waits
abbrev pub settled : Machine → Bool
settled m = is_clean m.cache && list_all (λ b. is_empty b.queue) m.banks
