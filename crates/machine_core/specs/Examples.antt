-- Worked examples, each checked by computing.
use Rattle.std.specs.Prelude.{◌≡◌, ℕ, ◌+◌, ◌-◌, ◌*◌, zero, false, IsTrue, List, [], ◌∷◌, ◌++◌, map, slice_set}
use Rattle.std.proofs.Common.{refl}
use Rattle.std.specs.List.{range_with_len}
use Rattle.machine_core.specs.Words.{Word, Lanes, OutOfRange, NoLanes, TagInUse, RepliesFull, TargetsFull, NoRegister, SetPending}
use Rattle.machine_core.specs.Words.{QueueFull}
use Rattle.machine_core.specs.Words.{BankFull, NotPresent, StackFull, Event, Load, Store, Prefetch, Evict, Drain, Serve, Arrive, Process}
use Rattle.machine_core.specs.Words.{Take}
use Rattle.machine_core.specs.Words.{Answer, Accepted, Moved, Value, Nothing, Refused}
use Rattle.flat_model.specs.Words.{has, joined, merged}
use Rattle.input_stack.specs.Stack.{stack_word}
use Rattle.memory_banks.specs.Banks.{with_command, served}
use Rattle.miss_registers.specs.declared.TheConstants.{MAX_WAITING}
use Rattle.miss_registers.specs.Registers as regs
use Rattle.cache_law.specs.declared.Sizes.{Sizes}
use Rattle.cache_law.specs.Frames as dir
use Rattle.miss_registers.specs.Registers.{made_obsolete, marked, finished}
use Rattle.cache_law.specs.State.{targets}
use Rattle.cache_law.specs.Causes.{choose, load_cause, store_cause, prefetch_cause, evict_cause, arrive_cause}
use Rattle.cache_law.specs.Steps.{released, evicted, installed, fetched, fetches, load_step, store_step, prefetch_step, evict_step}
use Rattle.cache_law.specs.Steps.{filled_live, drain_step, arrived, processed, process_step, take_step}
use Rattle.machine_core.specs.Machine.{Machine, opening, walked, told, bank_word, settled}
use Rattle.machine_core.specs.Pump.{weight, weights}

-- the shape of most examples
abbrev shape_S : Sizes
shape_S =
    record {
      ways = 1;
      block_words = 4;
      regs = 2;
      depth = 2;
      words = 32;
      sets = 2;
      banks = 2;
      bank_queue = 4;
      write_queue = 4;
      replies = 4;
    }

-- the smallest machine, over eight words
abbrev smallest : Sizes
smallest =
    record {
      ways = 1;
      block_words = 1;
      regs = 1;
      depth = 1;
      words = 8;
      sets = 1;
      banks = 1;
      bank_queue = 1;
      write_queue = 1;
      replies = 2;
    }

-- a word by its bytes
abbrev word : ℕ → ℕ → ℕ → ℕ → Word
word a b c d = record { b0 = a; b1 = b; b2 = c; b3 = d }

-- lanes by their bits, lane 0 the lowest
abbrev lanes : ℕ → Lanes
lanes n = record { 0 = n }

-- word a is the byte a and three zero bytes
abbrev image : Sizes → List Word
image z = map (λ a. word a 0 0 0) (range_with_len 0 z.words)

-- the machine before its first event
abbrev start : Sizes → Machine
start z = opening z (image z)

-- the machine after these events
abbrev after : Sizes → List (Event × Answer) → Machine
after z steps = walked z (start z) (map (λ s. s.0) steps)

-- each event gets the answer beside it
abbrev Gives : Sizes → List (Event × Answer) → Type 0
Gives z steps = told z (start z) (map (λ s. s.0) steps) ≡ map (λ s. s.1) steps

-- all words, as they stand in their banks
abbrev bank_words : Sizes → Machine → List Word
bank_words z m = map (bank_word z m) (range_with_len 0 z.words)

-- a block is fetched, and all its words come
abbrev block_fetched : ℕ → List (Event × Answer)
block_fetched block =
    (Prefetch (block * 4), Accepted) ∷ (Serve 0, Moved) ∷ (Serve 0, Moved) ∷ (Serve 1, Moved)
    ∷ (Serve 1, Moved) ∷ (Arrive 0 0, Moved) ∷ (Process 0, Moved) ∷ (Arrive 0 0, Moved) ∷ (Process 0, Moved)
    ∷ (Arrive 1 0, Moved) ∷ (Process 0, Moved) ∷ (Arrive 1 0, Moved) ∷ (Process 0, Moved) ∷ []

-- bank 1's first command is served, and its first answer comes
abbrev word_brought : List (Event × Answer)
word_brought = (Serve 1, Moved) ∷ (Arrive 1 0, Moved) ∷ (Process 0, Moved) ∷ []

-- what the examples compute with
all_steps : ℕ
unfolding has joined merged stack_word dir.settled dir.released made_obsolete marked finished with_command
    served dir.frame_of regs.live_for regs.free_slot targets
    dir.written dir.filled filled_live regs.awaited regs.noted choose load_cause store_cause prefetch_cause evict_cause arrive_cause
    released evicted installed fetched fetches
    load_step store_step prefetch_step evict_step drain_step arrived processed process_step take_step
all_steps = zero

empty_list : IsTrue (settled (start shape_S)) × (bank_words shape_S (start shape_S) ≡ image shape_S)
unfolding all_steps
empty_list = (refl, refl)

one_load : Gives shape_S
    ((Load 1 5, Accepted) ∷ (Serve 1, Moved) ∷ (Arrive 1 0, Moved) ∷ (Process 0, Moved)
    ∷ (Take 0, Value 1 (word 5 0 0 0)) ∷ [])
unfolding all_steps
one_load = refl

loads_answered_as_words_arrive : Gives shape_S
    (((Load 1 4, Accepted) ∷ (Load 2 5, Accepted) ∷ []) ++ word_brought ++ (Take 0, Value 2 (word 5 0 0 0))
    ∷ (Serve 0, Moved) ∷ (Arrive 0 0, Moved) ∷ (Process 0, Moved) ∷ (Take 0, Value 1 (word 4 0 0 0)) ∷ [])
unfolding all_steps
loads_answered_as_words_arrive = refl

store_behind_a_waiting_load : Gives shape_S
    (((Load 1 5, Accepted) ∷ (Store 5 (word 255 0 0 0) (lanes 1), Accepted) ∷ []) ++ word_brought
    ++ (Take 0, Value 1 (word 5 0 0 0)) ∷ (Load 2 5, Accepted) ∷ (Take 0, Value 2 (word 255 0 0 0)) ∷ [])
unfolding all_steps
store_behind_a_waiting_load = refl

load_over_a_partial_store : Gives shape_S
    (((Store 5 (word 0 170 0 0) (lanes 2), Accepted) ∷ (Load 1 5, Accepted) ∷ []) ++ word_brought
    ++ (Take 0, Value 1 (word 5 170 0 0)) ∷ [])
unfolding all_steps
load_over_a_partial_store = refl

load_of_a_full_store : Gives shape_S
    ((Store 5 (word 222 173 190 239) (lanes 15), Accepted) ∷ (Load 1 5, Accepted) ∷ (Take 0, Value 1 (word 222 173 190 239)) ∷ [])
unfolding all_steps
load_of_a_full_store = refl

two_loads_of_one_word_a : Gives shape_S ((Load 1 5, Accepted) ∷ (Load 2 5, Accepted) ∷ [])
unfolding all_steps
two_loads_of_one_word_a = refl

two_loads_of_one_word_b : Gives shape_S
    ((Load 1 5, Accepted) ∷ (Serve 1, Moved) ∷ (Arrive 1 0, Moved) ∷ (Load 2 5, Accepted)
    ∷ (Take 0, Value 2 (word 5 0 0 0)) ∷ (Process 0, Moved) ∷ (Take 0, Value 1 (word 5 0 0 0)) ∷ [])
unfolding all_steps
two_loads_of_one_word_b = refl

no_register_no_way : Gives shape_S ((Load 1 0, Accepted) ∷ (Load 2 4, Accepted) ∷ (Load 3 8, Refused NoRegister) ∷ [])
unfolding all_steps
no_register_no_way = refl

no_register_no_way_four : Gives (record shape_S { regs = 4 })
    ((Load 1 0, Accepted) ∷ (Load 2 4, Accepted) ∷ (Load 3 8, Refused SetPending) ∷ [])
unfolding all_steps
no_register_no_way_four = refl

hit_under_a_miss : Gives shape_S (block_fetched 0 ++ (Load 2 4, Accepted) ∷ (Load 3 1, Accepted) ∷ (Take 0, Value 3 (word 1 0 0 0)) ∷ [])
unfolding all_steps
hit_under_a_miss = refl

evicted_while_missing : Gives shape_S
    ((Load 1 5, Accepted) ∷ (Store 5 (word 255 255 255 255) (lanes 15), Accepted) ∷ (Evict 1, Accepted)
    ∷ (Drain, Moved) ∷ (Load 2 5, Refused BankFull) ∷ (Serve 1, Moved) ∷ (Load 2 5, Accepted)
    ∷ (Arrive 1 0, Moved) ∷ (Process 0, Moved) ∷ (Take 0, Value 1 (word 5 0 0 0)) ∷ (Serve 1, Moved)
    ∷ (Serve 1, Moved) ∷ (Serve 1, Moved) ∷ (Arrive 1 1, Moved) ∷ (Process 0, Moved)
    ∷ (Take 0, Value 2 (word 255 255 255 255)) ∷ [])
unfolding all_steps
evicted_while_missing = refl

obsolete_register_leaves_the_buffer : Gives shape_S
    ((Load 1 5, Accepted) ∷ (Store 5 (word 255 255 255 255) (lanes 15), Accepted) ∷ (Evict 1, Accepted)
    ∷ (Drain, Moved) ∷ (Load 2 5, Refused BankFull) ∷ (Serve 1, Moved) ∷ (Load 2 5, Accepted)
    ∷ (Serve 1, Moved) ∷ (Serve 1, Moved) ∷ (Serve 1, Moved) ∷ (Arrive 1 2, Moved) ∷ (Process 0, Moved)
    ∷ (Arrive 1 0, Moved) ∷ (Process 0, Moved) ∷ (Take 0, Value 2 (word 255 255 255 255))
    ∷ (Take 0, Value 1 (word 5 0 0 0)) ∷ (Load 3 5, Accepted) ∷ (Take 0, Value 3 (word 255 255 255 255))
    ∷ [])
unfolding all_steps
obsolete_register_leaves_the_buffer = refl

tag_in_use_until_taken : Gives shape_S
    (((Load 1 5, Accepted) ∷ []) ++ word_brought ++ (Load 1 6, Refused TagInUse)
    ∷ (Take 0, Value 1 (word 5 0 0 0)) ∷ (Load 1 6, Accepted) ∷ [])
unfolding all_steps
tag_in_use_until_taken = refl

replies_full : Gives shape_S
    (block_fetched 0 ++ (Load 1 0, Accepted) ∷ (Load 2 1, Accepted) ∷ (Load 3 2, Accepted)
    ∷ (Load 4 3, Accepted) ∷ (Load 5 0, Refused RepliesFull) ∷ (Take 3, Value 4 (word 3 0 0 0))
    ∷ (Load 5 0, Accepted) ∷ [])
unfolding all_steps
replies_full = refl

refused_miss_keeps_its_victim : Gives shape_S
    (block_fetched 0 ++ ((Store 0 (word 170 0 0 0) (lanes 1), Accepted) ∷ []) ++ block_fetched 1
    ++ (Store 4 (word 1 2 3 4) (lanes 15), Accepted) ∷ (Evict 1, Accepted) ∷ (Drain, Moved)
    ∷ (Prefetch 4, Accepted) ∷ (Load 1 8, Refused BankFull) ∷ (Load 2 0, Accepted)
    ∷ (Take 0, Value 2 (word 170 0 0 0)) ∷ (Serve 0, Moved) ∷ (Load 1 8, Accepted)
    ∷ (Evict 0, Refused NotPresent) ∷ (Load 3 0, Refused NoRegister) ∷ [])
unfolding all_steps
refused_miss_keeps_its_victim = refl

write_queue_full : Gives shape_S
    (block_fetched 0
    ++ ((Store 0 (word 1 0 0 0) (lanes 1), Accepted) ∷ (Store 1 (word 2 0 0 0) (lanes 1), Accepted)
    ∷ (Store 2 (word 3 0 0 0) (lanes 1), Accepted) ∷ (Store 3 (word 4 0 0 0) (lanes 1), Accepted) ∷ [])
    ++ block_fetched 1 ++ (Store 4 (word 0 0 0 9) (lanes 8), Accepted) ∷ (Evict 0, Accepted)
    ∷ (Evict 1, Refused QueueFull) ∷ (Load 1 12, Refused QueueFull) ∷ (Drain, Moved) ∷ (Evict 1, Accepted)
    ∷ [])
unfolding all_steps
write_queue_full = refl

drain_waits_for_room : Gives shape_S
    (block_fetched 0 ++ (Store 0 (word 10 11 12 13) (lanes 15), Accepted) ∷ (Evict 0, Accepted)
    ∷ (Prefetch 4, Accepted) ∷ (Prefetch 8, Accepted) ∷ (Drain, Refused BankFull) ∷ (Serve 0, Moved)
    ∷ (Drain, Moved) ∷ [])
unfolding all_steps
drain_waits_for_room = refl

stack_full : Gives shape_S
    ((Prefetch 0, Accepted) ∷ (Serve 0, Moved) ∷ (Serve 0, Moved) ∷ (Serve 1, Moved) ∷ (Arrive 0 0, Moved)
    ∷ (Arrive 0 0, Moved) ∷ (Arrive 1 0, Refused StackFull) ∷ (Process 0, Moved) ∷ (Arrive 1 0, Moved) ∷ [])
unfolding all_steps
stack_full = refl

nothing_to_do : Gives shape_S
    ((Drain, Nothing) ∷ (Serve 0, Nothing) ∷ (Serve 2, Nothing) ∷ (Arrive 0 0, Nothing) ∷ (Process 0, Nothing)
    ∷ (Take 0, Nothing) ∷ [])
unfolding all_steps
nothing_to_do = refl

out_of_range_and_no_lanes : Gives shape_S
    ((Load 1 31, Accepted) ∷ (Load 1 32, Refused OutOfRange) ∷ (Load 1 30, Refused TagInUse)
    ∷ (Store 0 (word 0 0 0 0) (lanes 0), Refused NoLanes)
    ∷ (Store 32 (word 0 0 0 0) (lanes 0), Refused OutOfRange) ∷ (Evict 8, Refused OutOfRange)
    ∷ (Evict 6, Refused NotPresent) ∷ (Evict 7, Accepted) ∷ [])
unfolding all_steps
out_of_range_and_no_lanes = refl

settled_after_write_back : Gives shape_S
    (block_fetched 1 ++ (Store 5 (word 17 34 51 68) (lanes 15), Accepted) ∷ (Evict 1, Accepted) ∷ (Drain, Moved) ∷ (Serve 1, Moved) ∷ [])
unfolding all_steps
settled_after_write_back = refl

settled_after_write_back_before : settled
    (after shape_S (block_fetched 1 ++ (Store 5 (word 17 34 51 68) (lanes 15), Accepted) ∷ (Evict 1, Accepted) ∷ (Drain, Moved) ∷ []))
    ≡ false
unfolding all_steps
settled_after_write_back_before = refl

settled_after_write_back_after : IsTrue
    (settled (after shape_S
    (block_fetched 1 ++ (Store 5 (word 17 34 51 68) (lanes 15), Accepted) ∷ (Evict 1, Accepted)
    ∷ (Drain, Moved) ∷ (Serve 1, Moved) ∷ [])))
    × (bank_words shape_S
    (after shape_S
    (block_fetched 1 ++ (Store 5 (word 17 34 51 68) (lanes 15), Accepted) ∷ (Evict 1, Accepted)
    ∷ (Drain, Moved) ∷ (Serve 1, Moved) ∷ []))
    ≡ slice_set (image shape_S) 5 (word 17 34 51 68))
unfolding all_steps
settled_after_write_back_after = (refl, refl)

oldest_way_is_given_up : Gives (record shape_S { ways = 2 })
    (block_fetched 0 ++ block_fetched 2 ++ (Load 1 0, Accepted) ∷ (Take 0, Value 1 (word 0 0 0 0))
    ∷ (Prefetch 16, Accepted) ∷ (Evict 0, Refused NotPresent) ∷ (Load 2 9, Accepted)
    ∷ (Take 0, Value 2 (word 9 0 0 0)) ∷ [])
unfolding all_steps
oldest_way_is_given_up = refl

thirteen_pumps : weights shape_S 14 (after shape_S ((Load 1 5, Accepted) ∷ []))
    ≡ 16 ∷ 15 ∷ 14 ∷ 12 ∷ 11 ∷ 10 ∷ 8 ∷ 7 ∷ 6 ∷ 5 ∷ 4 ∷ 3 ∷ 2 ∷ 0 ∷ []
unfolding all_steps
thirteen_pumps = refl

smallest_machine : Gives smallest
    ((Load 1 4, Accepted) ∷ (Load 2 5, Refused NoRegister) ∷ (Load 1 5, Refused TagInUse) ∷ (Serve 0, Moved)
    ∷ (Arrive 0 0, Moved) ∷ (Process 0, Moved) ∷ (Load 2 4, Accepted) ∷ (Load 3 4, Refused RepliesFull)
    ∷ (Take 1, Value 2 (word 4 0 0 0)) ∷ (Take 0, Value 1 (word 4 0 0 0)) ∷ (Load 1 8, Refused OutOfRange)
    ∷ [])
unfolding all_steps
smallest_machine = refl

interleaved_block : Gives (record shape_S { regs = 1 })
    ((Load 1 5, Accepted) ∷ (Load 2 0, Refused NoRegister) ∷ (Serve 1, Moved) ∷ (Serve 1, Moved)
    ∷ (Arrive 1 1, Moved) ∷ (Process 0, Moved) ∷ (Take 0, Nothing) ∷ (Arrive 1 0, Moved)
    ∷ (Process 0, Moved) ∷ (Take 0, Value 1 (word 5 0 0 0)) ∷ (Load 2 7, Accepted)
    ∷ (Take 0, Value 2 (word 7 0 0 0)) ∷ (Serve 0, Moved) ∷ (Serve 0, Moved) ∷ (Arrive 0 0, Moved)
    ∷ (Process 0, Moved) ∷ (Arrive 0 0, Moved) ∷ (Process 0, Moved) ∷ (Load 3 13, Accepted)
    ∷ (Load 4 7, Refused NoRegister) ∷ [])
unfolding all_steps
interleaved_block = refl

dirty_victim : Gives shape_S (block_fetched 0 ++ (Store 0 (word 170 0 0 0) (lanes 1), Accepted) ∷ (Load 1 8, Accepted) ∷ [])
unfolding all_steps
dirty_victim = refl

-- two loads of a word before a store of it, and as many behind that as may wait for the word
abbrev waiting_loads : List (Event × Answer)
waiting_loads =
    (Load 1 5, Accepted) ∷ (Load 2 5, Accepted) ∷ (Store 5 (word 255 0 0 0) (lanes 1), Accepted)
    ∷ map (λ tag. (Load tag 5, Accepted)) (range_with_len 3 (MAX_WAITING - 2))

-- one more is refused
abbrev one_too_many : List (Event × Answer)
one_too_many = waiting_loads ++ (Load (MAX_WAITING + 1) 5, Refused TargetsFull) ∷ []

-- until the word has come
abbrev one_more : List (Event × Answer)
one_more = one_too_many ++ (Serve 1, Moved) ∷ (Arrive 1 0, Moved) ∷ (Load (MAX_WAITING + 1) 5, Accepted) ∷ []

-- shape S, with replies for more loads than that
abbrev many_replies : Sizes
many_replies = record shape_S { replies = 2 * MAX_WAITING }

four_loads_of_one_word : Gives many_replies
    (one_more ++ (Process 0, Moved) ∷ (Take 0, Value (MAX_WAITING + 1) (word 255 0 0 0))
    ∷ (Take 0, Value 1 (word 5 0 0 0)) ∷ (Take 0, Value 2 (word 5 0 0 0))
    ∷ map (λ tag. (Take 0, Value tag (word 255 0 0 0))) (range_with_len 3 (MAX_WAITING - 2)))
unfolding all_steps
four_loads_of_one_word = refl

four_loads_of_one_word_weights : (weight (after many_replies one_too_many) ≡ MAX_WAITING + 15) ×
    (weight (after many_replies one_more) ≡ MAX_WAITING + 14) ×
    (weight (after many_replies (one_more ++ (Process 0, Moved) ∷ [])) ≡ MAX_WAITING + 13)
unfolding all_steps
four_loads_of_one_word_weights = (refl, refl, refl)

four_loads_of_one_word_few_replies : Gives shape_S
    ((Load 1 5, Accepted) ∷ (Load 2 5, Accepted) ∷ (Store 5 (word 255 0 0 0) (lanes 1), Accepted)
    ∷ (Load 3 5, Accepted) ∷ (Load 4 5, Accepted) ∷ (Load 5 5, Refused RepliesFull) ∷ [])
unfolding all_steps
four_loads_of_one_word_few_replies = refl

miss_on_a_queued_block : Gives shape_S
    (block_fetched 1 ++ (Store 5 (word 170 187 0 0) (lanes 3), Accepted) ∷ (Evict 1, Accepted)
    ∷ (Load 1 5, Accepted) ∷ (Store 5 (word 0 204 0 0) (lanes 2), Accepted) ∷ (Evict 1, Accepted)
    ∷ (Load 2 5, Accepted) ∷ (Serve 1, Moved) ∷ (Serve 1, Moved) ∷ (Serve 1, Moved) ∷ (Serve 1, Moved)
    ∷ (Arrive 1 2, Moved) ∷ (Process 0, Moved) ∷ (Take 0, Value 2 (word 170 204 0 0)) ∷ (Load 3 5, Accepted)
    ∷ (Take 0, Value 3 (word 170 204 0 0)) ∷ (Arrive 1 0, Moved) ∷ (Process 0, Moved)
    ∷ (Take 0, Value 1 (word 170 187 0 0)) ∷ (Drain, Moved) ∷ (Drain, Moved) ∷ (Serve 1, Moved)
    ∷ (Serve 1, Moved) ∷ (Evict 1, Accepted) ∷ (Drain, Nothing) ∷ [])
unfolding all_steps
miss_on_a_queued_block = refl

miss_on_a_queued_block_word : bank_word shape_S
    (after shape_S
    (block_fetched 1 ++ (Store 5 (word 170 187 0 0) (lanes 3), Accepted) ∷ (Evict 1, Accepted)
    ∷ (Load 1 5, Accepted) ∷ (Store 5 (word 0 204 0 0) (lanes 2), Accepted) ∷ (Evict 1, Accepted)
    ∷ (Load 2 5, Accepted) ∷ (Serve 1, Moved) ∷ (Serve 1, Moved) ∷ (Serve 1, Moved) ∷ (Serve 1, Moved)
    ∷ (Arrive 1 2, Moved) ∷ (Process 0, Moved) ∷ (Take 0, Value 2 (word 170 204 0 0)) ∷ (Load 3 5, Accepted)
    ∷ (Take 0, Value 3 (word 170 204 0 0)) ∷ (Arrive 1 0, Moved) ∷ (Process 0, Moved)
    ∷ (Take 0, Value 1 (word 170 187 0 0)) ∷ (Drain, Moved) ∷ (Drain, Moved) ∷ (Serve 1, Moved)
    ∷ (Serve 1, Moved) ∷ []))
    5 ≡ word 170 204 0 0
unfolding all_steps
miss_on_a_queued_block_word = refl

load_of_queued_bytes : Gives shape_S
    (block_fetched 1 ++ (Store 5 (word 17 34 51 68) (lanes 15), Accepted) ∷ (Evict 1, Accepted)
    ∷ (Load 1 5, Accepted) ∷ (Take 0, Value 1 (word 17 34 51 68)) ∷ [])
unfolding all_steps
load_of_queued_bytes = refl
