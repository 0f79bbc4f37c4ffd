-- What holds of the parts of a unit.
use Rattle.std.specs.Prelude.{ℕ, ◌+◌, ◌*◌, ◌%◌, ◌<◌, ◌≤◌, ◌≡◌, Bool, true, false, ◌==◌, List, length, Some, slice_index_or}
use Rattle.std.specs.List.{sum_by, count_by, All}
use Rattle.flat_model.specs.declared.limits.TheConstants.{MAX_BLOCK_WORDS, MAX_WAYS, MAX_REGS, MAX_DEPTH, MAX_MEMORY, MAX_SETS, MAX_BANKS}
use Rattle.flat_model.specs.declared.limits.TheConstants.{MAX_BANK_QUEUE, MAX_WRITE_QUEUE, MAX_REPLIES}
use Rattle.flat_model.specs.Words.{zero_word}
use Rattle.input_stack.specs.declared.Entry.{Entry}
use Rattle.write_queue.specs.declared.Queued.{Queued}
use Rattle.cache_law.specs.declared.Reply.{Reply}
use Rattle.cache_directory.specs.Frames as dir
use Rattle.miss_registers.specs.Registers as regs
use Rattle.miss_registers.specs.Whole as whole
use Rattle.cache_law.specs.declared.Sizes.{Sizes}
use Rattle.cache_law.specs.State.{Cache, frame_at}

-- each number of a unit is in its range
pub record InRange (z : Sizes) : Type 0 where
  pub some_words : 1 ≤ z.block_words
  pub few_words : z.block_words ≤ MAX_BLOCK_WORDS
  pub some_ways : 1 ≤ z.ways
  pub few_ways : z.ways ≤ MAX_WAYS
  pub some_regs : 1 ≤ z.regs
  pub few_regs : z.regs ≤ MAX_REGS
  pub some_depth : 1 ≤ z.depth
  pub few_depth : z.depth ≤ MAX_DEPTH
  pub some_memory : 1 ≤ z.words
  pub little_memory : z.words ≤ MAX_MEMORY
  pub whole_blocks : z.words % z.block_words ≡ 0
  pub some_sets : 1 ≤ z.sets
  pub few_sets : z.sets ≤ MAX_SETS
  pub some_banks : 1 ≤ z.banks
  pub few_banks : z.banks ≤ MAX_BANKS
  pub enough_commands : z.block_words ≤ z.bank_queue * z.banks
  pub few_commands : z.bank_queue ≤ MAX_BANK_QUEUE
  pub enough_queue : z.block_words ≤ z.write_queue
  pub short_queue : z.write_queue ≤ MAX_WRITE_QUEUE
  pub some_replies : 1 ≤ z.replies
  pub few_replies : z.replies ≤ MAX_REPLIES

abbrev pub no_entry : Entry
no_entry = record { slot = 0; i = 0; word = zero_word }

abbrev pub entry_at : List Entry → ℕ → Entry
entry_at stack k = slice_index_or stack k no_entry

-- a register has the word and waits for it, and the word stands in the stack
pub record HasInStack (r : regs.Register) (i : ℕ) : Type 0 where
  pub valid : r.valid ≡ true
  pub there : i < length r.fields
  pub waits : (regs.field_of r i).processed ≡ false
  pub marked : (regs.field_of r i).in_stack ≡ true

-- a live register's frame holds its block, and is pending
pub record HasFrame (d : List dir.Frame) (r : regs.Register) : Type 0 where
  pub holds : dir.frame_of d r.block ≡ Some r.frame
  pub cells : length (dir.frame_at d r.frame).cells ≡ length r.fields
  pub pending : (dir.frame_at d r.frame).pending ≡ true

-- a live register brings the words of a frame
pub record FilledBy (rs : List regs.Register) (f : ℕ) : Type 0 where
  pub slot : ℕ
  pub live : regs.is_live (regs.register_at rs slot) ≡ true
  pub frame : (regs.register_at rs slot).frame ≡ f

-- how many of the loads that wait for a word, and for the words of a register, have such a tag
abbrev pub loads_of_field : (ℕ → Bool) → regs.Field → ℕ
loads_of_field p f = count_by (λ w. p w.tag) f.waiting

abbrev pub loads_of : (ℕ → Bool) → regs.Register → ℕ
loads_of p r = sum_by (loads_of_field p) r.fields

-- how many of the values that stand ready and of the loads that wait have such a tag
abbrev pub owing : (ℕ → Bool) → List Reply → List regs.Register → ℕ
owing p ready rs = count_by (λ r. p r.tag) ready + sum_by (loads_of p) rs

-- an entry for this word stands in the stack
pub record Stands (stack : List Entry) (s i : ℕ) : Type 0 where
  pub place : ℕ
  pub within : place < length stack
  pub slot : (entry_at stack place).slot ≡ s
  pub word : (entry_at stack place).i ≡ i

-- each entry of the stack is for a marked word, no two are for one word, and each marked word has one
pub record StackSound (rs : List regs.Register) (stack : List Entry) : Type 0 where
  pub entries : (k : ℕ) → k < length stack → HasInStack (regs.register_at rs (entry_at stack k).slot) (entry_at stack k).i
  pub distinct : (j k : ℕ) → j < k → k < length stack → (entry_at stack j).slot ≡ (entry_at stack k).slot
      → (entry_at stack j).i ≡ (entry_at stack k).i → ⊥
  pub marks : (s i : ℕ) → (regs.field_of (regs.register_at rs s) i).in_stack ≡ true → Stands stack s i

-- a frame is pending exactly where a live register brings its words
pub record Tied (fs : List dir.Frame) (rs : List regs.Register) : Type 0 where
  pub frames : (s : ℕ) → regs.is_live (regs.register_at rs s) ≡ true → HasFrame fs (regs.register_at rs s)
  pub pending : (f : ℕ) → (dir.frame_at fs f).pending ≡ true → FilledBy rs f

-- the write queue is within its limit, and its words are in memory
pub record QueueSound (z : Sizes) (queue : List Queued) : Type 0 where
  pub within : length queue ≤ z.write_queue
  pub addresses : All (λ e. e.at < z.words) queue

-- so many are owed at most, and no tag twice
pub record OwesSound (z : Sizes) (ready : List Reply) (rs : List regs.Register) : Type 0 where
  pub few : owing (λ t. true) ready rs ≤ z.replies
  pub once : (tag : ℕ) → owing (λ t. t == tag) ready rs ≤ 1

-- what holds of the parts at all times, whatever the numbers, and each step keeps
pub record IsSound (z : Sizes) (c : Cache) : Type 0 where
  -- a block has a word, memory whole blocks, and there is a set
  pub some_words : 0 < z.block_words
  pub whole_blocks : z.words % z.block_words ≡ 0
  pub some_sets : 0 < z.sets
  pub directory : dir.IsSound z.ways z.block_words c.directory
  pub sets : length c.directory.orders ≡ z.sets
  -- the words of each block that a frame holds are in memory
  pub in_memory : (f block : ℕ) → (frame_at c f).block ≡ Some block → block * z.block_words + z.block_words ≤ z.words
  pub registers : whole.IsSound z.block_words z.regs c.registers
  pub stack_sound : StackSound c.registers c.stack
  pub tied : Tied c.directory.frames c.registers
  pub queue_sound : QueueSound z c.queue
  pub owes : OwesSound z c.ready c.registers
