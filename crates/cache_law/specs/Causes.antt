-- Why an event is refused.
use Rattle.std.specs.Prelude.{ℕ, ◌+◌, ◌-◌, ◌*◌, ◌%◌, Bool, false, ◌||◌, not, if◌then◌else◌, ◌==◌, nat_lt, nat_le, List, [], ◌∷◌, length}
use Rattle.std.specs.Prelude.{Option, Some, None, is_none, is_some}
use Rattle.std.specs.Option.{option_or}
use Rattle.std.specs.List.{find, list_any, list_all, filter, range_with_len}
use Rattle.miss_registers.specs.declared.TheConstants.{MAX_WAITING}
use Rattle.flat_model.specs.declared.Word.{Word}
use Rattle.flat_model.specs.declared.Lanes.{Lanes}
use Rattle.flat_model.specs.declared.Cause.{Cause}
use Rattle.flat_model.specs.declared.Cause.TheVariants.{OutOfRange, NoLanes, TagInUse, RepliesFull, TargetsFull, NoRegister, SetPending}
use Rattle.flat_model.specs.declared.Cause.TheVariants.{QueueFull, BankFull, NotPresent, StackFull, StrayWord}
use Rattle.flat_model.specs.Words.{zero_word, has_any, has_all, merged}
use Rattle.write_queue.specs.declared.Queued.{Queued}
use Rattle.input_stack.specs.Stack.{stack_word}
use Rattle.cache_directory.specs.declared.Cell.{Cell}
use Rattle.cache_directory.specs.Frames as dir
use Rattle.cache_law.specs.declared.Sizes.{Sizes}
use Rattle.cache_law.specs.State.{Cache, frame_at, frame_of, is_present, register_at, field_at, live_for, is_pending, cell_of, tags}
use Rattle.cache_law.specs.State.{block_of, place_in, first_of, order_of}
use Rattle.cache_law.specs.Reads.{is_short}

-- the first of the causes that holds
abbrev pub first_cause : List (Bool × Cause) → Option Cause
first_cause [] = None
first_cause (c ∷ rest) = if c.0 then Some c.1 else first_cause rest

-- ---- the frame that a miss takes

abbrev pub is_resident_block : Cache → Option ℕ → Bool
is_resident_block c None = false
is_resident_block c (Some block) = is_none (live_for c block)

abbrev pub ways_of : Sizes → ℕ → List ℕ
ways_of z block = range_with_len (block % z.sets * z.ways) z.ways

-- the free way of lowest number, else the resident way that was allocated longest ago
unfoldable pub choose : Sizes → Cache → ℕ → Option ℕ
choose z c block =
    option_or (find (λ f. is_none (frame_at c f).block) (ways_of z block))
    (find (λ f. is_resident_block c (frame_at c f).block) (order_of c.directory (block % z.sets)))

-- ---- the words that a frame owes to memory

-- the words of a block with dirty lanes, each with these lanes, from the one at `at` on
abbrev pub dirty_from : ℕ → ℕ → List Cell → List Queued
dirty_from block at [] = []
dirty_from block at (cell ∷ rest) =
    if has_any cell.dirty
    then record { block = block; at = at; word = merged zero_word cell.word cell.dirty; lanes = cell.dirty }
    ∷ dirty_from block (at + 1) rest
    else dirty_from block (at + 1) rest

-- those of the block that stands here, of blocks of so many words
abbrev pub owed_by : ℕ → Option ℕ → List Cell → List Queued
owed_by words None cells = []
owed_by words (Some block) cells = dirty_from block (block * words) cells

-- what a frame owes to memory
abbrev pub owed_words : ℕ → dir.Frames → ℕ → List Queued
owed_words words d f = owed_by words (dir.frame_at d.frames f).block (dir.frame_at d.frames f).cells

abbrev pub dirty_words : Sizes → Cache → Option ℕ → List Queued
dirty_words z c None = []
dirty_words z c (Some f) = owed_words z.block_words c.directory f

-- ---- causes

-- the words of a block
abbrev pub addresses : Sizes → ℕ → List ℕ
addresses z block = range_with_len (first_of z block) z.block_words

abbrev pub lacks_room : Sizes → (ℕ → ℕ) → ℕ → Bool
lacks_room z room block =
    list_any (λ b. is_short room (first_of z block) z.block_words z.banks b) (range_with_len 0 z.banks)

abbrev pub lacks_places : Sizes → Cache → Option ℕ → Bool
lacks_places z c f = nat_lt (z.write_queue - length c.queue) (length (dirty_words z c f))

abbrev pub miss_causes : Sizes → (ℕ → ℕ) → Cache → ℕ → List (Bool × Cause)
miss_causes z room c block =
    (length (filter (λ r. r.valid) c.registers) == z.regs, NoRegister)
    ∷ (list_all (is_pending c) (ways_of z block), SetPending)
    ∷ (lacks_places z c (choose z c block), QueueFull) ∷ (lacks_room z room block, BankFull) ∷ []

-- a load of a present block finds the word, or finds that it is on its way to a register
pub data Found : Type 0 where
  Here : (word : Word) → Found
  Coming : (slot : ℕ) → Found

abbrev pub found_missing : Option Word → ℕ → Lanes → Word → Found
found_missing (Some w) slot code buffer = Here (merged w buffer code)
found_missing None slot code buffer = Coming slot

abbrev pub found_in : Cache → Option ℕ → ℕ → Word → Found
found_in c None i buffer = Here buffer
found_in c (Some slot) i buffer =
    if (field_at c slot i).processed || has_all (field_at c slot i).code
    then Here buffer
    else found_missing (stack_word c.stack slot i) slot (field_at c slot i).code buffer

abbrev pub found : Cache → ℕ → ℕ → Found
found c block i = found_in c (live_for c block) i (cell_of c block i).word

-- as many loads wait for the word already as may
abbrev pub targets_full : Cache → ℕ → Found → Bool
targets_full c i (Here w) = false
targets_full c i (Coming slot) = nat_le MAX_WAITING (length (field_at c slot i).waiting)

abbrev pub is_in_use : Cache → ℕ → Bool
is_in_use c tag = list_any (λ t. t == tag) (tags c)

unfoldable pub load_cause : Sizes → (ℕ → ℕ) → Cache → ℕ → ℕ → Option Cause
load_cause z room c tag at =
    first_cause
    ((not (nat_lt at z.words), OutOfRange) ∷ (is_in_use c tag, TagInUse)
    ∷ (nat_le z.replies (length (tags c)), RepliesFull) ∷ (if is_present c (block_of z at)
    then (targets_full c (place_in z at) (found c (block_of z at) (place_in z at)), TargetsFull) ∷ []
    else miss_causes z room c (block_of z at)))

unfoldable pub store_cause : Sizes → (ℕ → ℕ) → Cache → ℕ → Lanes → Option Cause
store_cause z room c at lanes =
    first_cause
    ((not (nat_lt at z.words), OutOfRange) ∷ (not (has_any lanes), NoLanes)
    ∷ (if is_present c (block_of z at) then [] else miss_causes z room c (block_of z at)))

unfoldable pub prefetch_cause : Sizes → (ℕ → ℕ) → Cache → ℕ → Option Cause
prefetch_cause z room c at =
    first_cause
    ((not (nat_lt at z.words), OutOfRange) ∷ (if is_present c (block_of z at) then [] else miss_causes z room c (block_of z at)))

unfoldable pub evict_cause : Sizes → Cache → ℕ → Option Cause
evict_cause z c block =
    first_cause
    ((not (nat_lt (first_of z block) z.words), OutOfRange) ∷ (not (is_present c block), NotPresent) ∷ (
      lacks_places z c
          (frame_of c block),
      QueueFull,
    ) ∷ [])

-- a word that no register waits for
abbrev pub is_stray : Sizes → Cache → ℕ → ℕ → Bool
is_stray z c slot i =
    not (register_at c slot).valid
    || (not (nat_lt i z.block_words) || ((field_at c slot i).processed || is_some (stack_word c.stack slot i)))

unfoldable pub arrive_cause : Sizes → Cache → ℕ → ℕ → Option Cause
arrive_cause z c slot i =
    first_cause ((is_stray z c slot i, StrayWord) ∷ (nat_le z.depth (length c.stack), StackFull) ∷ [])
