-- The shown state of the cache unit, and how it is read.
use Rattle.std.specs.Prelude.{ℕ, suc, ◌+◌, ◌*◌, ◌/◌, ◌%◌, Bool, false, if◌then◌else◌, List, [], ◌∷◌, ◌++◌, map, replicate, Option, Some}
use Rattle.std.specs.Prelude.{None, is_some, slice_index_or}
use Rattle.cache_law.specs.declared.Reply.{Reply}
use Rattle.input_stack.specs.declared.Entry.{Entry}
use Rattle.write_queue.specs.declared.Queued.{Queued}
use Rattle.miss_registers.specs.declared.Owed.{Owed}
use Rattle.cache_directory.specs.declared.Cell.{Cell}
use Rattle.cache_directory.specs.Frames.{zero_cell}
use Rattle.cache_directory.specs.Frames as dir
use Rattle.miss_registers.specs.Registers as regs
use Rattle.cache_law.specs.declared.Sizes.{Sizes}
-- the parts' words
pub use Rattle.cache_directory.specs.Frames.{Frame, Frames, empty_frame, order_of}
pub use Rattle.miss_registers.specs.Registers.{Field, Register, clear_field, free_register, is_live}

-- what each part of the unit shows, in the part's own words
pub record Cache : Type 0 where
  pub directory : Frames
  pub registers : List Register
  pub stack : List Entry
  pub queue : List Queued
  pub ready : List Reply

-- a cache unit: its numbers, and its shown state
pub record UnitState : Type 0 where
  pub sizes : Sizes
  pub cache : Cache

-- ---- reading

abbrev pub frame_at : Cache → ℕ → Frame
frame_at c f = dir.frame_at c.directory.frames f

-- the frame that holds a block
abbrev pub frame_of : Cache → ℕ → Option ℕ
frame_of c block = dir.frame_of c.directory.frames block

abbrev pub is_present : Cache → ℕ → Bool
is_present c block = is_some (frame_of c block)

abbrev pub register_at : Cache → ℕ → Register
register_at c slot = regs.register_at c.registers slot

abbrev pub field_at : Cache → ℕ → ℕ → Field
field_at c slot i = regs.field_at c.registers slot i

-- the live register of a block
abbrev pub live_for : Cache → ℕ → Option ℕ
live_for c block = regs.live_for c.registers block

-- a frame is pending where its block has a live register
abbrev pub is_pending_block : Cache → Option ℕ → Bool
is_pending_block c None = false
is_pending_block c (Some block) = is_some (live_for c block)

abbrev pub is_pending : Cache → ℕ → Bool
is_pending c f = is_pending_block c (frame_at c f).block

-- the free register with the lowest number
abbrev pub free_slot : Cache → Option ℕ
free_slot c = regs.free_slot c.registers

-- the cell of a word of a block: a zero one, where no frame holds the block
abbrev pub cell_in : Cache → Option ℕ → ℕ → Cell
cell_in c None i = zero_cell
cell_in c (Some f) i = slice_index_or (frame_at c f).cells i zero_cell

abbrev pub cell_of : Cache → ℕ → ℕ → Cell
cell_of c block i = cell_in c (frame_of c block) i

-- what f gives of each element and its place, counted from n
abbrev pub gathered : {X Y : Type 0} → (ℕ → X → List Y) → ℕ → List X → List Y
gathered f n [] = []
gathered f n (x ∷ xs) = f n x ++ gathered f (suc n) xs

-- a load that waits, and the word of a register that it waits for
pub record Target : Type 0 where
  pub slot : ℕ
  pub i : ℕ
  pub load : Owed

abbrev pub targets_of_field : ℕ → ℕ → Field → List Target
targets_of_field slot i f =
    if f.processed then [] else map (λ w. record { slot = slot; i = i; load = w }) f.waiting

abbrev pub targets_of : ℕ → Register → List Target
targets_of slot r = if r.valid then gathered (targets_of_field slot) 0 r.fields else []

-- the loads that wait for words of valid registers
unfoldable pub targets : List Register → List Target
targets registers = gathered targets_of 0 registers

-- the tags of the values that stand ready, and of the loads that wait
abbrev pub tags : Cache → List ℕ
tags c = map (λ r. r.tag) c.ready ++ map (λ t. t.load.tag) (targets c.registers)

-- ---- addresses

abbrev pub block_of : Sizes → ℕ → ℕ
block_of z at = at / z.block_words

abbrev pub place_in : Sizes → ℕ → ℕ
place_in z at = at % z.block_words

-- the address of a block's first word
abbrev pub first_of : Sizes → ℕ → ℕ
first_of z block = block * z.block_words

abbrev pub address : Sizes → ℕ → ℕ → ℕ
address z block i = block * z.block_words + i

-- ---- the beginning

-- the cache before its first event: no block, no register in use, and nothing that waits
abbrev pub opening_cache : Sizes → Cache
opening_cache z =
    record {
      directory = dir.all_empty z.ways z.sets;
      registers = replicate z.regs free_register;
      stack = [];
      queue = [];
      ready = [];
    }
