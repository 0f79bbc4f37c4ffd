-- What holds of the registers at all times.
use Rattle.std.specs.Prelude.{ℕ, ◌≤◌, ◌≡◌, true, false, ◌==◌, List, length}
use Rattle.std.specs.List.{count_by}
use Rattle.miss_registers.specs.declared.TheConstants.{MAX_WAITING}
use Rattle.flat_model.specs.declared.limits.TheConstants.{MAX_BLOCK_WORDS, MAX_REGS}
use Rattle.flat_model.specs.Words.{no_lanes}
use Rattle.miss_registers.specs.Registers.{Register, free_register, register_at, field_of, finished_field, is_live, is_done, waiting_tags}

-- what holds of each register
pub record IsWholeRegister (words : ℕ) (r : Register) : Type 0 where
  -- a register that isn't valid is the free one
  pub free : r.valid ≡ false → r ≡ free_register
  -- a valid one has a field for each word, and one of them is unprocessed
  pub fields_there : r.valid ≡ true → length r.fields ≡ words
  pub missing : r.valid ≡ true → is_done r.fields ≡ false
  pub codes : r.obsolete ≡ true → (i : ℕ) → (field_of r i).code ≡ no_lanes
  -- no load waits for a processed word, which has no code and isn't in the stack
  pub done : (i : ℕ) → (field_of r i).processed ≡ true → field_of r i ≡ finished_field
  pub few_loads : (i : ℕ) → length (field_of r i).waiting ≤ MAX_WAITING

-- what holds of a file of registers for blocks of so many words
pub record IsSound (words regs : ℕ) (rs : List Register) : Type 0 where
  pub registers_there : length rs ≡ regs
  pub each : (slot : ℕ) → IsWholeRegister words (register_at rs slot)
  -- two live registers of one block are one
  pub one_live : (j k : ℕ) → is_live (register_at rs j) ≡ true → is_live (register_at rs k) ≡ true
      → (register_at rs j).block ≡ (register_at rs k).block → j ≡ k
  -- no tag waits twice
  pub once : (tag : ℕ) → count_by (λ t. t == tag) (waiting_tags rs) ≤ 1

-- the same, and its numbers are in their ranges
pub record IsWhole (words regs : ℕ) (rs : List Register) : Type 0 where
  pub some_register : 1 ≤ regs
  pub few_registers : regs ≤ MAX_REGS
  pub some_word : 1 ≤ words
  pub few_words : words ≤ MAX_BLOCK_WORDS
  pub sound : IsSound words regs rs
