-- What each machine that a walk comes to keeps.
use Rattle.std.specs.Prelude.{◌≡◌, ℕ, ◌+◌, ◌/◌, ◌%◌, ◌<◌, ◌≤◌, Bool, ◌&&◌, not, ◌==◌, nat_lt, length}
use Rattle.std.specs.Prelude.{Option, Some, None, slice_index_or}
use Rattle.machine_core.specs.Words.{Word}
use Rattle.flat_model.specs.Words.{merged, zero_word}
use Rattle.memory_banks.specs.declared.BankAnswer.{BankAnswer}
use Rattle.memory_banks.specs.Banks.{bank_at, pending, all_pending}
use Rattle.input_stack.specs.declared.Entry.{Entry}
use Rattle.cache_law.specs.declared.Sizes.{Sizes}
use Rattle.cache_law.specs.State.{Register, clear_field, register_at, cell_of, block_of, place_in, address}
use Rattle.cache_law.specs.Counts.{bit, tally}
use Rattle.cache_law.specs.Sound as parts
use Rattle.machine_core.specs.Machine.{Machine, backing, flat_word}

-- ---- words on their way

-- an answer for word i of the register in this slot
abbrev pub is_for : ℕ → ℕ → BankAnswer → Bool
is_for slot i a = (a.slot == slot) && (a.i == i)

-- an entry of the stack for it
abbrev pub is_entry_for : ℕ → ℕ → Entry → Bool
is_entry_for slot i e = (e.slot == slot) && (e.i == i)

-- 1 where a register waits for its word i from memory, else 0
abbrev pub wanted : Sizes → Register → ℕ → ℕ
wanted z r i = bit (r.valid && (nat_lt i z.block_words && not (slice_index_or r.fields i clear_field).processed))

-- the bank of word i of the register in this slot
abbrev pub own_bank : Sizes → Machine → ℕ → ℕ → ℕ
own_bank z m slot i = address z (register_at m.cache slot).block i % z.banks

-- the word of an answer that is found: zero, where there is none
abbrev pub word_in : Option BankAnswer → Word
word_in None = zero_word
word_in (Some a) = a.word

-- ---- the invariant

-- what keeps the flat memory that a machine stands for, and what is on its way within the limits: what holds of its unit, and of the
-- words on their way between that and the banks
pub record IsSound (z : Sizes) (m : Machine) : Type 0 where
  pub unit : parts.IsSound z m.cache
  -- each word that a register waits for is once on its way, and nothing else is
  pub counted : (s i : ℕ) → tally (is_for s i) (all_pending m.banks) + tally (is_entry_for s i) m.cache.stack
      ≡ wanted z (register_at m.cache s) i
  -- a word is its backing with the buffer's bytes in the dirty lanes
  pub kept : (at : ℕ) → flat_word z m at ≡ merged (backing z m at) (cell_of m.cache (block_of z at) (place_in z at)).word
      (cell_of m.cache (block_of z at) (place_in z at)).dirty
  -- each read and each answer is at the bank of its word, and no bank has more commands than there is room for
  pub at_its_bank : (b s i : ℕ) → 1 ≤ tally (is_for s i) (pending (bank_at m.banks b)) → own_bank z m s i ≡ b
  pub few_commands : (b : ℕ) → length (bank_at m.banks b).queue ≤ z.bank_queue
  -- each word of memory has its place in its bank
  pub banks_are : length m.banks ≡ z.banks
  pub banks_hold : (at : ℕ) → at < z.words → at / z.banks < length (bank_at m.banks (at % z.banks)).words
