-- The ranges of a unit's numbers, in the order of the checks.
use Rattle.std.specs.Prelude.{ℕ, ◌+◌, ◌-◌, ◌/◌, ◌%◌, ◌&&◌, not, if◌then◌else◌, ◌==◌, Option, Some, None}
use Rattle.flat_model.specs.declared.limits.TheConstants.{MAX_BLOCK_WORDS, MAX_WAYS, MAX_CONST_WAYS, MAX_REGS, MAX_CONST_REGS, MAX_DEPTH}
use Rattle.flat_model.specs.declared.limits.TheConstants.{MAX_CONST_DEPTH, MAX_WORDS, MAX_MEMORY, MAX_SETS, MAX_BANKS, MAX_BANK_QUEUE}
use Rattle.flat_model.specs.declared.limits.TheConstants.{MAX_WRITE_QUEUE, MAX_REPLIES}
use Rattle.flat_model.specs.declared.ShapeField.{ShapeField}
use Rattle.flat_model.specs.declared.ShapeField.TheVariants.{BlockWords, Ways, Regs, Depth, Words, Sets, Banks, BankQueue, WriteQueue}
use Rattle.flat_model.specs.declared.ShapeField.TheVariants.{Replies}
use Rattle.flat_model.specs.Ranges.{is_between}
use Rattle.cache_law.specs.declared.Sizes.{Sizes}

-- the words of a block that one bank has, where they are spread as evenly as may be: the quotient, rounded up
abbrev pub words_per_bank : Sizes → ℕ
words_per_bank z = (z.block_words + z.banks - 1) / z.banks

-- the first number of a unit that is out of its range, where memory has so many words at most
abbrev pub bad_number_within : ℕ → Sizes → Option ShapeField
bad_number_within most z =
    if not (is_between z.words 1 most && (z.words % z.block_words == 0)) then Some Words
    else (if not (is_between z.sets 1 MAX_SETS) then Some Sets
    else (if not (is_between z.banks 1 MAX_BANKS) then Some Banks
    else (if not (is_between z.bank_queue (words_per_bank z) MAX_BANK_QUEUE) then Some BankQueue
    else (if not (is_between z.write_queue z.block_words MAX_WRITE_QUEUE) then Some WriteQueue
    else (if not (is_between z.replies 1 MAX_REPLIES) then Some Replies else None)))))

-- the same for a machine of the program, or one whose type has its numbers
abbrev pub bad_number : Sizes → Option ShapeField
bad_number z = bad_number_within MAX_WORDS z

-- the largest numbers of a unit, of those that are larger where they are given at run time
pub record Most : Type 0 where
  pub ways : ℕ
  pub regs : ℕ
  pub depth : ℕ
  pub words : ℕ

abbrev pub most_of_type : Most
most_of_type = record { ways = MAX_CONST_WAYS; regs = MAX_CONST_REGS; depth = MAX_CONST_DEPTH; words = MAX_WORDS }

abbrev pub most_at_run_time : Most
most_at_run_time = record { ways = MAX_WAYS; regs = MAX_REGS; depth = MAX_DEPTH; words = MAX_MEMORY }

-- the first number of a unit that is out of its range
abbrev pub bad_field_within : Most → Sizes → Option ShapeField
bad_field_within most z =
    if not (is_between z.block_words 1 MAX_BLOCK_WORDS) then Some BlockWords
    else (if not (is_between z.ways 1 most.ways) then Some Ways
    else (if not (is_between z.regs 1 most.regs) then Some Regs
    else (if not (is_between z.depth 1 most.depth) then Some Depth else bad_number_within most.words z)))

-- the same where four numbers stand in a type
abbrev pub bad_field : Sizes → Option ShapeField
bad_field z = bad_field_within most_of_type z

-- the same where all numbers are given at run time
abbrev pub bad_size : Sizes → Option ShapeField
bad_size z = bad_field_within most_at_run_time z
