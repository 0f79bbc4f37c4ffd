-- What a miss sends to the banks.
use Rattle.std.specs.Prelude.{ℕ, ◌%◌, ◌/◌, ◌==◌, nat_lt, Bool, List, map, length}
use Rattle.std.specs.List.{filter, range_with_len}
use Rattle.memory_banks.specs.declared.Command.{Command}
use Rattle.memory_banks.specs.declared.Command.TheVariants.{Read}

-- the reads of the first n words from `first` on, of a block of so many words, each with its bank
abbrev pub block_reads : (slot first words banks n : ℕ) → List (ℕ × Command)
block_reads slot first words banks n =
    map (λ at. (at % banks, Read slot (at % words) (at / banks))) (range_with_len first n)

-- whether a bank has less room than the words from `first` on need
abbrev pub is_short : (ℕ → ℕ) → (first words banks bank : ℕ) → Bool
is_short room first words banks bank =
    nat_lt (room bank) (length (filter (λ at. at % banks == bank) (range_with_len first words)))
