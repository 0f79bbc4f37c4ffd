-- A whole memory: its banks, and what they have in common.
use Rattle.std.specs.Prelude.{◌≡◌, ℕ, ◌+◌, ◌-◌, ◌/◌, ◌%◌, ◌<◌, ◌≤◌, Bool, true, false, ◌&&◌, not, nat_lt, ◌==◌, if◌then◌else◌, List, []}
use Rattle.std.specs.Prelude.{◌∷◌, length, slice_set, Option, Some, None, refl}
use Rattle.std.proofs.Common.{◌∙◌}
use Rattle.std.specs.List.{remove}
use Rattle.flat_model.specs.declared.limits.TheConstants.{MAX_WORDS, MAX_MEMORY, MAX_BANKS, MAX_BANK_QUEUE}
use Rattle.flat_model.specs.declared.Word.{Word}
use Rattle.flat_model.specs.declared.Shape.{Shape}
use Rattle.flat_model.specs.declared.ShapeField.{ShapeField}
use Rattle.flat_model.specs.declared.ShapeField.TheVariants.{Words, Banks, BankQueue, Image}
use Rattle.flat_model.specs.declared.MakeFault.{MakeFault}
use Rattle.flat_model.specs.declared.MakeFault.TheVariants.{BadShape, OutOfMemory}
use Rattle.flat_model.specs.Flat.{word_at}
use Rattle.flat_model.specs.Ranges.{is_between}
use Rattle.memory_banks.specs.declared.Command.{Command}
use Rattle.memory_banks.specs.declared.Command.TheVariants.{Read, Write}
use Rattle.memory_banks.specs.Banks.{Bank, bank_at, served}

-- how many words of memory there are, how many commands wait at a bank at most, and the banks
pub record Memory : Type 0 where
  pub words : ℕ
  pub limit : ℕ
  pub banks : List Bank

-- the memory with these banks
abbrev pub with_banks : Memory → List Bank → Memory
with_banks m banks = record { words = m.words; limit = m.limit; banks = banks }

-- how many of so many words lie in bank b of n
abbrev pub share_length : ℕ → ℕ → ℕ → ℕ
share_length words n b = (words + n - 1 - b) / n

-- what is so of every memory
pub record IsMemory (m : Memory) : Type 0 where
  pub some_words : 1 ≤ m.words
  pub most_words : m.words ≤ MAX_MEMORY
  pub some_banks : 1 ≤ length m.banks
  pub most_banks : length m.banks ≤ MAX_BANKS
  pub some_queue : 1 ≤ m.limit
  pub most_queue : m.limit ≤ MAX_BANK_QUEUE
  pub spread : (b : ℕ) → b < length m.banks → length (bank_at m.banks b).words ≡ share_length m.words (length m.banks) b
  pub within : (b : ℕ) → length (bank_at m.banks b).queue ≤ m.limit

-- ---- what is read

-- the word of memory at an address, as it now stands in its bank
abbrev pub word_in : Memory → ℕ → Option Word
word_in m at =
    if nat_lt at m.words then Some (word_at (bank_at m.banks (at % length m.banks)).words (at / length m.banks)) else None

abbrev pub is_read : Command → Bool
is_read (Read slot i place) = true
is_read (Write place word lanes) = false

-- whether a bank has neither a command nor an answer
abbrev pub is_idle : Bank → Bool
is_idle b = (length b.queue == 0) && (length b.answers == 0)

-- ---- what is changed

-- a bank with its first command served, where it has one
abbrev pub serve_bank : Bank → List Command → Bank
serve_bank b [] = b
serve_bank b (first ∷ rest) = served b first rest

-- the banks with the first command of bank b served, where there is one: its queue is given beside it
abbrev pub serve_in : List Bank → ℕ → List Command → List Bank
serve_in banks b [] = banks
serve_in banks b (first ∷ rest) = slice_set banks b (served (bank_at banks b) first rest)

-- a bank whose answer at a place has been taken
abbrev pub without_answer : Bank → ℕ → Bank
without_answer b place = record { words = b.words; queue = b.queue; answers = remove b.answers place }

-- the second memory is the first after some sends: they differ in their queues alone
pub record SameButQueues (m n : Memory) : Type 0 where
  pub words : n.words ≡ m.words
  pub limit : n.limit ≡ m.limit
  pub number : length n.banks ≡ length m.banks
  pub contents : (b : ℕ) → (bank_at n.banks b).words ≡ (bank_at m.banks b).words
  pub answers : (b : ℕ) → (bank_at n.banks b).answers ≡ (bank_at m.banks b).answers

pub same_self : (m : Memory) → SameButQueues m m
same_self m = record { words = refl; limit = refl; number = refl; contents = λ b. refl; answers = λ b. refl }

pub same_steps : (l m n : Memory) → SameButQueues l m → SameButQueues m n → SameButQueues l n
same_steps l m n p q =
    record {
      words = q.words ∙ p.words;
      limit = q.limit ∙ p.limit;
      number = q.number ∙ p.number;
      contents = λ b. q.contents b ∙ p.contents b;
      answers = λ b. q.answers b ∙ p.answers b;
    }

-- ---- what is made

-- the first number of a shape that is out of its range for banks with an image of so many words
abbrev pub bad_field : ℕ → Shape → Option ShapeField
bad_field image shape =
    if not (is_between shape.words 1 MAX_WORDS) then Some Words
    else (if not (is_between shape.banks 1 MAX_BANKS) then Some Banks
    else (if not (is_between shape.bank_queue 1 MAX_BANK_QUEUE) then Some BankQueue
    else (if not (image == shape.words) then Some Image else None)))

-- the fault of a bad field; where there is none, only memory can be wanting
abbrev pub fault_of : Option ShapeField → MakeFault
fault_of (Some field) = BadShape field
fault_of None = OutOfMemory
