-- Banks: what their commands leave, and what their reads are answered.
use Rattle.std.specs.Prelude.{◌≡◌, ℕ, ◌+◌, ◌-◌, ◌*◌, ◌/◌, ◌==◌, nat_lt, if◌then◌else◌, List, [], ◌∷◌, ◌++◌, map, length, slice_set}
use Rattle.std.specs.Prelude.{slice_index_or}
use Rattle.std.specs.List.{range_with_len, flat_map}
use Rattle.flat_model.specs.declared.Word.{Word}
use Rattle.flat_model.specs.Flat.{word_at, stored}
use Rattle.memory_banks.specs.declared.Command.{Command}
use Rattle.memory_banks.specs.declared.Command.TheVariants.{Read, Write}
use Rattle.memory_banks.specs.declared.BankAnswer.{BankAnswer}

-- a bank's words after these commands. A write to a place that the bank doesn't have changes nothing
abbrev pub after : List Word → List Command → List Word
after words [] = words
after words (Read slot i place ∷ rest) = after words rest
after words (Write place word lanes ∷ rest) = after (stored words place word lanes) rest

-- what these commands are answered: each read the word after the commands before it
abbrev pub answers_to : List Word → List Command → List BankAnswer
answers_to words [] = []
answers_to words (Read slot i place ∷ rest) =
    record { slot = slot; i = i; word = word_at words place } ∷ answers_to words rest
answers_to words (Write place word lanes ∷ rest) = answers_to (stored words place word lanes) rest

-- a bank: its words, the commands that wait, and the answers that nobody has taken
pub record Bank : Type 0 where
  pub words : List Word
  pub queue : List Command
  pub answers : List BankAnswer

abbrev pub no_bank : Bank
no_bank = record { words = []; queue = []; answers = [] }

abbrev pub bank_at : List Bank → ℕ → Bank
bank_at banks b = slice_index_or banks b no_bank

-- a bank's words once its queue is served
abbrev pub words_after : Bank → List Word
words_after b = after b.words b.queue

-- the answers that stand, and those that its queue will give
abbrev pub pending : Bank → List BankAnswer
pending b = b.answers ++ answers_to b.words b.queue

abbrev pub all_pending : List Bank → List BankAnswer
all_pending banks = flat_map pending banks

-- one more command, last
unfoldable pub with_command : Bank → Command → Bank
with_command b command = record { words = b.words; queue = b.queue ++ command ∷ []; answers = b.answers }

-- a bank whose first command is served
unfoldable pub served : Bank → Command → List Command → Bank
served b first rest =
    record {
      words = after b.words (first ∷ []);
      queue = rest;
      answers = b.answers ++ answers_to b.words (first ∷ []);
    }

-- the words of an image that lie in bank b of n: those at b, b + n, b + 2 * n, ..
abbrev pub share_of : List Word → ℕ → ℕ → List Word
share_of image n b = map (λ k. word_at image (k * n + b)) (range_with_len 0 ((length image + n - 1 - b) / n))

abbrev pub opening_banks : List Word → ℕ → List Bank
opening_banks image n =
    map (λ b. record { words = share_of image n b; queue = []; answers = [] }) (range_with_len 0 n)

-- ---- rooms

-- how many more commands a bank takes, of a queue of at most `limit`: a bank that isn't there takes none
abbrev pub room_in : ℕ → List Bank → ℕ → ℕ
room_in limit banks b = if nat_lt b (length banks) then limit - length (bank_at banks b).queue else 0

-- ---- commands on their way to several banks

-- the commands for one bank, of those sent, each with its bank
abbrev pub commands_for : ℕ → List (ℕ × Command) → List Command
commands_for b [] = []
commands_for b (c ∷ rest) = if c.0 == b then c.1 ∷ commands_for b rest else commands_for b rest

-- each command goes last into its bank's queue
abbrev pub all_sent : List Bank → List (ℕ × Command) → List Bank
all_sent banks [] = banks
all_sent banks (c ∷ rest) = all_sent (slice_set banks c.0 (with_command (bank_at banks c.0) c.1)) rest

-- what sends make of lines: the commands have gone to their banks in this order, and nothing else has changed
pub record HasSent {L : Type 0} (sent_to : L → ℕ → List Command) (room_of : L → ℕ → ℕ) (same : L → L → Type 0) (old new : L)
    (sent : List (ℕ × Command)) : Type 0 where
  pub kept : same old new
  pub queued : (b : ℕ) → sent_to new b ≡ sent_to old b ++ commands_for b sent
  pub rooms : (b : ℕ) → room_of new b + length (commands_for b sent) ≡ room_of old b
