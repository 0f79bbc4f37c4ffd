-- What a turn of a bank does.
use Rattle.std.specs.Prelude.{◌≡◌, ◌⊎◌, ◌≤◌, ◌+◌, ℕ, zero, suc, Bool, true, false, List, [], ◌∷◌, ◌++◌, length, replicate}
use mathlib.Core.List.{IsPrefix}
use Rattle.flat_model.specs.Words.{zero_word}
use Rattle.memory_banks.specs.declared.Command.{Command}
use Rattle.memory_banks.specs.declared.Command.TheVariants.{Read, Write}
use Rattle.memory_banks.specs.Banks.{after, answers_to}
use Rattle.station_parts.specs.declared.bank.BankSide.{BankSide}
use Rattle.station_parts.specs.declared.parts.Stepped.{Stepped}
use Rattle.station_parts.specs.declared.parts.Stepped.TheVariants.{Did, Idle}
use Rattle.station_parts.specs.Ids.{bank_id}
use Rattle.station_parts.specs.Words.{received_by, sent_by, words_of, known_commands, answer_places}

-- with these known commands, and so many free places for answers, the bank can serve one
abbrev pub can_serve : List Command → ℕ → Bool
can_serve [] places = false
can_serve (Read slot i place ∷ rest) zero = false
can_serve (Read slot i place ∷ rest) (suc places) = true
can_serve (Write place word lanes ∷ rest) places = true

-- how many answers a command has
abbrev pub answers_for : Command → ℕ
answers_for (Read slot i place) = 1
answers_for (Write place word lanes) = 0

-- the bank has served one more command, the first of those that it knew of
pub record ServesOne (old new : BankSide) : Type 0 where
  pub command : Command
  pub received : received_by new ≡ received_by old ++ command ∷ []
  pub first : IsPrefix (known_commands old) (command ∷ known_commands new)
  -- a free place goes with an answer alone
  pub places : answer_places old ≤ answer_places new + answers_for command

-- it has served none, and knows no less
pub record ServesNone (old new : BankSide) : Type 0 where
  pub received : received_by new ≡ received_by old
  pub sent : sent_by new ≡ sent_by old
  pub words : words_of new ≡ words_of old
  pub known : IsPrefix (known_commands old) (known_commands new)
  pub places : answer_places old ≤ answer_places new

-- the bank's words and answers are what the commands that it has served make of zeros
pub record IsServedFromZeros (b : BankSide) : Type 0 where
  pub words : words_of b ≡ after (replicate (length (words_of b)) zero_word) (received_by b)
  pub answers : sent_by b ≡ answers_to (replicate (length (words_of b)) zero_word) (received_by b)

-- a step of the bank serves one command, or none
pub record BankSteps (old new : BankSide) (stepped : Stepped) : Type 0 where
  pub same : bank_id new ≡ bank_id old
  pub answer : (stepped ≡ Did) ⊎ (stepped ≡ Idle)
  pub did : stepped ≡ Did → ServesOne old new
  pub idle : stepped ≡ Idle → ServesNone old new
  pub meaning : IsServedFromZeros new
  -- it is idle if it can't serve what it knows of, and only then
  pub stuck : stepped ≡ Idle → can_serve (known_commands new) (answer_places new) ≡ false
  pub works : can_serve (known_commands old) (answer_places old) ≡ true → stepped ≡ Did
