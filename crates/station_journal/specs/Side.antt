-- What a cache side's journal says of its unit, of what it has sent to the banks and of the words that it has popped.
use Rattle.std.specs.Prelude.{◌≡◌, ℕ, ◌<◌, ◌≤◌, List, [], ◌∷◌, ◌++◌, length, Option, Some, None}
use Rattle.std.specs.List.{count_by}
use Rattle.flat_model.specs.declared.Cause.TheVariants.{StrayWord}
use Rattle.flat_model.specs.declared.Word.{Word}
use Rattle.memory_banks.specs.declared.Command.{Command}
use Rattle.memory_banks.specs.declared.BankAnswer.{BankAnswer}
use Rattle.memory_banks.specs.Banks.{answers_to}
use Rattle.memory_banks.specs.Memory.{is_read}
use Rattle.cache_law.specs.declared.Sizes.{Sizes}
use Rattle.cache_law.specs.State.{Cache}
use Rattle.cache_law.specs.Causes.{arrive_cause}
use Rattle.station_journal.specs.declared.journal.Entry.{Entry}
use Rattle.station_journal.specs.declared.journal.SideFault.{SideFault}
use Rattle.station_journal.specs.declared.journal.SideFault.TheVariants.{Uncalled, Stray}
use Rattle.station_journal.specs.Journal.{Stand, opening_stand, come_word, Walks}

-- the words of a bank that stand in the journal are all but the last of those that were popped
pub record IsLost (come popped : ℕ → List BankAnswer) (bank : ℕ) (a : BankAnswer) : Type 0 where
  pub lost : popped bank ≡ come bank ++ a ∷ []
  pub others : (b : ℕ) → (b ≡ bank → ⊥) → popped b ≡ come b

-- the last word popped went beyond the reads that were sent
pub record IsUncalled (sent : ℕ → List Command) (come popped : ℕ → List BankAnswer) (bank : ℕ) : Type 0 where
  pub word : BankAnswer
  pub is_lost : IsLost come popped bank word
  pub beyond : count_by is_read (sent bank) ≤ length (come bank)

-- or no register waits for it
pub record IsStray (z : Sizes) (cache : Cache) (sent : ℕ → List Command) (come popped : ℕ → List BankAnswer) (bank slot i : ℕ) : Type 0
  where
    pub word : BankAnswer
    pub is_lost : IsLost come popped bank word
    pub within : length (come bank) < count_by is_read (sent bank)
    pub slot_is : word.slot ≡ slot
    pub i_is : word.i ≡ i
    pub refused : arrive_cause z cache word.slot word.i ≡ Some StrayWord

-- the words that stand in the journal are those that were popped, but for the one that made the side faulted
abbrev pub Popped : Sizes → Cache → (ℕ → List Command) → (ℕ → List BankAnswer) → (ℕ → List BankAnswer) → Option SideFault → Type 0
Popped z cache sent come popped None = (b : ℕ) → popped b ≡ come b
Popped z cache sent come popped (Some (Uncalled bank)) = (bank < z.banks) × IsUncalled sent come popped bank
Popped z cache sent come popped (Some (Stray bank slot i)) = (bank < z.banks) × IsStray z cache sent come popped bank slot i

pub record SideTells (z : Sizes) (cache : Cache) (sent : ℕ → List Command) (popped : ℕ → List BankAnswer) (fault : Option SideFault)
    (entries : List Entry) : Type 0 where
  pub stand : Stand
  pub come : ℕ → List BankAnswer
  pub walks : Walks z (come_word come) (opening_stand z) entries stand
  pub unit : stand.cache ≡ cache
  pub commands : (b : ℕ) → b < z.banks → stand.sent b ≡ sent b
  pub words : (b : ℕ) → b < z.banks → stand.arrived b ≡ length (come b)
  pub all : Popped z cache sent come popped fault

-- what came of a bank is the first part of the answers to the first part of what it was sent
pub record ComesOf (words : List Word) (sent : List Command) (come : List BankAnswer) : Type 0 where
  pub served : List Command
  pub left : List Command
  pub on_its_way : List BankAnswer
  pub commands : served ++ left ≡ sent
  pub answers : come ++ on_its_way ≡ answers_to words served
