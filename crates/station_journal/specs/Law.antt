-- What a journal that is true of the banks promises.
use Rattle.std.specs.Prelude.{◌≡◌, ◌≢◌, ℕ, ◌*◌, ◌/◌, ◌%◌, ◌<◌, ◌≤◌, IsTrue, List, ◌++◌, length, Option, Some, None}
use Rattle.flat_model.specs.declared.Word.{Word}
use Rattle.flat_model.specs.Flat.{Flat, opening, word_at, flat_run}
use Rattle.flat_model.specs.declared.Cause.TheVariants.{StrayWord}
use Rattle.memory_banks.specs.declared.Command.{Command}
use Rattle.memory_banks.specs.declared.BankAnswer.{BankAnswer}
use Rattle.memory_banks.specs.Banks.{after}
use Rattle.cache_law.specs.declared.Sizes.{Sizes}
use Rattle.cache_law.specs.State.{Cache, tags}
use Rattle.cache_law.specs.Views.{is_clean}
use Rattle.cache_law.specs.Forms.{owed}
use Rattle.cache_law.specs.Causes.{arrive_cause}
use Rattle.machine_core.specs.Law.{IsLawful}
use Rattle.station_journal.specs.declared.journal.Entry.{Entry}
use Rattle.station_journal.specs.declared.journal.SideFault.{SideFault}
use Rattle.station_journal.specs.declared.asks.Ask.{Ask}
use Rattle.station_journal.specs.declared.asks.Told.{Told}
use Rattle.station_journal.specs.Parts.{asks_of, told_of, IsOfPorts}
use Rattle.station_journal.specs.Conversation.{verdicts_in, requests_in, Converses}
use Rattle.station_journal.specs.Side.{SideTells, ComesOf}
use Rattle.station_journal.specs.Paid.{LoadsAreTaken}
use Rattle.station_journal.specs.Journal.{Stand, IsBankTrue, true_stand, true_word, zeros, zeros_in, events_of, answers_of}

-- a bank's words once it has served all that it was sent
abbrev pub bank_after : Sizes → Stand → ℕ → List Word
bank_after z e bank = after (zeros_in z bank) (e.sent bank)

-- nothing is owed at the end of a run, and each accepted load has got its value
pub record IsPaid (flat : Flat) (entries : List Entry) : Type 0 where
  pub none_due : (tag : ℕ) → flat.due tag ≡ None
  pub taken : LoadsAreTaken entries

-- a journal whose events and answers are a run of flat memory from zeros, at whose end the cache
-- side stands so
pub record IsFlatJournal (z : Sizes) (entries : List Entry) (e : Stand) : Type 0 where
  -- flat memory at the end of the run
  pub flat : Flat
  pub runs : flat_run (opening (zeros z)) (events_of entries) (answers_of entries) ≡ Some flat
  -- it owes what the unit owes
  pub owes : (tag : ℕ) → owed e.cache tag ≡ None → flat.due tag ≡ None
  pub owes_no_less : (tag : ℕ) → flat.due tag ≡ None → owed e.cache tag ≡ None
  -- where no tag is awaited or ready, each load is paid
  pub ends : length (tags e.cache) ≡ 0 → IsPaid flat entries
  -- and where the unit is clean, the banks hold it once they have served what they were sent
  pub settles : IsTrue (is_clean e.cache) → (at : ℕ) → at < z.words
      → word_at (bank_after z e (at % z.banks)) (at / z.banks) ≡ word_at flat.mem at
  -- and no register fails to wait for a bank's next word
  pub none_stray : (bank : ℕ) (a : BankAnswer) → bank < z.banks → true_word z bank (e.arrived bank) (e.sent bank) ≡ Some a
      → arrive_cause z e.cache a.slot a.i ≢ Some StrayWord

-- a bank's queue takes the words of a block that lie in the bank
abbrev pub TakesABlock : Sizes → Type 0
TakesABlock z = z.block_words ≤ z.bank_queue * z.banks

abbrev pub JournalIsFlat : Sizes → List Entry → Type 0
JournalIsFlat z entries =
    IsLawful z → TakesABlock z → IsBankTrue z entries → IsFlatJournal z entries (true_stand z entries)

-- the cache side's facts, and those of all banks, make the journal true and leave no fault
abbrev pub SideIsTrue : Type 0
SideIsTrue =
    (z : Sizes) (cache : Cache) (sent : ℕ → List Command) (popped : ℕ → List BankAnswer) (fault : Option SideFault) (entries : List Entry)
    → IsLawful z
    → TakesABlock z
    → SideTells z cache sent popped fault entries
    → ((b : ℕ) → b < z.banks → ComesOf (zeros_in z b) (sent b) (popped b))
    → IsBankTrue z entries × (fault ≡ None) × ((true_stand z entries).cache ≡ cache)

-- a run that ends with nothing owed has paid each load
abbrev pub RunIsTaken : Type 0
RunIsTaken =
    (entries : List Entry) (f g : Flat) → flat_run f (events_of entries) (answers_of entries) ≡ Some g → ((tag : ℕ) → g.due tag ≡ None)
    → LoadsAreTaken entries

-- ---- what ports ask and are told

-- the parts of a port in a journal that is a flat run
abbrev pub AsksAreJudged : Type 0
AsksAreJudged =
    (z : Sizes) (before rest : List Entry) (ports p : ℕ)
    → IsLawful z
    → TakesABlock z
    → IsBankTrue z (before ++ rest)
    → IsOfPorts ports (before ++ rest)
    → length (verdicts_in (told_of p before)) ≡ length (requests_in (asks_of p before))

-- a port's conversation beside what an audit finds of it: what the journal has of its asks was
-- offered, and what it took stands in the journal
pub record IsHeard (p : ℕ) (script offered : List Ask) (taken : List Told) (entries : List Entry) : Type 0 where
  pub conversation : Converses script offered taken
  pub unasked : List Ask
  pub asks : asks_of p entries ++ unasked ≡ offered
  pub untaken : List Told
  pub tellings : taken ++ untaken ≡ told_of p entries

-- no telling is left, and the unit owes nothing
pub record IsAnswered (ports : ℕ) (taken : ℕ → List Told) (entries : List Entry) (cache : Cache) : Type 0 where
  pub all_taken : (p : ℕ) → p < ports → taken p ≡ told_of p entries
  pub none_owed : length (tags cache) ≡ 0

abbrev pub RunIsAnswered : Type 0
RunIsAnswered =
    (z : Sizes) (entries : List Entry) (ports : ℕ) (script offered : ℕ → List Ask) (taken : ℕ → List Told)
    → IsLawful z
    → TakesABlock z
    → IsBankTrue z entries
    → IsOfPorts ports entries
    → ((p : ℕ) → p < ports → IsHeard p (script p) (offered p) (taken p) entries)
    → IsAnswered ports taken entries (true_stand z entries).cache
