-- What an audit promises of a journal, beside what ports offered and took and what banks hold.
use Rattle.std.specs.Prelude.{◌≡◌, ◌≢◌, ℕ, ◌<◌, ◌/◌, ◌%◌, IsTrue, List, [], ◌++◌, length, map, slice_get, slice_index_or, Some}
use mathlib.Core.List.{IsPrefix}
use Rattle.flat_model.specs.declared.Word.{Word}
use Rattle.flat_model.specs.Flat.{Flat, opening, word_at, flat_run}
use Rattle.cache_law.specs.declared.Sizes.{Sizes}
use Rattle.cache_law.specs.Views.{is_clean}
use Rattle.station_journal.specs.declared.asks.Ask.{Ask}
use Rattle.station_journal.specs.declared.asks.Told.{Told}
use Rattle.station_journal.specs.declared.journal.Entry.{Entry}
use Rattle.station_journal.specs.Journal.{zeros, events_of, answers_of, IsBankTrue}
use Rattle.station_journal.specs.Parts.{asks_of, told_of, IsOfPorts}
use Rattle.station_journal.specs.Conversation.{verdicts_in, requests_in}
use Rattle.station_journal.specs.Law.{IsPaid}
use Rattle.station_parts.specs.declared.port.Port.{Port}
use Rattle.station_parts.specs.declared.bank.BankSide.{BankSide}
use Rattle.station_parts.specs.declared.parts.Audit.{Audit}
use Rattle.station_parts.specs.declared.parts.Audit.TheVariants.{Faulted, Clean}
use Rattle.station_parts.specs.declared.parts.CacheSide.{CacheSide}
use Rattle.station_parts.specs.declared.parts.Station.{Station}
use Rattle.station_parts.specs.Audited.{IsSeen, audit_of}
use Rattle.station_parts.specs.Words.{offered, taken, words_of, journal_of, sizes_in, cache_in}

-- what port p has offered, and what it has taken
abbrev pub offered_by : List Port → ℕ → List Ask
offered_by ports p = slice_index_or (map offered ports) p []

abbrev pub taken_by : List Port → ℕ → List Told
taken_by ports p = slice_index_or (map taken ports) p []

-- the words of bank b
abbrev pub words_by : List BankSide → ℕ → List Word
words_by banks b = slice_index_or (map words_of banks) b []

-- the journal's asks of each port are the first of those that the port offered, in their order; and what the port took
-- is the first part of what the journal tells it
pub record ArePrefixes (entries : List Entry) (ports : List Port) : Type 0 where
  pub asks : (p : ℕ) → p < length ports → IsPrefix (asks_of p entries) (offered_by ports p)
  pub told : (p : ℕ) → p < length ports → IsPrefix (taken_by ports p) (told_of p entries)

-- they are all of them
pub record AreWhole (entries : List Entry) (ports : List Port) : Type 0 where
  pub asks : (p : ℕ) → p < length ports → asks_of p entries ≡ offered_by ports p
  pub told : (p : ℕ) → p < length ports → taken_by ports p ≡ told_of p entries

-- up to each entry each ask but Done has one verdict: the k-th verdict is on the k-th ask
abbrev pub AreJudged : List Entry → Type 0
AreJudged entries =
    (before rest : List Entry) (p : ℕ) → entries ≡ before ++ rest
    → length (verdicts_in (told_of p before)) ≡ length (requests_in (asks_of p before))

-- the journal's events and answers are a run of flat memory from zeros, and leave this state
abbrev pub LeavesFlat : Sizes → List Entry → Flat → Type 0
LeavesFlat z entries flat = flat_run (opening (zeros z)) (events_of entries) (answers_of entries) ≡ Some flat

pub record IsFlatRun (z : Sizes) (entries : List Entry) : Type 0 where
  pub flat : Flat
  pub runs : LeavesFlat z entries flat

-- nothing is due at the end of the run, and each accepted load has its value in the journal, before its port's next
-- accepted load under its tag
abbrev pub PaysLoads : Sizes → List Entry → Type 0
PaysLoads z entries = (flat : Flat) → LeavesFlat z entries flat → IsPaid flat entries

-- each word of memory stands in its bank as the run leaves it
abbrev pub HoldFlat : Sizes → List Entry → List BankSide → Type 0
HoldFlat z entries banks =
    (flat : Flat) → LeavesFlat z entries flat → (at : ℕ) → at < z.words
    → slice_get (words_by banks (at % z.banks)) (at / z.banks) ≡ Some (word_at flat.mem at)

-- ---- behind an audit

-- it has found this
pub record IsAudited (cache : CacheSide) (ports : List Port) (banks : List BankSide) (found : Audit) : Type 0 where
  -- each popping end knows all items of its ring, and the answer is by these
  pub seen : IsSeen cache ports banks
  pub exact : found ≡ audit_of cache ports banks
  pub never : found ≢ Faulted
  -- the journal is true
  pub prefixes : ArePrefixes (journal_of cache) ports
  pub bank_true : IsBankTrue (sizes_in cache) (journal_of cache)
  pub flat : IsFlatRun (sizes_in cache) (journal_of cache)
  pub sources : IsOfPorts (length ports) (journal_of cache)
  pub judged : AreJudged (journal_of cache)

-- it has found that nothing is left and nothing owed
pub record IsFoundClean (cache : CacheSide) (ports : List Port) (banks : List BankSide) : Type 0 where
  pub audited : IsAudited cache ports banks Clean
  pub whole : AreWhole (journal_of cache) ports
  pub paid : PaysLoads (sizes_in cache) (journal_of cache)
  pub settled : IsTrue (is_clean (cache_in cache)) → HoldFlat (sizes_in cache) (journal_of cache) banks

abbrev pub IsCleanStation : Station → Type 0
IsCleanStation s = IsFoundClean s.cache s.ports.items s.banks.items
