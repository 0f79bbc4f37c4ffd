-- What is read of a station's journal, and what a run left.
use Rattle.std.specs.Prelude.{◌≡◌, ◌↔◌, ℕ, ◌<◌, Bool, true, List, [], ◌∷◌, length, replicate, Option, Some, None, is_some}
use Rattle.std.specs.Global.{Vec}
use Rattle.flat_model.specs.Words.{zero_word}
use Rattle.flat_model.specs.Flat.{Flat, opening, flat_run}
use Rattle.station_journal.specs.declared.asks.Told.{Told}
use Rattle.station_journal.specs.declared.journal.Entry.{Entry}
use Rattle.station_journal.specs.Journal.{events_of, answers_of}
use Rattle.station_journal.specs.Parts.{told_of}
use Rattle.station_parts.specs.Runs.{list_in}

-- what a journal leaves of flat memory, if its events and answers are a run of it
abbrev pub flat_after : Flat → List Entry → Option Flat
flat_after memory entries = flat_run memory (events_of entries) (answers_of entries)

-- they are a run of flat memory of so many words that begins with zeros
abbrev pub is_flat : ℕ → List Entry → Bool
is_flat words entries = is_some (flat_after (opening (replicate words zero_word)) entries)

-- each list is what the journal tells the port of its number, in order
abbrev pub AreTold : List Entry → List (Vec Told) → Type 0
AreTold entries lists = (p : ℕ) → p < length lists → list_in lists p ≡ told_of p entries

-- what was found of the lists: nothing where there are none
abbrev pub FindsTold : List Entry → Option (List (Vec Told)) → Option Bool → Type 0
FindsTold entries None found = found ≡ None
FindsTold entries (Some lists) found = (found ≡ Some true) ↔ AreTold entries lists

-- none or one
abbrev pub told_list : Option Told → List Told
told_list None = []
told_list (Some told) = told ∷ []
