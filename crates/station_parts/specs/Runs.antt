-- Ports that have had their whole conversations, and what an audit then finds.
use Rattle.std.specs.Prelude.{◌≡◌, ◌≢◌, ℕ, ◌<◌, List, [], length, map, slice_index_or}
use Rattle.std.specs.Global.{Vec}
use Rattle.station_journal.specs.declared.asks.Ask.{Ask}
use Rattle.station_journal.specs.declared.asks.Told.{Told}
use Rattle.station_journal.specs.declared.journal.Entry.{Entry}
use Rattle.station_journal.specs.Parts.{told_of}
use Rattle.station_journal.specs.Conversation.{Converses}
use Rattle.station_parts.specs.declared.port.Port.{Port}
use Rattle.station_parts.specs.declared.parts.Audit.{Audit}
use Rattle.station_parts.specs.declared.parts.Audit.TheVariants.{Left, Owed}
use Rattle.station_parts.specs.declared.parts.Ring.TheVariants as rings
use Rattle.station_parts.specs.Promises.{offered_by, taken_by}

-- the script, or the list, of port p
abbrev pub list_in : {T : Type 0} → List (Vec T) → ℕ → List T
list_in lists p = slice_index_or (map (λ v. v.items) lists) p []

-- since it was made each port has offered its script, each ask with its verdicts, and then Done; and it took its list,
-- in which are as many values as loads were accepted
pub record HaveConversed (scripts : List (Vec Ask)) (ports : List Port) (lists : List (Vec Told)) : Type 0 where
  pub number : length lists ≡ length ports
  pub each : (p : ℕ) → p < length ports → Converses (list_in scripts p) (offered_by ports p) (list_in lists p)
  pub took : (p : ℕ) → p < length ports → taken_by ports p ≡ list_in lists p

-- no value is owed, no telling is left for a port, and each list is all that the journal tells its port
pub record AreAnswered (found : Audit) (entries : List Entry) (lists : List (Vec Told)) : Type 0 where
  pub none_owed : (count : ℕ) → found ≢ Owed count
  pub none_left : (port : ℕ) → found ≢ Left (rings.Told port)
  pub told : (p : ℕ) → p < length lists → list_in lists p ≡ told_of p entries
