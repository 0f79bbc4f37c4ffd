-- How far a port has come with its script.
use Rattle.std.specs.Prelude.{ℕ, ◌+◌, ◌<◌, List, [], ◌∷◌, length, drop, slice_index_or}
use Rattle.station_journal.specs.declared.asks.Ask.{Ask}
use Rattle.station_journal.specs.declared.asks.Ask.TheVariants.{Done}
use Rattle.station_journal.specs.declared.asks.Told.{Told}
use Rattle.station_journal.specs.Conversation.{value_count, IsUnderWay}
use Rattle.ring_station.specs.declared.talk.Phase.{Phase}
use Rattle.ring_station.specs.declared.talk.Phase.TheVariants.{Offering, Awaiting, Closing, Astray}

-- the ask at a place of a script, and Done behind the last one
abbrev pub ask_at : List Ask → ℕ → Ask
ask_at script next = slice_index_or script next Done

-- a port that is on its way, with what is left of its script and the ask that has no verdict yet;
-- so many of its accepted loads' values are still to come
abbrev pub IsOwed : List Ask → List Ask → List Ask → ℕ → List Ask → List Told → Type 0
IsOwed script left unjudged owed offered taken =
    IsUnderWay script left unjudged (value_count taken + owed) (value_count taken) offered taken

-- what a port has offered and taken that is in this phase, at this place of its script; of one that
-- is astray nothing is said
abbrev pub HasTalked : List Ask → Phase → ℕ → ℕ → List Ask → List Told → Type 0
HasTalked script Offering next owed offered taken = IsOwed script (drop next script) [] owed offered taken
HasTalked script Awaiting next owed offered taken =
    (next < length script) × IsOwed script (drop next script) (ask_at script next ∷ []) owed offered taken
HasTalked script Closing next owed offered taken = IsOwed script [] (Done ∷ []) owed offered taken
HasTalked script Astray next owed offered taken = Unit {0}
