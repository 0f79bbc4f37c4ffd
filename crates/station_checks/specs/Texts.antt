-- The texts of asks, entries and tellings. Events, answers and words are written as in a trace.
use Rattle.std.specs.Prelude.{ℕ, List, [], ◌∷◌, ◌++◌, codes, decimal}
use Rattle.flat_model.specs.Flat.{number}
use Rattle.flat_model.specs.Texts.{event_text, answer_text, word_text, lanes_text}
use Rattle.station_journal.specs.declared.asks.Ask.{Ask}
use Rattle.station_journal.specs.declared.asks.Ask.TheVariants.{Load, Store, Prefetch, Evict, Done}
use Rattle.station_journal.specs.declared.asks.Told.{Told}
use Rattle.station_journal.specs.declared.asks.Told.TheVariants.{Accepted, Refused, Value}
use Rattle.station_journal.specs.declared.journal.Entry.{Entry}
use Rattle.station_journal.specs.declared.journal.Entry.TheVariants.{Step, Ended}

-- a text, and the end of its line
abbrev pub line_of : List ℕ → List ℕ
line_of text = text ++ 10 ∷ []

-- a line of a recorded run, or that a port has ended
abbrev pub entry_text : Entry → List ℕ
entry_text (Step source event answer) = event_text event ++ codes " -> " ++ answer_text answer
entry_text (Ended port) = codes "port " ++ decimal port ++ codes " has ended"

-- what a port asks
abbrev pub ask_text : Ask → List ℕ
ask_text (Load tag at) = codes "load " ++ decimal tag ++ codes " " ++ decimal at
ask_text (Store at word lanes) = codes "store " ++ decimal at ++ codes " " ++ lanes_text lanes ++ codes " " ++ word_text word
ask_text (Prefetch at) = codes "prefetch " ++ decimal at
ask_text (Evict block) = codes "evict " ++ decimal block
ask_text Done = codes "done"

-- what a port is told
abbrev pub told_text : Told → List ℕ
told_text Accepted = codes "accepted"
told_text (Refused cause) = codes "refused " ++ decimal (number cause)
told_text (Value tag word) = codes "value " ++ decimal tag ++ codes " " ++ word_text word
