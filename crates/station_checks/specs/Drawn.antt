-- Scripts that are drawn part by part.
use Rattle.std.specs.Prelude.{ℕ, ◌-◌, List, length, slice_index_or}
use Rattle.station_journal.specs.declared.asks.Ask.{Ask}
use Rattle.station_checks.specs.declared.drawing.ScriptParts.{ScriptParts}
use Rattle.station_checks.specs.Asked.{asks_drawn, own_word, no_random}

-- of how many ports they are
abbrev pub ports_of : ScriptParts → ℕ
ports_of parts = length parts.randoms.items

-- how many asks of each port are still to be drawn
abbrev pub left_of : ScriptParts → ℕ
left_of parts = parts.asks - parts.drawn

-- the asks of a port that are still to be drawn
abbrev pub script_left : ScriptParts → ℕ → List Ask
script_left parts port =
    asks_drawn (own_word port) (slice_index_or parts.randoms.items port no_random) parts.drawn (left_of parts)
