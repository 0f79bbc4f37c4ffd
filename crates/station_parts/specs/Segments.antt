-- The segments of a journal that was handed out in parts.
use Rattle.std.specs.Prelude.{List, [], ◌∷◌, ◌++◌}
use Rattle.std.specs.Global.{Vec}
use Rattle.station_journal.specs.declared.journal.Entry.{Entry}

-- one behind the other
abbrev pub whole_of : List (Vec Entry) → List Entry
whole_of [] = []
whole_of (segment ∷ rest) = segment.items ++ whole_of rest
