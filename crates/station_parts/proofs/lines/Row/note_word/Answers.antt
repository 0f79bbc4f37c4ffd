use Rattle.station_parts.proofs.Rowing.{line_counted}
use Rattle.station_parts.proofs.lines.Row.note_word.Goals as goal

pub returns : goal.returns
returns c =
    line_counted _ _ _ _ c.requires.there c.index_mut-line.ensures.value c.note_word.ensures.ring c.note_word.ensures.taken
