use Rattle.std.proofs.Common.{arith}
use Rattle.station_parts.proofs.Rows.{here_after, there_after, here_before, there_if}
use Rattle.station_parts.proofs.Rowing.{line_sent}
use Rattle.rtrb.specs.Ring.{known_free}
use Rattle.station_parts.specs.declared.row.Line.{Line}
use Rattle.station_parts.proofs.lines.RowLines.send.Goals as goal

pub returns-clause-sent : goal.returns-clause-sent
returns-clause-sent c = grind (arith, there_if, here_before, here_after)

pub returns-clause-room : goal.returns-clause-room
returns-clause-room c = grind (arith, there_if, here_before, here_after)

pub returns-clause-others : goal.returns-clause-others
returns-clause-others c b ne = grind (arith, there_after)

pub returns-clause-same : goal.returns-clause-same
returns-clause-same c =
    line_sent _ _ _ _ (there_if (λ (l : Line). known_free l.ring) _ _ c.requires) c.index_mut-line.ensures.value c.send.ensures.ring
    c.send.ensures.taken
