use Rattle.std.proofs.Common.{arith}
use Rattle.station_parts.proofs.Rows.{here_after}
use Rattle.station_parts.proofs.Rowing.{line_looks}
use Rattle.station_parts.proofs.lines.Row.look.Goals as goal

pub returns-clause-looks : goal.returns-clause-looks
returns-clause-looks c =
    line_looks _ _ _ _ (omega arith) c.index_mut-line.ensures.value c.look_for.ensures.ring c.look_for.ensures.taken

pub returns-clause-room : goal.returns-clause-room
returns-clause-room c = grind (arith, here_after)
