use Rattle.std.proofs.Common.{arith}
use Rattle.station_parts.proofs.Rows.{here_after}
use Rattle.station_parts.proofs.Rowing.{pushes_kept}
use Rattle.station_parts.proofs.UsedEnds.{looks_at}
use Rattle.station_parts.proofs.ends.look_at.Goals as goal

pub returns-clause-looks : goal.returns-clause-looks
returns-clause-looks g c =
    looks_at _ _ c.index_mut-end.result.now _ (omega arith) c.index_mut-end.ensures.value (grind (arith, pushes_kept))

pub returns-clause-room : goal.returns-clause-room
returns-clause-room g c = grind (arith, here_after)
