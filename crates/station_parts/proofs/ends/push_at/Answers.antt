use Rattle.std.proofs.Common.{arith}
use Rattle.station_parts.proofs.Rows.{there_if}
use Rattle.station_parts.proofs.Rowing.{pushes_kept}
use Rattle.station_parts.proofs.UsedEnds.{pushes_at}
use Rattle.rtrb.specs.Ring.{known_free}
use Rattle.station_parts.proofs.ends.push_at.Goals as goal

pub returns : goal.returns
returns g c =
    pushes_at _ _ c.index_mut-end.result.now _ (there_if known_free _ _ c.requires) c.index_mut-end.ensures.value _
    (grind (arith, pushes_kept))
