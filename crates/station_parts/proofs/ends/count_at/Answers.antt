use Rattle.std.proofs.Common.{arith}
use Rattle.station_parts.proofs.Rows.{here_after}
use Rattle.station_parts.proofs.Rowing.{pops_looked}
use Rattle.station_parts.proofs.UsedEnds.{pops_at}
use Rattle.station_parts.proofs.ends.count_at.Goals as goal

pub returns-clause-looks : goal.returns-clause-looks
returns-clause-looks g c = pops_at _ _ _ _ (omega arith) c.index_mut-end.ensures.value _ (pops_looked _ _ c.slots.ensures.looked)

pub returns-clause-number : goal.returns-clause-number
returns-clause-number g c = grind (arith, here_after)
