use Rattle.std.proofs.Common.{arith}
use Rattle.station_parts.proofs.Rows.{here_after}
use Rattle.station_parts.proofs.UsedEnds.{pops_at}
use Rattle.station_parts.proofs.ends.peek_at.Goals as goal

pub returns-clause-looks : goal.returns-clause-looks
returns-clause-looks g c = pops_at _ _ _ _ (omega arith) c.index_mut-end.ensures.value _ c.peek_end.ensures.looks

pub returns-clause-first : goal.returns-clause-first
returns-clause-first g c = grind (arith, here_after)
