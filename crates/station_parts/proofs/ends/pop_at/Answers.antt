use Rattle.std.proofs.Common.{arith}
use Rattle.station_parts.proofs.UsedEnds.{pops_at, known_none}
use Rattle.station_parts.proofs.ends.pop_at.Goals as goal

pub returns-clause-pops : goal.returns-clause-pops
returns-clause-pops g c = pops_at _ _ _ _ (omega arith) c.index_mut-end.ensures.value _ c.pop_one.ensures.pops

pub returns-clause-none : goal.returns-clause-none
returns-clause-none g c = grind (arith, known_none)
